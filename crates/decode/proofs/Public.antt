-- The whole call: what its questions and its walk come to.
use mathlib.Core.Path.{◌≡◌, refl, sym, ap, ap₂, ◌∙◌}
use mathlib.Core.Bool.{Bool, true, false, ◌&&◌, ◌||◌, cond}
use mathlib.Core.List.{List, []}
use Prim.Native.Nat.{ℕ, ◌+◌, ◌≤◌}
use native.Mathlib.Omega.{arith}
use lib.Dec.{leb}
use lib.IntN.{ℤ, pos}
use lib.ListN.{length, replicate}
use borrow.Author.Tests.{leb-true}
use Rattle.layout.specs.Layout.{work_for, entries, checked_of, record_length, depends_in, layout_asks}
use Rattle.layout.proofs.Laws.{asked-lawful}
use Rattle.walks.specs.Kinds.{State, start, kinds}
use Rattle.walks.specs.Reading as R
use Rattle.positions.specs.Positions.{sat_sum}
use Rattle.walks.specs.Records.{Decoded, refused, decoded, most, outcome, decode_record, asking, record_asks, reader_asks}
use Rattle.walks.proofs.Asked.{asking-none, asking-some, both-passed}
use Rattle.decode_leaf.specs.Machine.{Held, kept}
use Rattle.decode_leaf.proofs.Stands.{stands-none}
use Rattle.walks.proofs.Alike.{Alike, both-refused, both_read, level}
use Rattle.decode_leaf.proofs.Joined.{Rel, joined}

-- ---- outcomes that are alike

abbrev tag : {S : Type 0} → R.Outcome S → ℕ
tag (R.refused n) = 0
tag (R.read ws m t s) = 1

alike-refused : {Rel : Held → State → Type 0} {k : ℕ} {o : R.Outcome Held} {p : R.Outcome State} → Alike Rel k o p → (n : ℕ) → o ≡ R.refused n → outcome p ≡ refused n
alike-refused (both-refused m) n e = let z : m ≡ n = cc in ap refused z
alike-refused (both_read ws m t t' s s' h r) n e = absurd (omega (arith, ap tag e))

alike_read : {Rel : Held → State → Type 0} {k : ℕ} {o : R.Outcome Held} {p : R.Outcome State} → Alike Rel k o p → ((t : Held) (s : State) → Rel t s → t.text ≡ s.text)
    → (ws : List ℕ) (m t : ℕ) (s : Held) → o ≡ R.read ws m t s → outcome p ≡ decoded ws s.text
alike_read (both-refused n) f ws m t s e = absurd (omega (arith, ap tag e))
alike_read (both_read vs n u u' w w' h r) f ws m t s e =
    let a : vs ≡ ws = cc in
    let b : w ≡ s = cc in
    ap₂ decoded a (sym (f w w' r) ∙ ap (λ x. x.text) b)

-- ---- the questions before the walk

module _ (l masks : List ℕ) (page : ℕ) (bytes : List ℕ) (items text work : ℕ) (deps : Bool) (d : deps ≡ depends_in l) where
  abbrev pub Whole : Decoded
  Whole = decode_record l masks page bytes items text work

  abbrev Walk : R.Outcome State
  Walk = R.seq ◌+◌ (kinds masks page [] text) bytes (entries l) 0 0 items start

  abbrev Number : ℕ
  Number = reader_asks l masks page (length bytes) work deps

  asked_is : Whole ≡ asking refused Number (outcome Walk)
  unfolding decode_record
  asked_is = rw (← d) refl

  module _ (n : ℕ) (p : n ≡ Number) where
    pub not-asked : (n ≡ 0 → ⊥) → Whole ≡ refused n
    not-asked f = asked_is ∙ rw (← p) (asking-some refused (outcome Walk) n f)

    module _ (z : n ≡ 0) where
      walk_is : Whole ≡ outcome Walk
      walk_is = asked_is ∙ asking-none refused (outcome Walk) Number (sym p ∙ z)

      passed : (layout_asks l masks page work ≡ 0) × (record_asks l (length bytes) deps ≡ 0)
      passed = both-passed (layout_asks l masks page work) (record_asks l (length bytes) deps) (sym p ∙ z)

      pub not-long : length bytes ≤ most
      not-long = go (leb (length bytes) most) refl (deps || leb (record_length l) (length bytes)) passed.1
        where
          go : (c : Bool) → leb (length bytes) most ≡ c → (f : Bool) → ◌≡◌ {A = ℕ} (cond (c && f) 0 4) 0 → length bytes ≤ most
          go true w f e = leb-true (length bytes) most w
          go false w f e = absurd (omega (arith, e))

      layout-lawful : (checked_of l masks page ≡ 0) × (work_for l ≤ work)
      layout-lawful = asked-lawful l masks page work passed.0

      -- only a layout with depending looks at the counts
      module _ (run before : List ℤ) (started : run ≡ cond deps (replicate work (pos 0)) before) where
        alike : Alike (Rel l masks page text deps) (level (Rel l masks page text deps) 8) (R.seq sat_sum (kept l page text deps) bytes (entries l) 0 0 items (record { run = run; text = [] })) Walk
        alike = joined l masks page text deps layout-lawful.0 d bytes not-long items run (λ q. rw (started, q) (stands-none l work layout-lawful.1))

        pub walk_refused : (m : ℕ) → R.seq sat_sum (kept l page text deps) bytes (entries l) 0 0 items (record { run = run; text = [] }) ≡ R.refused m → Whole ≡ refused m
        walk_refused m e = walk_is ∙ alike-refused alike m e

        pub walk-read : (ws : List ℕ) (m t : ℕ) (s : Held) → R.seq sat_sum (kept l page text deps) bytes (entries l) 0 0 items (record { run = run; text = [] }) ≡ R.read ws m t s → Whole ≡ decoded ws s.text
        walk-read ws m t s e = walk_is ∙ alike_read alike (λ t s r. r.1) ws m t s e
