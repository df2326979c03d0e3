-- The walk as the code goes is the plain walk of all kinds: counts in a run, noted only where some table depends on one.
use mathlib.Core.Path.{◌≡◌, refl, ap, ◌∙◌}
use mathlib.Core.Bool.{Bool, true, false, ◌&&◌, ◌||◌, cond, false≢true}
use mathlib.Core.Logic.{inl}
use mathlib.Core.List.{List, [], ◌∷◌, ◌++◌}
use Prim.Native.Nat.{ℕ, zero, suc, ◌+◌, ◌-◌, ◌<◌, ◌≤◌, ◌^◌}
use native.Mathlib.Omega.{arith}
use lib.Dec.{eqb, leb, ltb}
use lib.IntN.{ℤ}
use lib.ListN.{length}
use borrow.Author.Tests.{eqb-true, ltb-true}
use Rattle.lists.proofs.Logic.{and_right}
use Rattle.layout.specs.declared.Entry.{Entry}
use Rattle.layout.specs.Layout.{holds_count, controls, unrepeated, present, entry_at, entry_count, span_of, part, entries, checked_of, depends_in}
use Rattle.layout.proofs.Laws.{some_at}
use Rattle.layout.proofs.Lawful.{entry-lawful, spans-lawful, reserved-lawful}
use Rattle.spans.specs.Tree.{none, node, tree_in, tree, end_of}
use Rattle.value.specs.Answer.{Answer, refused as refused_by, given}
use Rattle.value.specs.declared.Whole.{Whole}
use Rattle.value.specs.declared.Scalar.{Scalar}
use Rattle.value.specs.declared.Scalar.TheVariants.{Null, Text, Int, Decimal, Float as FloatV, FloatBits, Bool as BoolV}
use Rattle.binary.specs.Binary.{integer_of}
use Rattle.decode_scalar.specs.Decode.{Says, refused, value, text, says, flag, int_says, int_in, decimal_says, decimal_in}
use Rattle.walks.specs.Walk.{times, at_most, bad, leaf, how_many}
use Rattle.walks.specs.Kinds as W
use Rattle.walks.specs.Kinds.{Count, State, start, count_of, noted, kinds}
use Rattle.walks.specs.Reading as R
use Rattle.positions.specs.Positions.{sat_sum}
use Rattle.decode_leaf.specs.Counts.{set_all, first, note_in}
use Rattle.decode_leaf.specs.Machine as M
use Rattle.decode_leaf.specs.Machine.{Held, kept}
use Rattle.decode_leaf.proofs.Ranges.{Small, int_small, binary-small, decimal-small}
use Rattle.decode_leaf.proofs.Stands.{Stands, first_some, stands_set}
use Rattle.walks.proofs.Alike.{Alike, Alike-leaf, both-bad, both-leaf, Each, Told, level, seq-alike}

-- ---- what a controller says is in range

abbrev pub Ranged : Says → Type 0
Ranged (refused n) = Unit {0}
Ranged (value (Int negative size)) = (negative && ltb 0 size) ≡ false → size < 2 ^ 63
Ranged (value (Decimal negative size scale)) = (negative && ltb 0 size) ≡ false → size < 2 ^ 63
Ranged (value Null) = Unit {0}
Ranged (value (Text a b)) = Unit {0}
Ranged (value (FloatV x)) = Unit {0}
Ranged (value (FloatBits x)) = Unit {0}
Ranged (value (BoolV b)) = Unit {0}
Ranged (text t) = Unit {0}

int-ranged : (n : Answer Whole) → Small n → Ranged (int_says n)
int-ranged (given n) h = h
int-ranged (refused_by question) h = tt

decimal-ranged : (scale : ℕ) (n : Answer Whole) → Small n → Ranged (decimal_says scale n)
decimal-ranged scale (given n) h = h
decimal-ranged scale (refused_by question) h = tt

ranged : (kind p q r page : ℕ) (bs : List ℕ) → holds_count kind r ≡ true → Ranged (says kind p q r page bs)
unfolding says
ranged kind p q r page bs h = go (eqb kind 1) (eqb kind 2) (eqb kind 7) refl refl refl h
  where
    go : (a b c : Bool) → eqb kind 1 ≡ a → eqb kind 2 ≡ b → eqb kind 7 ≡ c → (a || b || (c && eqb r 0)) ≡ true → Ranged (says kind p q r page bs)
    go true b c e f g z = rw (eqb-true kind 1 e) (int-ranged (int_in p q page bs) (int_small p q page bs))
    go false true c e f g z = rw (eqb-true kind 2 f) (int-ranged (integer_of p (flag q) bs) (binary-small p (flag q) bs))
    go false false true e f g z = rw (eqb-true kind 7 g) (decimal-ranged r (decimal_in p q page bs) (decimal-small p q page bs))
    go false false false e f g z = absurd (false≢true z)

module _ (l masks : List ℕ) (page room : ℕ) (deps : Bool) where
  -- the code's state stands for the plain one
  abbrev pub Rel : Held → State → Type 0
  Rel t s = (deps ≡ true → Stands l s.counts t.run) × (t.text ≡ s.text)

  -- ---- one entry

  module _ (e : Entry) (found : first l e.name < entry_count l) where
    kept_run : (b : Bool) {cs : List Count} {run : List ℤ} → Stands l cs run → Stands l (cond (controls e) [] [] ++ cs) (cond b (set_all l (cond (controls e) [] []) run) run)
    kept_run b s = go b (controls e) s
      where
        go : (b c : Bool) {cs : List Count} {run : List ℤ} → Stands l cs run → Stands l (cond c [] [] ++ cs) (cond b (set_all l (cond c [] []) run) run)
        go true true s = s
        go true false s = s
        go false true s = s
        go false false s = s

    set-stands : (b : Bool) (negative : Bool) (size : ℕ) (cs : List Count) (run : List ℤ) → (b ≡ true → (negative && ltb 0 size) ≡ false → size < 2 ^ 63) → Stands l cs run
        → Stands l (cond b (record { name = e.name; negative = negative; size = size } ∷ []) [] ++ cs) (set_all l (cond b (record { name = e.name; negative = negative; size = size } ∷ []) []) run)
    set-stands true negative size cs run h s = stands_set l cs run e.name negative size found (h refl) s
    set-stands false negative size cs run h s = s

    pub noted-stands : (v : Scalar) (cs : List Count) (run : List ℤ) → (controls e ≡ true → Ranged (value v)) → deps ≡ true → Stands l cs run
        → Stands l (count_of e v ++ cs) (note_in l deps e v run)
    unfolding note_in
    noted-stands (Int negative size) cs run h d s = rw d (set-stands (controls e) negative size cs run h s)
    noted-stands (Decimal negative size scale) cs run h d s = rw d (set-stands (controls e) negative size cs run h s)
    noted-stands Null cs run h d s = kept_run deps s
    noted-stands (Text a b) cs run h d s = kept_run deps s
    noted-stands (FloatV x) cs run h d s = kept_run deps s
    noted-stands (FloatBits x) cs run h d s = kept_run deps s
    noted-stands (BoolV x) cs run h d s = kept_run deps s

    text-alike : (b : Bool) (t : List ℕ) (run : List ℤ) (cs : List Count) (so : List ℕ) → (deps ≡ true → Stands l cs run)
        → Alike-leaf Rel (cond b (leaf (Text (length so) (length t)) (record { run = run; text = so ++ t })) (bad 16)) (cond b (leaf (Text (length so) (length t)) (record { counts = cs; text = so ++ t })) (bad 16))
    text-alike true t run cs so h = both-leaf (Text (length so) (length t)) (record { run = run; text = so ++ t }) (record { counts = cs; text = so ++ t }) (h, refl)
    text-alike false t run cs so h = both-bad 16

    said-alike : (x : Says) → (controls e ≡ true → Ranged x) → (t : Held) (s : State) → Rel t s → Alike-leaf Rel (M.leaf_of l page room deps e t x) (W.leaf_of masks page [] room e s x)
    said-alike (refused n) h t s r = both-bad n
    said-alike (value v) h t s r = both-leaf v (record { run = note_in l deps e v t.run; text = t.text }) (noted e v s)
        ((λ d. noted-stands v s.counts t.run h d (r.0 d)), r.1)
    said-alike (text tx) h t s r = rw r.1 (text-alike (leb (length s.text + length tx) room) tx t.run s.counts s.text r.0)

    control-kind : controls e ≡ true → holds_count e.kind e.r ≡ true
    unfolding controls
    control-kind h = and_right (unrepeated e) (holds_count e.kind e.r) h

    reads-alike : (bs : List ℕ) (t : Held) (s : State) → Rel t s → Alike-leaf Rel ((kept l page room deps).dec e bs t) ((kinds masks page [] room).dec e bs s)
    unfolding M.dec W.dec
    reads-alike bs t s r = said-alike (says e.kind e.p e.q e.r page bs)
        (λ h. ranged e.kind e.p e.q e.r page bs (control-kind h)) t s r

    counts-alike : (present e.depending ≡ true → deps ≡ true) → (t : Held) (s : State) → Rel t s → how_many (kept l page room deps).held e t ≡ how_many (kinds masks page [] room).held e s
    unfolding how_many
    counts-alike h t s r = go (present e.depending) refl
      where
        go : (b : Bool) → present e.depending ≡ b
            → cond b (at_most e.occurs ((kept l page room deps).held e.depending t)) (times e.occurs) ≡ cond b (at_most e.occurs ((kinds masks page [] room).held e.depending s)) (times e.occurs)
        go true q = ap (at_most e.occurs) ((r.0 (h q)).same e.depending)
        go false q = refl

  -- ---- all entries of a lawful layout

  abbrev Told-of : Entry → Type 0
  Told-of = Told Rel (kept l page room deps) (kinds masks page [] room)

  each_in : (n lo hi : ℕ) → ((i : ℕ) → i < hi → Told-of (entry_at l i)) → Each Rel Told-of (tree_in n (entry_at l) span_of lo hi)
  unfolding tree_in
  each_in zero lo hi f = tt
  each_in (suc n) lo hi f = go (ltb lo hi) refl
      (λ h. each_in n (suc lo) (end_of (entry_at l lo).span lo hi) (λ i k. f i (omega (arith, k, h))))
      (λ h. each_in n (end_of (entry_at l lo).span lo hi) hi f)
    where
      go : (b : Bool) → ltb lo hi ≡ b → (lo < hi → Each Rel Told-of (tree_in n (entry_at l) span_of (suc lo) (end_of (entry_at l lo).span lo hi)))
          → (lo < hi → Each Rel Told-of (tree_in n (entry_at l) span_of (end_of (entry_at l lo).span lo hi) hi))
          → Each Rel Told-of (cond b (node (entry_at l lo) (tree_in n (entry_at l) span_of (suc lo) (end_of (span_of (entry_at l lo)) lo hi)) (tree_in n (entry_at l) span_of (end_of (span_of (entry_at l lo)) lo hi) hi)) none)
      go true e a b = (f lo (ltb-true lo hi e), (a (ltb-true lo hi e), b (ltb-true lo hi e)))
      go false e a b = tt

  each_part : (hi : ℕ) → ((i : ℕ) → i < hi → Told-of (entry_at l i)) → Each Rel Told-of (part l 0 hi)
  unfolding tree
  each_part hi f = each_in (hi - 0) 0 hi f

  module _ (ok : checked_of l masks page ≡ 0) (d : deps ≡ depends_in l) where
    named : (i : ℕ) → i < entry_count l → first l (entry_at l i).name < entry_count l
    unfolding entry_at
    named i h = first_some l i (entry_at l i).name h refl

    depending : (i : ℕ) → i < entry_count l → present (entry_at l i).depending ≡ true → deps ≡ true
    unfolding depends_in
    depending i h p = d ∙ some_at (λ j. present (entry_at l j).depending) (entry_count l) i h p

    told-entry : (i : ℕ) → i < entry_count l → Told-of (entry_at l i)
    told-entry i h = record {
      reads = reads-alike (entry_at l i) (named i h);
      counts = counts-alike (entry_at l i) (named i h) (depending i h);
      reserved = omega (arith, reserved-lawful (entry_at l i) (length masks) (entry-lawful l masks page ok i h));
    }

    -- the whole walk, as the code begins it
    pub joined : (bytes : List ℕ) → length bytes ≤ 65536 → (items : ℕ) (run : List ℤ) → (deps ≡ true → Stands l [] run)
        → Alike Rel (level Rel 8) (R.seq sat_sum (kept l page room deps) bytes (entries l) 0 0 items (record { run = run; text = [] })) (R.seq ◌+◌ (kinds masks page [] room) bytes (entries l) 0 0 items start)
    joined bytes short items run s = seq-alike Rel (kept l page room deps) (kinds masks page [] room) bytes short (entries l) 8 (omega arith) (spans-lawful l masks page ok)
        (each_part (entry_count l) told-entry) 0 0 0 0 items (record { run = run; text = [] }) start (inl refl) (inl refl) (s, refl)
