-- A scalar that is inside the record, and every entry but a group: what the code answers by what the bytes say.
use mathlib.Core.Path.{◌≡◌, refl, sym, ap, ◌∙◌}
use mathlib.Core.Bool.{Bool, true, false, cond}
use mathlib.Core.List.{List, ◌++◌}
use Prim.Native.Nat.{ℕ, ◌+◌, ◌-◌, ◌≤◌}
use native.Mathlib.Omega.{arith}
use Rattle.std.specs.Prelude.{Result, Ok, Err, is_ok}
use lib.Dec.{eqb, leb}
use lib.IntN.{ℤ}
use lib.ListN.{length, take, drop}
use borrow.Author.Tests.{le-leb, leb-true}
use Rattle.codes.specs.declared.Refusal.{Refusal}
use Rattle.layout.specs.declared.Entry.{Entry}
use Rattle.layout.specs.Layout.{is_pad, unrepeated}
use Rattle.layout.proofs.Entries.{controls-table}
use Rattle.value.specs.Answer.{refused as refused_by, given}
use Rattle.value.specs.declared.Scalar.{Scalar}
use Rattle.decode_scalar.specs.Decode.{Says, says, answer_of, text_after}
use Rattle.walks.specs.Walk.{leaf}
use Rattle.walks.specs.Reading.{Outcome, refused, placed, scalar, pad}
use Rattle.decode_leaf.specs.declared.Out.{Out}
use Rattle.decode_leaf.specs.Counts.{note_in}
use Rattle.decode_leaf.specs.Machine.{Held, out, state, leaf_of, leaf_at, dec, kept, moved_in, told_in, Fine, Met, Still, Placed, Lone, text_in, text_behind}
use Rattle.decode_leaf.proofs.Said.{Read, matches, refused-leaf, read-leaf}

-- an item in a state that is known
value-met : {o : Outcome Held} {O : Held → Outcome Held} {noted run : List ℤ} {behind width : ℕ} {before : List ℕ} (r : Result Out Refusal) {items : List ℕ} (buffer : List ℕ)
    → o ≡ O (state noted behind buffer) → behind ≤ length buffer → (is_ok r ≡ true → run ≡ noted) → Placed O behind width before r items → Met o r items buffer run
value-met {noted = noted} {behind = behind} {width = width} (Ok x) {items = items} buffer e h c p =
    let f = p.met in
    rw (f.answer, c refl) (record { is = e ∙ f.is (state noted behind buffer); within = f.within; told = h; few = omega arith })
value-met {noted = noted} {behind = behind} (Err x) buffer e h c p = e ∙ p.met (state noted behind buffer)

-- the counts behind a scalar: set where its item found a place
noted : (r : Result Out Refusal) (set held run : List ℤ) → run ≡ cond (is_ok r) set held → is_ok r ≡ true → run ≡ set
noted (Ok x) set held run c z = c
noted (Err e) set held run c z = absurd (omega (arith, ap (λ b. cond {A = ℕ} b 1 0) z))

still : (r : Result Out Refusal) (set held run : List ℤ) → run ≡ cond (is_ok r) set held → Still r held run
still (Ok x) set held run c = tt
still (Err e) set held run c = c

-- an element of a table sets no count
note-none : (l : List ℕ) (deps : Bool) (e : Entry) (v : Scalar) (run : List ℤ) → unrepeated e ≡ false → run ≡ note_in l deps e v run
unfolding note_in
note-none l deps e v run q = go deps
  where
    go : (d : Bool) → run ≡ note_in l d e v run
    go true = rw (← controls-table e refl q) refl
    go false = refl

module _ (l bytes : List ℕ) (page : ℕ) (deps : Bool) (e : Entry) (name : ℕ) (once : Bool) (at room : ℕ) (run : List ℤ) (told : ℕ) (buffer : List ℕ) where
  abbrev Said : Says
  Said = says e.kind e.p e.q e.r page (take e.width (drop at bytes))

  abbrev pub Scalar-at : Outcome Held
  Scalar-at = scalar (kept l page (length buffer) deps) bytes e name once at room (state run told buffer)

  abbrev pub Leaf-at : Outcome Held
  Leaf-at = leaf_at (kept l page (length buffer) deps) bytes e name once at room (state run told buffer)

  module _ (inside : at + e.width ≤ length bytes) (h : told ≤ length buffer) where
    scalar_is : Scalar-at ≡ placed name once e.width room (leaf_of l page (length buffer) deps e (state run told buffer) Said)
    unfolding scalar dec
    scalar_is = rw (le-leb (at + e.width) (length bytes) inside) refl

    pub value-refuses : (n : ℕ) → refused_by n ≡ answer_of Said (length buffer - told) → Scalar-at ≡ refused n
    value-refuses n q = scalar_is ∙ ap (placed name once e.width room) (refused-leaf l page deps e run told buffer h Said n q)

    module _ (v : Scalar) (q : given v ≡ answer_of Said (length buffer - told)) (after : List ℕ) (a : after ≡ take told buffer ++ text_after Said (drop told buffer)) where
      pub value_read : Read l page deps e run told buffer h Said v after
      value_read = read-leaf l page deps e run told buffer h Said (matches e.kind e.p e.q e.r page (take e.width (drop at bytes))) v q after a

      value-reads : {before : List ℕ} (r : Result Out Refusal) {items : List ℕ} {run' : List ℤ} → (is_ok r ≡ true → run' ≡ note_in l deps e v run)
          → Placed (λ s. placed name once e.width room (leaf (moved_in told v) s)) (told_in told v) e.width before r items
          → Met Scalar-at r items after run'
      value-reads r c f = value-met r after (scalar_is ∙ ap (placed name once e.width room) value_read.is) value_read.within c f

      pub lone-reads : {before : List ℕ} (r : Result Out Refusal) {items : List ℕ} {run' : List ℤ} → run' ≡ cond (is_ok r) (note_in l deps e v run) run
          → Placed (λ s. placed name once e.width room (leaf (moved_in told v) s)) (told_in told v) e.width before r items
          → Lone Scalar-at before run r items after run'
      lone-reads r c f = record { met = value-reads r (noted r _ _ _ c) f; rest = f.rest; counts = still r _ _ _ c }

      pub element-reads : {before : List ℕ} (r : Result Out Refusal) {items : List ℕ} → unrepeated e ≡ false
          → Placed (λ s. placed name once e.width room (leaf (moved_in told v) s)) (told_in told v) e.width before r items
          → Met Scalar-at r items after run
      element-reads r u f = value-reads r (λ _. note-none l deps e v run u) f

  -- by the tests of the code: whether the entry is inside the record, whether it is a Pad
  module _ (b : Bool) (p : b ≡ leb (at + e.width) (length bytes)) where
    pub leaf-outside : b ≡ false → Leaf-at ≡ refused 7
    unfolding scalar pad
    leaf-outside q = rw (← p, q) (go (is_pad e))
      where
        go : (x : Bool) → cond {A = Outcome Held} x (refused 7) (refused 7) ≡ refused 7
        go true = refl
        go false = refl

    pub leaf-inside : b ≡ true → at + e.width ≤ length bytes
    leaf-inside q = leb-true (at + e.width) (length bytes) (sym p ∙ q)

    pub leaf-pad : b ≡ true → eqb e.kind 6 ≡ true → told ≤ length buffer → {r : Out} {items : List ℕ} → r ≡ out 0 0 e.width told → Fine Leaf-at r items buffer run
    unfolding pad is_pad
    leaf-pad q k h z = rw z (record { is = rw (k, ← p, q) refl; within = omega arith; told = h; few = omega arith })

  pub leaf-scalar : eqb e.kind 6 ≡ false → Leaf-at ≡ Scalar-at
  unfolding is_pad
  leaf-scalar k = rw k refl

-- the text buffer: only a scalar that is inside the record writes there
module _ (bytes : List ℕ) (page : ℕ) (e : Entry) (at told : ℕ) (buffer : List ℕ) (b : Bool) (p : b ≡ leb (at + e.width) (length bytes)) where
  pub text-outside : b ≡ false → buffer ≡ text_behind page bytes e at told buffer
  unfolding text_behind
  text-outside q = rw (← p, q) refl

  module _ (q : b ≡ true) where
    pub text-pad : eqb e.kind 6 ≡ true → buffer ≡ text_behind page bytes e at told buffer
    unfolding text_behind is_pad
    text-pad k = rw (← p, q, k) refl

    pub text-scalar : eqb e.kind 6 ≡ false → {after : List ℕ} → after ≡ text_in page bytes e at told buffer → after ≡ text_behind page bytes e at told buffer
    unfolding text_behind is_pad
    text-scalar k a = rw (← p, q, k) a
