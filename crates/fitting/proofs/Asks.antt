-- The first item of a sequence by its place in the list, and the questions that the walk asks of it.
use mathlib.Core.Path.{◌≡◌, refl, sym, ap, ◌∙◌}
use mathlib.Core.Bool.{Bool, true, false, ◌&&◌, ◌||◌, not}
use mathlib.Core.List.{List}
use Prim.Native.Nat.{ℕ, suc, ◌+◌, ◌-◌, ◌^◌, ◌<◌, ◌≤◌, min}
use native.Mathlib.Omega.{arith}
use native.Mathlib.Decide.{dec_lt}
use lib.Dec.{eqb, leb, ltb}
use lib.IntN.{ℤ}
use lib.ListN.{length, length-replicate}
use borrow.Author.Tests.{eqb-true, lt-ltb, le-ltb, leb-true}
use Rattle.spans.specs.Tree.{end_of, size}
use Rattle.layout.specs.declared.Entry.{Entry}
use Rattle.items.specs.declared.Item.{Item}
use Rattle.items.specs.Items as Items
use Rattle.items.specs.Items.{values, head_of, count, scalar_ok, text_of, scalar_in, missing}
use Rattle.items.proofs.Items.{values-none, values-node, members-is, size-values}
use Rattle.fits.specs.Decide.{fits_of}
use Rattle.encode_leaf.proofs.Elements.{missing-by}
use Rattle.walks.specs.Walk.{never, times, how_many}
use Rattle.walks.specs.Kinds.{mask_of}
use Rattle.walks.specs.Decide.{holds, good_of}
use Rattle.decode_leaf.specs.Counts.{held_in}
use Rattle.fitting.specs.Steps.{headed, tabled, good}

-- ---- a List or Struct

module _ (name tag : ℕ) (v : List ℕ) (j to : ℕ) where
  abbrev it : Item
  it = head_of (values v j to)

  abbrev end : ℕ
  end = end_of (Items.span_of it) j to

  pub headed_at : headed name tag (values v j to)
      ≡ (ltb j to && (eqb it.name name && (eqb it.tag tag && (eqb it.a (count (values v (j + 1) end)) && eqb it.b (end - j)))))
  unfolding holds
  headed_at = go (dec_lt j to)
    where
      rest : ℕ → Bool
      rest n = eqb it.name name && (eqb it.tag tag && (eqb it.a (count (values v (j + 1) end)) && eqb it.b n))

      go : Dec (j < to) → headed name tag (values v j to) ≡ (ltb j to && rest (end - j))
      go (yes h) =
          let z : size (values v (j + 1) end) ≡ end - (j + 1) = size-values v (j + 1) end in
          let below : suc (size (values v (j + 1) end)) ≡ end - j = omega (arith, z) in
          ap (headed name tag) (values-node v j to it (Items.span_of it) end refl refl refl h) ∙ ap rest below ∙ ap (λ x. x && rest (end - j)) (sym (lt-ltb j to h))
      go (no h) = ap (headed name tag) (values-none v j to (omega arith)) ∙ ap (λ x. x && rest (end - j)) (sym (le-ltb j to (omega arith)))

-- ---- a scalar

module _ (masks text : List ℕ) (e : Entry) (name : ℕ) (v : List ℕ) (j to told : ℕ) where
  abbrev first : Item
  first = head_of (values v j to)

  abbrev behind : ℕ
  behind = end_of (Items.span_of first) j to

  pub good_at : first.a < 2 ^ 64 → good masks text e name (values v j to) told
      ≡ (ltb j to && (eqb first.name name && (leb behind (j + 1) && (scalar_ok (length text) first
      && (fits_of e.p e.q e.r e.s (mask_of masks e) e.width e.kind (scalar_in first) (text_of text first) && (not (eqb first.tag 1) || eqb first.a told))))))
  unfolding good_of
  good_at w = go (dec_lt j to)
    where
      last : Bool
      last = scalar_ok (length text) first && (fits_of e.p e.q e.r e.s (mask_of masks e) e.width e.kind (scalar_in first) (text_of text first) && (not (eqb first.tag 1) || eqb first.a told))

      alone : missing (values v (j + 1) behind) ≡ leb behind (j + 1)
      alone = missing-by v (j + 1) behind

      go : Dec (j < to) → good masks text e name (values v j to) told ≡ (ltb j to && (eqb first.name name && (leb behind (j + 1) && last)))
      go (yes h) =
          ap (λ vs. good masks text e name vs told) (values-node v j to first (Items.span_of first) behind refl refl refl h)
          ∙ rw (lt-ltb first.a (2 ^ 64) w, length-replicate {A = ℕ} told 0, alone, lt-ltb j to h) refl
      go (no h) =
          ap (λ vs. good masks text e name vs told) (values-none v j to (omega arith)) ∙ rw (le-ltb j to (omega arith)) refl

-- the text bytes stay inside the texts
pub text-within : (n : ℕ) (it : Item) → scalar_ok n it ≡ true → eqb it.tag 1 ≡ true → it.a + it.b ≤ n
unfolding scalar_ok
text-within n it h t =
    leb-true (it.a + it.b) n (sym (rw (eqb-true it.tag 1 t) refl) ∙ h)

-- ---- the count of a table

module _ (l : List ℕ) (e : Entry) (v : List ℕ) (j to : ℕ) (run : List ℤ) (b : Bool) (p : b ≡ headed e.name 6 (values v j to)) where
  pub tabled-not : b ≡ false → false ≡ tabled l e (values v j to) run
  unfolding tabled
  tabled-not h = rw (sym p ∙ h) refl

  module _ (t : b ≡ true) where
    pub tabled-never : (n : ℕ) → never n ≡ how_many (λ name r. held_in l name r) e run → false ≡ tabled l e (values v j to) run
    unfolding tabled
    tabled-never n h = rw (sym p ∙ t, ← h) refl

    pub tabled-times : (n : ℕ) → times n ≡ how_many (λ name r. held_in l name r) e run → (en k m : ℕ) → en ≡ end_of (Items.span_of (head_of (values v j to))) j to → k ≡ min en (j + 1)
        → m ≡ count (values v k en) → eqb n m ≡ tabled l e (values v j to) run
    unfolding tabled
    tabled-times n h en k m u w x = rw (sym p ∙ t, ← h, members-is v j to (head_of (values v j to)) (Items.span_of (head_of (values v j to))) en refl refl u k w, x) refl
