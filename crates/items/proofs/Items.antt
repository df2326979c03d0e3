-- Laws of a value list's sequences by places in the list, of lookup by name, and of what a well formed list is.
use mathlib.Core.Path.{◌≡◌, refl, sym, ap, ◌∙◌}
use mathlib.Core.Bool.{Bool, true, false, cond}
use mathlib.Core.List.{List}
use Prim.Native.Nat.{ℕ, zero, suc, ◌+◌, ◌-◌, ◌<◌, ◌≤◌, min}
use native.Mathlib.Omega.{arith}
use native.Mathlib.Decide.{dec_lt}
use lib.Dec.{eqb}
use borrow.Author.Tests.{eq-eqb, ne_eqb, eqb-true, eqb-false}
use Rattle.std.proofs.Common.{Some}
use Rattle.std.specs.List.{find}
use Rattle.std.specs.Option.{option_map_or}
use Rattle.items.specs.declared.Item.{Item}
use Rattle.spans.specs.Tree.{none, node, end_of, size, level}
use Rattle.spans.proofs.Tree.{tree-none, tree-at, size-tree}
use Rattle.items.specs.Items.{Values, item_at, holds, span_of, values, head_of, members_of, rest_of, lookup, place_of}

pub values-none : (v : List ℕ) (i to : ℕ) → to ≤ i → values v i to ≡ none
unfolding values
values-none v i to h = tree-none (item_at v) span_of i to h

pub size-values : (v : List ℕ) (lo hi : ℕ) → size (values v lo hi) ≡ hi - lo
unfolding values
size-values v lo hi = size-tree (item_at v) span_of lo hi

module _ (v : List ℕ) (i to : ℕ) where
  pub head_in : i < to → item_at v i ≡ head_of (values v i to)
  unfolding values
  head_in h = sym (ap head_of (tree-at (item_at v) span_of i to (item_at v i) (end_of (span_of (item_at v i)) i to) h refl refl))

  pub head-out : to ≤ i → head_of none ≡ head_of (values v i to)
  head-out h = sym (ap head_of (values-none v i to h))

  pub lookup-none : (name : ℕ) → to ≤ i → lookup name (values v i to) ≡ values v to to
  unfolding lookup
  lookup-none name h = rw (values-none v i to h, values-none v to to (omega arith))

  -- a suffix is found in one place only
  pub place_is : (name r : ℕ) → r ≤ to → lookup name (values v i to) ≡ values v r to → r ≡ place_of v name i to
  place_is name r h e = let z : size (lookup name (values v i to)) ≡ to - r = ap size e ∙ size-values v r to in omega arith

  module _ (it : Item) (span en : ℕ) (p : it ≡ head_of (values v i to)) (s : span ≡ span_of it) (q : en ≡ end_of span i to) where
    pub values-node : i < to → values v i to ≡ node it (values v (i + 1) en) (values v en to)
    unfolding values
    values-node h = tree-at (item_at v) span_of i to it en h (p ∙ sym (head_in h)) (q ∙ ap (λ n. end_of n i to) s)

    -- the places of what stands behind an item, and of its members: also where there is no item
    pub rest-is : rest_of (values v i to) ≡ values v en to
    rest-is = go (dec_lt i to)
      where
        go : Dec (i < to) → rest_of (values v i to) ≡ values v en to
        go (yes h) = ap rest_of (values-node h)
        go (no h) = ap rest_of (values-none v i to (omega arith)) ∙ sym (values-none v en to (omega arith))

    module _ (m : ℕ) (r : m ≡ min en (i + 1)) where
      pub members-is : members_of (values v i to) ≡ values v m en
      members-is = go (dec_lt i to)
        where
          go : Dec (i < to) → members_of (values v i to) ≡ values v m en
          go (yes h) =
              let z : i + 1 ≡ m = omega arith in
              ap members_of (values-node h) ∙ ap (λ n. values v n en) z
          go (no h) = ap members_of (values-none v i to (omega arith)) ∙ sym (values-none v m en (omega arith))

      -- a scalar has no members
      pub members-scalar : holds it.tag ≡ false → values v m en ≡ none
      members-scalar z =
          let w : span ≡ 1 = s ∙ ap (λ h. cond h it.b 1) z in
          values-none v m en (omega arith)

      pub members-null : it.tag ≡ 0 → values v m en ≡ none
      members-null z = members-scalar (ap holds z)

    pub lookup-hit : (name : ℕ) → i < to → it.name ≡ name → lookup name (values v i to) ≡ values v i to
    unfolding lookup
    lookup-hit name h e = rw (values-node h, eq-eqb it.name name e)

    pub lookup-more : (name : ℕ) → i < to → (it.name ≡ name → ⊥) → lookup name (values v i to) ≡ lookup name (values v en to)
    unfolding lookup
    lookup-more name h e = rw (values-node h, ne_eqb it.name name e)

-- what stands from the first item of a name on begins at its place
module _ (v : List ℕ) (name to : ℕ) where
  somewhere : (n i : ℕ) → to - i ≤ n → (r : ℕ) × ((r ≤ to) × (lookup name (values v i to) ≡ values v r to))
  somewhere zero i h = (to, (omega arith, lookup-none v i to name (omega arith)))
  somewhere (suc n) i h = go (dec_lt i to) (eqb it.name name) refl (λ a k. somewhere n a k)
    where
      it : Item
      it = head_of (values v i to)

      en : ℕ
      en = end_of (span_of it) i to

      go : Dec (i < to) → (b : Bool) → eqb it.name name ≡ b → ((a : ℕ) → to - a ≤ n → (r : ℕ) × ((r ≤ to) × (lookup name (values v a to) ≡ values v r to)))
          → (r : ℕ) × ((r ≤ to) × (lookup name (values v i to) ≡ values v r to))
      go (no k) b e ih = (to, (omega arith, lookup-none v i to name (omega arith)))
      go (yes k) true e ih = (i, (omega arith, lookup-hit v i to it (span_of it) en refl refl refl name k (eqb-true it.name name e)))
      go (yes k) false e ih =
          let f = ih en (omega arith) in
          (f.0, (f.1.0, lookup-more v i to it (span_of it) en refl refl refl name k (eqb-false it.name name e) ∙ f.1.1))

  pub found-there : (i : ℕ) → lookup name (values v i to) ≡ values v (place_of v name i to) to
  found-there i =
      let f = somewhere (to - i) i (omega arith) in
      f.1.1 ∙ ap (λ r. values v r to) (place_is v i to name f.0 f.1.0 f.1.1)

  taken : (t : Values) (i : ℕ) → to ≡ i + size t → option_map_or (λ p. p.0) (find (λ p. eqb p.1.name name) (level i t)) to ≡ to - size (lookup name t)
  unfolding level lookup size
  taken none i h = omega arith
  taken (node it members rest) i h = go (eqb it.name name) (taken rest (i + suc (size members)) (omega arith))
    where
      go : (b : Bool) → option_map_or (λ p. p.0) (find (λ p. eqb p.1.name name) (level (i + suc (size members)) rest)) to ≡ to - size (lookup name rest)
          → option_map_or (λ p. p.0) (cond b (Some (i, it)) (find (λ p. eqb p.1.name name) (level (i + suc (size members)) rest))) to ≡ to - size (cond b (node it members rest) (lookup name rest))
      go true ih = omega arith
      go false ih = ih

  pub place-by-level : (i : ℕ) → option_map_or (λ p. p.0) (find (λ p. eqb p.1.name name) (level i (values v i to))) to ≡ place_of v name i to
  unfolding level lookup size
  place-by-level i = go (dec_lt i to)
    where
      go : Dec (i < to) → option_map_or (λ p. p.0) (find (λ p. eqb p.1.name name) (level i (values v i to))) to ≡ place_of v name i to
      go (yes h) = taken (values v i to) i (omega (arith, size-values v i to))
      go (no h) = rw (values-none v i to (omega arith)) (omega arith)
