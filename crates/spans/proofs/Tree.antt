-- Laws of the tree that spans make, and of well nested spans.
use mathlib.Core.Path.{◌≡◌, refl, sym, ap, ap₂, ◌∙◌}
use mathlib.Core.Bool.{Bool, true, false, ◌&&◌, ◌||◌, cond, false≢true, or-true}
use mathlib.Core.List.{[], ◌∷◌}
use Prim.Native.Nat.{ℕ, zero, suc, ◌+◌, ◌-◌, ◌<◌, ◌≤◌}
use native.Mathlib.Omega.{arith}
use native.Mathlib.Numerals.{add-one}
use lib.Dec.{ltb, eqb}
use lib.ListN.{length}
use borrow.Author.Tests.{lt-ltb, le-ltb, ltb-true, ltb-false, eqb-true}
use Rattle.lists.proofs.Logic.{and_left, and_right}
use Rattle.spans.specs.Tree.{Tree, none, node, end_of, tree_in, tree, level, size, span_ok, nested}

module _ {A : Type 0} (at : ℕ → A) (span : A → ℕ) where
  -- more than enough depth makes no difference
  enough : (f g lo hi : ℕ) → hi - lo ≤ f → hi - lo ≤ g → tree_in f at span lo hi ≡ tree_in g at span lo hi
  unfolding tree_in
  enough zero zero lo hi p q = refl
  enough zero (suc g) lo hi p q = simp (le-ltb lo hi (omega arith))
  enough (suc f) zero lo hi p q = simp (le-ltb lo hi (omega arith))
  enough (suc f) (suc g) lo hi p q = go (ltb lo hi) refl (λ lo' hi'. enough f g lo' hi')
    where
      go : (b : Bool) → ltb lo hi ≡ b → ((lo' hi' : ℕ) → hi' - lo' ≤ f → hi' - lo' ≤ g → tree_in f at span lo' hi' ≡ tree_in g at span lo' hi')
          → cond b (node (at lo) (tree_in f at span (suc lo) (end_of (span (at lo)) lo hi)) (tree_in f at span (end_of (span (at lo)) lo hi) hi)) none
          ≡ cond b (node (at lo) (tree_in g at span (suc lo) (end_of (span (at lo)) lo hi)) (tree_in g at span (end_of (span (at lo)) lo hi) hi)) none
      go true e ih = ap₂ (node (at lo))
          (ih (suc lo) (end_of (span (at lo)) lo hi) (omega (arith, ltb-true lo hi e)) (omega (arith, ltb-true lo hi e)))
          (ih (end_of (span (at lo)) lo hi) hi (omega (arith, ltb-true lo hi e)) (omega (arith, ltb-true lo hi e)))
      go false e ih = refl

  pub tree-none : (lo hi : ℕ) → hi ≤ lo → tree at span lo hi ≡ none
  unfolding tree tree_in
  tree-none lo hi h = let z : hi - lo ≡ 0 = omega arith in rw z

  tree-node-suc : (f lo hi : ℕ) → lo < hi → hi - lo ≡ suc f
      → tree_in (suc f) at span lo hi ≡ node (at lo) (tree at span (lo + 1) (end_of (span (at lo)) lo hi)) (tree at span (end_of (span (at lo)) lo hi) hi)
  unfolding tree_in tree
  tree-node-suc f lo hi h p = simp (lt-ltb lo hi h) (ap₂ (node (at lo))
      (enough f (end_of (span (at lo)) lo hi - (lo + 1)) (suc lo) (end_of (span (at lo)) lo hi) (omega arith) (omega arith) ∙ ap (λ n. tree_in (end_of (span (at lo)) lo hi - (lo + 1)) at span n (end_of (span (at lo)) lo hi)) (sym (add-one lo)))
      (enough f (hi - end_of (span (at lo)) lo hi) (end_of (span (at lo)) lo hi) hi (omega arith) (omega arith)))

  tree-node : (lo hi : ℕ) → lo < hi
      → tree at span lo hi ≡ node (at lo) (tree at span (lo + 1) (end_of (span (at lo)) lo hi)) (tree at span (end_of (span (at lo)) lo hi) hi)
  unfolding tree
  tree-node lo hi h =
      let z : hi - lo ≡ suc (hi - lo - 1) = omega arith in
      ap (λ f. tree_in f at span lo hi) z ∙ tree-node-suc (hi - lo - 1) lo hi h z

  -- the entry and its end as variables, as code has them
  pub tree-at : (lo hi : ℕ) (x : A) (en : ℕ) → lo < hi → x ≡ at lo → en ≡ end_of (span x) lo hi
      → tree at span lo hi ≡ node x (tree at span (lo + 1) en) (tree at span en hi)
  tree-at lo hi x en h p q =
      let z : en ≡ end_of (span (at lo)) lo hi = q ∙ ap (λ y. end_of (span y) lo hi) p in
      tree-node lo hi h ∙ ap₂ (λ y n. node y (tree at span (lo + 1) n) (tree at span n hi)) (sym p) (sym z)

  size_in : (f lo hi : ℕ) → hi - lo ≤ f → size (tree_in f at span lo hi) ≡ hi - lo
  unfolding tree_in size
  size_in zero lo hi p = omega arith
  size_in (suc f) lo hi p = go (ltb lo hi) refl (λ lo' hi'. size_in f lo' hi')
    where
      go : (b : Bool) → ltb lo hi ≡ b → ((lo' hi' : ℕ) → hi' - lo' ≤ f → size (tree_in f at span lo' hi') ≡ hi' - lo')
          → size (cond b (node (at lo) (tree_in f at span (suc lo) (end_of (span (at lo)) lo hi)) (tree_in f at span (end_of (span (at lo)) lo hi) hi)) none) ≡ hi - lo
      go true e ih =
          let a : size (tree_in f at span (suc lo) (end_of (span (at lo)) lo hi)) ≡ end_of (span (at lo)) lo hi - suc lo = ih (suc lo) (end_of (span (at lo)) lo hi) (omega (arith, ltb-true lo hi e)) in
          let b : size (tree_in f at span (end_of (span (at lo)) lo hi) hi) ≡ hi - end_of (span (at lo)) lo hi = ih (end_of (span (at lo)) lo hi) hi (omega (arith, ltb-true lo hi e)) in
          omega (arith, ltb-true lo hi e)
      go false e ih = omega (arith, ltb-false lo hi e)

  pub size-tree : (lo hi : ℕ) → size (tree at span lo hi) ≡ hi - lo
  unfolding tree
  size-tree lo hi = size_in (hi - lo) lo hi (omega arith)

  -- a level by places: none is left, or the first entry and what stands behind it
  pub level-none : (lo hi : ℕ) → hi ≤ lo → level lo (tree at span lo hi) ≡ []
  unfolding level
  level-none lo hi h = rw (tree-none lo hi h) refl

  pub level-at : (lo hi : ℕ) (x : A) (en : ℕ) → lo < hi → x ≡ at lo → en ≡ end_of (span x) lo hi
      → level lo (tree at span lo hi) ≡ (lo, x) ∷ level en (tree at span en hi)
  unfolding level
  level-at lo hi x en h p q =
      let z : lo + suc (en - (lo + 1)) ≡ en = omega arith in
      rw (tree-at lo hi x en h p q, size-tree (lo + 1) en, z) refl

-- a level has no more entries than its sequence
pub level-few : {A : Type 0} (t : Tree A) (i : ℕ) → length (level i t) ≤ size t
unfolding level size
level-few none i = omega arith
level-few (node x members rest) i = let h : length (level (i + suc (size members)) rest) ≤ size rest = level-few rest (i + suc (size members)) in omega arith

-- an entry of span 1 ends behind itself, and so does one of span 0
pub end-single : (span lo hi : ℕ) → lo < hi → span ≤ 1 → lo + 1 ≡ end_of span lo hi
end-single span lo hi h s = omega arith

module _ {A : Type 0} (at : ℕ → A) (span : A → ℕ) (may : A → Bool) where
  pub nested-end : (lo hi levels : ℕ) → hi ≤ lo → nested span may levels (tree at span lo hi) ≡ true
  unfolding nested
  nested-end lo hi levels h = rw (tree-none at span lo hi h)

  pub nested-deep : (lo hi levels : ℕ) → lo < hi → levels ≡ 0 → nested span may levels (tree at span lo hi) ≡ false
  unfolding nested
  nested-deep lo hi levels h z = rw (z, tree-at at span lo hi (at lo) (end_of (span (at lo)) lo hi) h refl refl)

  module _ (lo hi : ℕ) (x : A) (en : ℕ) (h : lo < hi) (p : x ≡ at lo) (q : en ≡ end_of (span x) lo hi) where
    nested-suc : (levels : ℕ) → nested span may (suc levels) (tree at span lo hi)
        ≡ (span_ok (span x) (may x) (en - (lo + 1)) && nested span may levels (tree at span (lo + 1) en) && nested span may (suc levels) (tree at span en hi))
    unfolding nested
    nested-suc levels = rw (tree-at at span lo hi x en h p q, size-tree at span (lo + 1) en)

    module _ (levels : ℕ) (z : levels ≡ 0 → ⊥) where
      one_more : levels ≡ suc (levels - 1)
      one_more = omega arith

      -- one turn: the entry's own span, its members, the entries behind it
      pub nested-turn : nested span may levels (tree at span lo hi)
          ≡ (span_ok (span x) (may x) (en - (lo + 1)) && nested span may (levels - 1) (tree at span (lo + 1) en) && nested span may levels (tree at span en hi))
      nested-turn = ap (λ n. nested span may n (tree at span lo hi)) one_more ∙ nested-suc (levels - 1)
          ∙ ap (λ n. span_ok (span x) (may x) (en - (lo + 1)) && nested span may (levels - 1) (tree at span (lo + 1) en) && nested span may n (tree at span en hi)) (sym one_more)

      pub nested-span : span_ok (span x) (may x) (en - (lo + 1)) ≡ false → nested span may levels (tree at span lo hi) ≡ false
      nested-span f = nested-turn ∙ rw f refl

      pub nested-inner : span_ok (span x) (may x) (en - (lo + 1)) ≡ true → nested span may (levels - 1) (tree at span (lo + 1) en) ≡ false → nested span may levels (tree at span lo hi) ≡ false
      nested-inner f g = nested-turn ∙ rw (f, g) refl

      pub nested-next : span_ok (span x) (may x) (en - (lo + 1)) ≡ true → nested span may (levels - 1) (tree at span (lo + 1) en) ≡ true → nested span may levels (tree at span lo hi) ≡ nested span may levels (tree at span en hi)
      nested-next f g = nested-turn ∙ rw (f, g) refl

    module _ (levels : ℕ) (n : nested span may levels (tree at span lo hi) ≡ true) where
      some_level : levels ≡ 0 → ⊥
      some_level z = false≢true (sym (nested-deep lo hi levels h z) ∙ n)

      all : (span_ok (span x) (may x) (en - (lo + 1)) && nested span may (levels - 1) (tree at span (lo + 1) en) && nested span may levels (tree at span en hi)) ≡ true
      all = sym (nested-turn levels some_level) ∙ n

      -- of well nested spans: what stands behind the entry, its members, its own span
      pub nested-rest : nested span may levels (tree at span en hi) ≡ true
      nested-rest = and_right (span_ok (span x) (may x) (en - (lo + 1)) && nested span may (levels - 1) (tree at span (lo + 1) en)) (nested span may levels (tree at span en hi)) all

      own : (span_ok (span x) (may x) (en - (lo + 1)) && nested span may (levels - 1) (tree at span (lo + 1) en)) ≡ true
      own = and_left (span_ok (span x) (may x) (en - (lo + 1)) && nested span may (levels - 1) (tree at span (lo + 1) en)) (nested span may levels (tree at span en hi)) all

      pub nested-members : nested span may (levels - 1) (tree at span (lo + 1) en) ≡ true
      nested-members = and_right (span_ok (span x) (may x) (en - (lo + 1))) (nested span may (levels - 1) (tree at span (lo + 1) en)) own

      pub nested-own : span_ok (span x) (may x) (en - (lo + 1)) ≡ true
      nested-own = and_left (span_ok (span x) (may x) (en - (lo + 1))) (nested span may (levels - 1) (tree at span (lo + 1) en)) own

      -- the clamped end is the span's own
      pub nested-exact : en ≡ lo + span x
      nested-exact = omega (arith, eqb-true (span x) (suc (en - (lo + 1))) (and_left (eqb (span x) (suc (en - (lo + 1)))) (may x || eqb (en - (lo + 1)) 0) nested-own))

  -- an entry of span 1 may stand anywhere
  pub nested-single : (lo hi : ℕ) (x : A) → lo < hi → x ≡ at lo → span x ≡ 1 → (levels : ℕ) → (levels ≡ 0 → ⊥)
      → nested span may levels (tree at span lo hi) ≡ nested span may levels (tree at span (lo + 1) hi)
  nested-single lo hi x h p s levels z =
      nested-next lo hi x (lo + 1) h p (end-single (span x) lo hi h (omega arith)) levels z own-span (nested-end (lo + 1) (lo + 1) (levels - 1) (omega arith))
    where
      own-span : span_ok (span x) (may x) (lo + 1 - (lo + 1)) ≡ true
      own-span = let n : lo + 1 - (lo + 1) ≡ 0 = omega arith in rw (n, s) (or-true (may x))

-- entries with the same spans, of which the same ones may have members, are nested alike
module _ {A B : Type 0} (at : ℕ → A) (span : A → ℕ) (may : A → Bool) (at' : ℕ → B) (span' : B → ℕ) (may' : B → Bool)
    (n : ℕ) (spans : (i : ℕ) → i < n → span (at i) ≡ span' (at' i)) (mays : (i : ℕ) → i < n → may (at i) ≡ may' (at' i)) where
  end-most : (s lo hi : ℕ) → hi ≤ n → end_of s lo hi ≤ n
  end-most s lo hi h = omega arith

  size-as : (f lo hi : ℕ) → hi ≤ n → size (tree_in f at span lo hi) ≡ size (tree_in f at' span' lo hi)
  unfolding tree_in size
  size-as zero lo hi h = refl
  size-as (suc f) lo hi h = go (ltb lo hi) refl (λ l k. size-as f l k)
    where
      go : (b : Bool) → ltb lo hi ≡ b → ((l k : ℕ) → k ≤ n → size (tree_in f at span l k) ≡ size (tree_in f at' span' l k))
          → size (cond b (node (at lo) (tree_in f at span (suc lo) (end_of (span (at lo)) lo hi)) (tree_in f at span (end_of (span (at lo)) lo hi) hi)) none)
          ≡ size (cond b (node (at' lo) (tree_in f at' span' (suc lo) (end_of (span' (at' lo)) lo hi)) (tree_in f at' span' (end_of (span' (at' lo)) lo hi) hi)) none)
      go false e ih = refl
      go true e ih =
          let s : span (at lo) ≡ span' (at' lo) = spans lo (omega (arith, ltb-true lo hi e)) in
          let d : end_of (span (at lo)) lo hi ≡ end_of (span' (at' lo)) lo hi = ap (λ x. end_of x lo hi) s in
          ap₂ (λ x y. suc (x + y))
          (ih (suc lo) (end_of (span (at lo)) lo hi) (end-most (span (at lo)) lo hi h) ∙ ap (λ x. size (tree_in f at' span' (suc lo) x)) d)
          (ih (end_of (span (at lo)) lo hi) hi h ∙ ap (λ x. size (tree_in f at' span' x hi)) d)

  nested-as-in : (f levels lo hi : ℕ) → hi ≤ n → nested span may levels (tree_in f at span lo hi) ≡ nested span' may' levels (tree_in f at' span' lo hi)
  unfolding tree_in nested
  nested-as-in zero levels lo hi h = refl
  nested-as-in (suc f) levels lo hi h = go levels (ltb lo hi) refl (λ v l k. nested-as-in f v l k)
    where
      go : (v : ℕ) (b : Bool) → ltb lo hi ≡ b → ((u l k : ℕ) → k ≤ n → nested span may u (tree_in f at span l k) ≡ nested span' may' u (tree_in f at' span' l k))
          → nested span may v (cond b (node (at lo) (tree_in f at span (suc lo) (end_of (span (at lo)) lo hi)) (tree_in f at span (end_of (span (at lo)) lo hi) hi)) none)
          ≡ nested span' may' v (cond b (node (at' lo) (tree_in f at' span' (suc lo) (end_of (span' (at' lo)) lo hi)) (tree_in f at' span' (end_of (span' (at' lo)) lo hi) hi)) none)
      go v false e ih = refl
      go zero true e ih = refl
      go (suc v) true e ih =
          let s : span (at lo) ≡ span' (at' lo) = spans lo (omega (arith, ltb-true lo hi e)) in
          let m : may (at lo) ≡ may' (at' lo) = mays lo (omega (arith, ltb-true lo hi e)) in
          let d : end_of (span (at lo)) lo hi ≡ end_of (span' (at' lo)) lo hi = ap (λ x. end_of x lo hi) s in
          let z : size (tree_in f at span (suc lo) (end_of (span (at lo)) lo hi)) ≡ size (tree_in f at' span' (suc lo) (end_of (span' (at' lo)) lo hi)) =
          size-as f (suc lo) (end_of (span (at lo)) lo hi) (end-most (span (at lo)) lo hi h) ∙ ap (λ x. size (tree_in f at' span' (suc lo) x)) d in
          let a : nested span may v (tree_in f at span (suc lo) (end_of (span (at lo)) lo hi)) ≡ nested span' may' v (tree_in f at' span' (suc lo) (end_of (span' (at' lo)) lo hi)) =
          ih v (suc lo) (end_of (span (at lo)) lo hi) (end-most (span (at lo)) lo hi h) ∙ ap (λ x. nested span' may' v (tree_in f at' span' (suc lo) x)) d in
          let b : nested span may (suc v) (tree_in f at span (end_of (span (at lo)) lo hi) hi) ≡ nested span' may' (suc v) (tree_in f at' span' (end_of (span' (at' lo)) lo hi) hi) =
          ih (suc v) (end_of (span (at lo)) lo hi) hi h ∙ ap (λ x. nested span' may' (suc v) (tree_in f at' span' x hi)) d in
          λ i. (eqb (s i) (suc (z i)) && (m i || eqb (z i) 0)) && a i && b i

  pub nested-as : (levels lo hi : ℕ) → hi ≤ n → nested span may levels (tree at span lo hi) ≡ nested span' may' levels (tree at' span' lo hi)
  unfolding tree
  nested-as levels lo hi h = nested-as-in (hi - lo) levels lo hi h
