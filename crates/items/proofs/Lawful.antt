-- Laws of the value list's check, one turn at a time, and of what a lawful sequence is.
use mathlib.Core.Path.{◌≡◌, refl, sym, ap, ◌∙◌}
use mathlib.Core.Bool.{Bool, true, false, ◌&&◌, cond}
use mathlib.Core.List.{List}
use Prim.Native.Nat.{ℕ, suc, ◌+◌, ◌-◌, ◌<◌, ◌≤◌}
use native.Mathlib.Omega.{arith}
use lib.Dec.{eqb}
use lib.ListN.{length}
use Rattle.items.specs.declared.Item.{Item}
use Rattle.spans.specs.Tree.{none, node, end_of, size, level}
use Rattle.spans.proofs.Tree.{level-few}
use Rattle.items.specs.Items.{Values, holds, span_of, values, item_ok, count, list_ok, head_of}
use Rattle.items.proofs.Items.{values-none, values-node, size-values}

count-level : (t : Values) (i : ℕ) → count t ≡ length (level i t)
unfolding count level
count-level none i = refl
count-level (node it members rest) i = ap suc (count-level rest (i + suc (size members)))

pub count_by_level : (v : List ℕ) (lo hi : ℕ) → count (values v lo hi) ≡ length (level lo (values v lo hi))
count_by_level v lo hi = count-level (values v lo hi) lo

pub few_by_level : (v : List ℕ) (lo hi : ℕ) → length (level lo (values v lo hi)) ≤ hi
few_by_level v lo hi = omega (arith, level-few (values v lo hi) lo, size-values v lo hi)

module _ (v : List ℕ) (i hi : ℕ) where
  pub count-end : hi ≤ i → count (values v i hi) ≡ 0
  unfolding count
  count-end h = rw (values-none v i hi h)

  pub ok_end : (text levels : ℕ) (in_list : Bool) → hi ≤ i → list_ok text in_list levels (values v i hi) ≡ true
  unfolding list_ok
  ok_end text levels in_list h = rw (values-none v i hi h)

  pub end_is : (it : Item) (span en : ℕ) → it ≡ head_of (values v i hi) → span ≡ span_of it → en ≡ end_of span i hi → en ≡ end_of (span_of (head_of (values v i hi))) i hi
  end_is it span en p s q = q ∙ ap (λ n. end_of n i hi) (s ∙ ap span_of p)

  -- a scalar stands alone
  pub scalar-end : (it : Item) → it ≡ head_of (values v i hi) → holds it.tag ≡ false → i < hi → i + 1 ≡ end_of (span_of (head_of (values v i hi))) i hi
  scalar-end it p t h = end_is it 1 (i + 1) p (sym (ap (λ b. cond b it.b 1) t)) (omega arith)

  module _ (h : i < hi) (en : ℕ) (q : en ≡ end_of (span_of (head_of (values v i hi))) i hi) where
    node-is : (it : Item) → it ≡ head_of (values v i hi) → values v i hi ≡ node it (values v (i + 1) en) (values v en hi)
    node-is it p = values-node v i hi it (span_of (head_of (values v i hi))) en p (ap span_of (sym p)) q h

    module _ (text levels : ℕ) (in_list : Bool) where
      pub ok-deep : levels ≡ 0 → list_ok text in_list levels (values v i hi) ≡ false
      unfolding list_ok
      ok-deep z = rw (z, node-is (head_of (values v i hi)) refl)

      module _ (z : levels ≡ 0 → ⊥) (it : Item) (p : it ≡ head_of (values v i hi)) (n below : ℕ) (c : n ≡ count (values v (i + 1) en)) (s : below ≡ en - i - 1) where
        ok-suc : (lv : ℕ) → list_ok text in_list (suc lv) (values v i hi)
            ≡ (item_ok text in_list it n below && list_ok text (eqb it.tag 6) lv (values v (i + 1) en) && list_ok text in_list (suc lv) (values v en hi))
        unfolding list_ok
        ok-suc lv =
            let w : size (values v (i + 1) en) ≡ below = size-values v (i + 1) en ∙ omega arith in
            rw (node-is it p, w, ← c)

        one_more : levels ≡ suc (levels - 1)
        one_more = omega arith

        -- one turn: the item itself, its members, the items behind it
        pub ok-turn : list_ok text in_list levels (values v i hi)
            ≡ (item_ok text in_list it n below && list_ok text (eqb it.tag 6) (levels - 1) (values v (i + 1) en) && list_ok text in_list levels (values v en hi))
        ok-turn = ap (λ k. list_ok text in_list k (values v i hi)) one_more ∙ ok-suc (levels - 1)
            ∙ ap (λ k. item_ok text in_list it n below && list_ok text (eqb it.tag 6) (levels - 1) (values v (i + 1) en) && list_ok text in_list k (values v en hi)) (sym one_more)

        pub ok-item : item_ok text in_list it n below ≡ false → list_ok text in_list levels (values v i hi) ≡ false
        ok-item f = ok-turn ∙ rw f refl

        module _ (f : item_ok text in_list it n below ≡ true) (inside : Bool) (l : inside ≡ eqb it.tag 6) where
          pub ok-inner : list_ok text inside (levels - 1) (values v (i + 1) en) ≡ false → list_ok text in_list levels (values v i hi) ≡ false
          ok-inner g = ok-turn ∙ rw (← l, f, g) refl

          pub ok-next : list_ok text inside (levels - 1) (values v (i + 1) en) ≡ true → list_ok text in_list levels (values v i hi) ≡ list_ok text in_list levels (values v en hi)
          ok-next g = ok-turn ∙ rw (← l, f, g) refl
