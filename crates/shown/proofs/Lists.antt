-- The lines of a list: those of one item more.
use mathlib.Core.Path.{◌≡◌, sym, ap, ◌∙◌}
use mathlib.Core.List.{List, ◌++◌, append_assoc, append-nil}
use Prim.Native.Nat.{ℕ, zero, suc, ◌+◌, ◌<◌}
use native.Mathlib.Omega.{arith}
use native.Mathlib.Nat.{zero-add}
use native.Mathlib.Numerals.{add-one}
use Rattle.items.specs.Items.{item_at, head_of, values}
use Rattle.items.proofs.Items.{head_in}
use Rattle.shown.specs.Sink.{State, all}
use Rattle.shown.specs.Shown.{lines_of, listed_from}
use Rattle.shown.proofs.Sinks.{all_append}

module _ (layout v texts : List ℕ) where
  -- the lines of n items more from the k-th on
  listed-more : (n k : ℕ) → listed_from layout v texts (suc n) k ≡ listed_from layout v texts n k ++ lines_of layout texts (item_at v (k + n))
  unfolding listed_from
  listed-more zero k =
      let e : k ≡ k + 0 = omega arith in
      append-nil (lines_of layout texts (item_at v k)) ∙ ap (λ (i : ℕ). lines_of layout texts (item_at v i)) e
  listed-more (suc n) k =
      let e : suc k + n ≡ k + suc n = omega arith in
      let a = lines_of layout texts (item_at v k) in
      ap (λ (l : List ℕ). a ++ l) (listed-more n (suc k))
      ∙ sym (append_assoc a (listed_from layout v texts n (suc k)) (lines_of layout texts (item_at v (suc k + n))))
      ∙ ap (λ (i : ℕ). (a ++ listed_from layout v texts n (suc k)) ++ lines_of layout texts (item_at v i)) e

  pub items_more : (x : State) (k n : ℕ) → k < n
      → all (all x (listed_from layout v texts k 0)) (lines_of layout texts (head_of (values v k n))) ≡ all x (listed_from layout v texts (k + 1) 0)
  items_more x k n h =
      ap (λ i. all (all x (listed_from layout v texts k 0)) (lines_of layout texts i)) (sym (head_in v k n h))
      ∙ sym (all_append x (listed_from layout v texts k 0) (lines_of layout texts (item_at v k)))
      ∙ ap (λ (i : ℕ). all x (listed_from layout v texts k 0 ++ lines_of layout texts (item_at v i))) (sym (zero-add k))
      ∙ ap (all x) (sym (listed-more k 0))
      ∙ ap (λ (m : ℕ). all x (listed_from layout v texts m 0)) (sym (add-one k))
