-- Question 3 over spans and flags by themselves.
use mathlib.Core.Path.{◌≡◌, refl, sym, ◌∙◌}
use mathlib.Core.Bool.{Bool, true, false}
use mathlib.Core.List.{List}
use Prim.Native.Nat.{ℕ, ◌+◌, ◌-◌, ◌≤◌, ◌<◌}
use lib.ListN.{get_or}
use Rattle.spans.specs.Tree.{end_of, span_ok}
use Rattle.spans.proofs.Tree.{nested-end, nested-deep, nested-span, nested-inner, nested-next}
use Rattle.layout_text.specs.Walk.{span_in, group_in, nested_in}

module _ (spans : List ℕ) (groups : List Bool) (lo hi levels : ℕ) where
  pub in_end : hi ≤ lo → nested_in spans groups levels lo hi ≡ true
  unfolding nested_in
  in_end h = nested-end (λ i. i) (span_in spans) (group_in groups) lo hi levels h

  pub in_deep : lo < hi → levels ≡ 0 → nested_in spans groups levels lo hi ≡ false
  unfolding nested_in
  in_deep h z = nested-deep (λ i. i) (span_in spans) (group_in groups) lo hi levels h z

  module _ (en : ℕ) (h : lo < hi) (q : en ≡ end_of (get_or spans lo 0) lo hi) (z : levels ≡ 0 → ⊥) (s : Bool) (e : s ≡ span_ok (span_in spans lo) (group_in groups lo) (en - (lo + 1))) where
    pub in_span : s ≡ false → nested_in spans groups levels lo hi ≡ false
    unfolding nested_in
    in_span f = nested-span (λ i. i) (span_in spans) (group_in groups) lo hi lo en h refl q levels z (sym e ∙ f)

    pub in_inner : s ≡ true → nested_in spans groups (levels - 1) (lo + 1) en ≡ false → nested_in spans groups levels lo hi ≡ false
    unfolding nested_in
    in_inner f g = nested-inner (λ i. i) (span_in spans) (group_in groups) lo hi lo en h refl q levels z (sym e ∙ f) g

    pub in_next : s ≡ true → nested_in spans groups (levels - 1) (lo + 1) en ≡ true → nested_in spans groups levels lo hi ≡ nested_in spans groups levels en hi
    unfolding nested_in
    in_next f g = nested-next (λ i. i) (span_in spans) (group_in groups) lo hi lo en h refl q levels z (sym e ∙ f) g
