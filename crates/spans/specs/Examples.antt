-- Worked examples: the entry at i is its own number, and the spans stand in a list.
use Rattle.std.specs.Prelude.{◌≡◌, refl, Bool, true, false, List, [], ◌∷◌, ℕ, eqb, get_or, length}
use Rattle.spans.specs.Tree.{Tree, none, node, tree_in, tree, size, level, nested}

abbrev of : List ℕ → Tree ℕ
of spans = tree (λ i. i) (λ i. get_or spans i 0) 0 (length spans)

-- only the first entry may have members
abbrev fine : ℕ → List ℕ → Bool
fine levels spans = nested (λ i. get_or spans i 0) (λ i. eqb i 0) levels (of spans)

two-below : of (3 ∷ 1 ∷ 1 ∷ 1 ∷ []) ≡ node 0 (node 1 none (node 2 none none)) (node 3 none none)
unfolding tree tree_in
two-below = refl

-- the top level of it: the entries 0 and 3
top-two : level 0 (of (3 ∷ 1 ∷ 1 ∷ 1 ∷ [])) ≡ (0, 0) ∷ (3, 3) ∷ []
unfolding tree tree_in size level
top-two = refl

-- a span of 0 counts as 1, and one past the end is cut
cut : of (0 ∷ 9 ∷ 9 ∷ []) ≡ node 0 none (node 1 (node 2 none none) none)
unfolding tree tree_in
cut = refl

exact : fine 2 (3 ∷ 1 ∷ 1 ∷ 1 ∷ []) ≡ true
unfolding tree tree_in nested size
exact = refl

too-deep : fine 1 (3 ∷ 1 ∷ 1 ∷ 1 ∷ []) ≡ false
unfolding tree tree_in nested size
too-deep = refl

past_the_end : fine 2 (3 ∷ 1 ∷ 2 ∷ 1 ∷ []) ≡ false
unfolding tree tree_in nested size
past_the_end = refl

no-members-here : fine 8 (1 ∷ 2 ∷ 1 ∷ []) ≡ false
unfolding tree tree_in nested size
no-members-here = refl
