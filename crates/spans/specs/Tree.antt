-- The tree that spans make: a layout's entries, and a value list's items, stand depth first, and the span of each counts the entries of its subtree, "itself counted".
use Rattle.std.specs.Prelude.{Bool, true, false, ◌&&◌, ◌||◌, cond, List, [], ◌∷◌, ℕ, zero, suc, ◌+◌, ◌-◌, min, max, ltb, eqb}

-- A sequence of entries: its first entry, the sequence of that entry's members, and the entries behind it.
pub data Tree (A : Type 0) : Type 0 where
  none : Tree A
  node : A → Tree A → Tree A → Tree A

-- the end of the entry at i in a sequence that ends at hi: its span on, and never less than one entry on or past hi
abbrev pub end_of : ℕ → ℕ → ℕ → ℕ
end_of span i hi = min hi (i + max 1 span)

-- the sequence of the entries lo up to hi, where `at` gives the i-th entry; the first number bounds how deep the definition goes, and hi - lo is enough
unfoldable pub tree_in : {A : Type 0} → ℕ → (ℕ → A) → (A → ℕ) → ℕ → ℕ → Tree A
tree_in zero at span lo hi = none
tree_in (suc f) at span lo hi =
    cond (ltb lo hi)
    (node (at lo) (tree_in f at span (suc lo) (end_of (span (at lo)) lo hi)) (tree_in f at span (end_of (span (at lo)) lo hi) hi))
    none

unfoldable pub tree : {A : Type 0} → (ℕ → A) → (A → ℕ) → ℕ → ℕ → Tree A
tree at span lo hi = tree_in (hi - lo) at span lo hi

-- how many entries a sequence has, those below them counted
unfoldable pub size : {A : Type 0} → Tree A → ℕ
size none = 0
size (node x members rest) = suc (size members + size rest)

-- the entries of a sequence at its own level, without their members, each with its place: the sequence begins at the place i
unfoldable pub level : {A : Type 0} → ℕ → Tree A → List (ℕ × A)
level i none = []
level i (node x members rest) = (i, x) ∷ level (i + suc (size members)) rest

-- Whether a span counts its entry and the n entries below it, and there are none of them unless the entry may have members.
abbrev pub span_ok : ℕ → Bool → ℕ → Bool
span_ok span may n = eqb span (suc n) && (may || eqb n 0)

-- Whether spans are well nested, in at most so many levels.
unfoldable pub nested : {A : Type 0} → (A → ℕ) → (A → Bool) → ℕ → Tree A → Bool
nested span may levels none = true
nested span may zero (node x members rest) = false
nested span may (suc levels) (node x members rest) =
    span_ok (span x) (may x) (size members) && nested span may levels members && nested span may (suc levels) rest
