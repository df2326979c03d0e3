-- A list without the elements at one end that pass a test; and its elements before the first one that passes.
use Rattle.std.specs.Prelude.{ℕ, ◌-◌, Bool, true, ◌&&◌, cond, List, [], ◌∷◌, length}

-- without the elements at the left end that pass the test f
unfoldable pub left_by : (ℕ → Bool) → List ℕ → List ℕ
left_by f [] = []
left_by f (x ∷ s) = cond (f x) (left_by f s) (x ∷ s)

-- how many elements at the left end pass the test f
abbrev pub left_count : (ℕ → Bool) → List ℕ → ℕ
left_count f s = length s - length (left_by f s)

-- x before what is left of the rest: it goes if nothing is left and it passes
abbrev pub join_by : (ℕ → Bool) → ℕ → List ℕ → List ℕ
join_by f x [] = cond (f x) [] (x ∷ [])
join_by f x (y ∷ s) = x ∷ y ∷ s

-- without the elements at the right end that pass the test f
unfoldable pub right_by : (ℕ → Bool) → List ℕ → List ℕ
right_by f [] = []
right_by f (x ∷ s) = join_by f x (right_by f s)

-- the elements before the first one that passes the test f
unfoldable pub before_by : (ℕ → Bool) → List ℕ → List ℕ
before_by f [] = []
before_by f (x ∷ s) = cond (f x) [] (x ∷ before_by f s)

-- the elements that pass the test f
unfoldable pub keep_by : (ℕ → Bool) → List ℕ → List ℕ
keep_by f [] = []
keep_by f (x ∷ s) = cond (f x) (x ∷ keep_by f s) (keep_by f s)

-- every element passes the test f
unfoldable pub every_by : (ℕ → Bool) → List ℕ → Bool
every_by f [] = true
every_by f (x ∷ s) = f x && every_by f s
