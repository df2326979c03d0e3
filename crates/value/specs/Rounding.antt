-- A fraction to a whole number, and a decimal to another scale. All of it is over sizes: a sign stays in front, since a whole number of the other sign is farther than 0.
use Rattle.std.specs.Prelude.{◌≡◌, ℕ, ◌+◌, ◌-◌, ◌*◌, ◌/◌, ◌%◌, ◌^◌, ◌<◌, ◌≤◌, Bool, cond, ◌==◌, ◌≢◌, nat_lt}

-- how far m is from n / d, in parts of 1 / d
abbrev pub away : ℕ → ℕ → ℕ → ℕ
away n d m = (n - m * d) + (m * d - n)

-- 02, S-6: "an exact half goes to the even neighbour, and all else to the nearest": q is what n / d becomes. No whole number is nearer, and if another one is as near, q is even.
pub record Nearest (n d q : ℕ) : Type 0 where
  pub least : (m : ℕ) → away n d q ≤ away n d m
  pub even : (m : ℕ) → (m ≢ q) → away n d m ≡ away n d q → q % 2 ≡ 0

-- of what lies so far above q and so far below q + 1: whether q + 1 is nearer, or as near and q is odd
abbrev pub goes_up : ℕ → ℕ → ℕ → Bool
goes_up above below q = cond (above == below) (q % 2 == 1) (nat_lt below above)

-- n / d so rounded, by quotient and rest
unfoldable pub rounded : ℕ → ℕ → ℕ
rounded n d = n / d + cond (goes_up (n % d) (d - n % d) (n / d)) 1 0

-- this has the property, and nothing else has it
abbrev pub RoundedNearest : Type 0
RoundedNearest = (n d : ℕ) → 0 < d → Nearest n d (rounded n d)

abbrev pub NearestRounded : Type 0
NearestRounded = (n d q : ℕ) → 0 < d → Nearest n d q → rounded n d ≡ q

-- a size of the scale `from` at the scale `to`
unfoldable pub rescaled : ℕ → ℕ → ℕ → ℕ
rescaled from to size = cond (nat_lt from to) (size * 10 ^ (to - from)) (rounded size (10 ^ (from - to)))

-- 02, S-6: "The exact half is judged over whole numbers, for every pair of scales by one argument."
abbrev pub ScaleLost : Type 0
ScaleLost = (from to size : ℕ) → to ≤ from → Nearest size (10 ^ (from - to)) (rescaled from to size)
