-- What the last arm of a `match` knows of its number, where the arms before it are 0, 1, and so on.
use mathlib.Core.Path.{◌≡◌}
use Prim.Native.Nat.{ℕ, zero, suc, ◌≤◌}
use native.Mathlib.Omega.{arith}

-- k is none of the first n numbers
abbrev pub Other : ℕ → ℕ → Type 0
Other zero k = Unit {0}
Other (suc n) k = Other n k × (k ≡ n → ⊥)

pub past : (n k : ℕ) → Other n k → n ≤ k
past zero k h = omega arith
past (suc n) k h =
    let a : n ≤ k = past n k h.0 in
    let b : k ≡ n → ⊥ = h.1 in
    omega arith
