-- What stands in front of the zeros of a filled buffer: it is the front of the list, by the seam of the two parts.
use mathlib.Core.Path.{◌≡◌, ap, ◌∙◌}
use mathlib.Core.List.{List}
use Prim.Native.Nat.{ℕ, ◌+◌, ◌-◌, ◌≤◌}
use native.Mathlib.Omega.{arith}
use lib.ListN.{length, take, replicate, length-append}
use lib.Seq.{take-append_seam}
use Rattle.zeros.specs.Filled.{filled}

pub in-front : (room n : ℕ) (xs given : List ℕ) → n ≡ length given → xs ≡ filled room given → (take n xs ≡ given) × (n ≤ length xs)
in-front room n xs given k e =
    let l : length xs ≡ length given + length {A = ℕ} (replicate (room - length given) 0) = ap length e ∙ length-append given (replicate (room - length given) 0) in
    (ap (λ (m : ℕ). take m xs) k ∙ ap (take (length given)) e ∙ take-append_seam given (replicate (room - length given) 0), omega arith)
