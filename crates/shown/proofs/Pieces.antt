-- The pieces that a caller asks for, one after the other, are the whole.
use mathlib.Core.Path.{◌≡◌, sym, ap, ◌∙◌}
use mathlib.Core.List.{List, [], ◌++◌}
use Prim.Native.Nat.{ℕ, zero, suc, ◌+◌, ◌-◌, ◌*◌, ◌≤◌, ◌<◌, min}
use native.Mathlib.Omega.{arith}
use native.Mathlib.Nat.{zero-mul, suc-mul}
use lib.ListN.{length, take, drop, length-take, length-drop, length-append}
use lib.Seq.{take_all, take-add}
use Rattle.text.specs.Text.{front}
use Rattle.shown.specs.Shown.{piece}

-- the first k pieces of n bytes each
unfoldable pub joined : ℕ → List ℕ → ℕ → List ℕ
joined n bytes zero = []
joined n bytes (suc k) = joined n bytes k ++ piece (k * n) n bytes

pub first_pieces : (n : ℕ) (bytes : List ℕ) (k : ℕ) → joined n bytes k ≡ take (k * n) bytes
unfolding joined
first_pieces n bytes zero = ap (λ (m : ℕ). take m bytes) (sym (zero-mul n))
first_pieces n bytes (suc k) =
    ap (λ (l : List ℕ). l ++ piece (k * n) n bytes) (first_pieces n bytes k) ∙ sym (take-add (k * n) n bytes) ∙ ap (λ (m : ℕ). take m bytes) (sym (suc-mul k n))

-- up to the first that is shorter
pub pieces_end : (n : ℕ) (bytes : List ℕ) (k : ℕ) → length (piece (k * n) n bytes) < n → joined n bytes (suc k) ≡ bytes
pieces_end n bytes k h =
    let t : length (piece (k * n) n bytes) ≡ min n (length (drop (k * n) bytes)) = length-take n (drop (k * n) bytes) in
    let d : length (drop (k * n) bytes) ≡ length bytes - k * n = length-drop (k * n) bytes in
    first_pieces n bytes (suc k) ∙ take_all (suc k * n) bytes (rw (suc-mul k n) (omega arith))

-- a piece lies inside the buffer that holds it
pub inside : (at n : ℕ) (bytes out last : List ℕ) (r : ℕ) → r ≡ length (piece at n bytes) → last ≡ front (piece at n bytes) out → r ≤ length last
inside at n bytes out last r e q =
    let p = piece at n bytes in
    let l : length last ≡ length p + length (drop (length p) out) = ap length q ∙ length-append p (drop (length p) out) in
    omega arith
