-- A number in a field of any width, read from the left: each byte but the last gives digits, and the last one a digit and a sign.
-- Packed and zoned fields are the two instances, at any limit and with any answer.
use Rattle.std.specs.Prelude.{ℕ, ◌-◌, Bool, cond, ◌&&◌, List, [], ◌∷◌, ◌++◌, length, take, nat_lt, slice_index}
use Rattle.value.specs.Digits.{value_of, digits_ok, spread}

-- the last byte; 0 where there is none
abbrev pub last_of : List ℕ → ℕ
last_of part = slice_index part (length part - 1)

-- f: the digits of a byte that is not the last; g: the digit of the last byte; an unlawful digit is 10 or more
abbrev pub digits_by : (ℕ → List ℕ) → (ℕ → ℕ) → List ℕ → List ℕ
digits_by f g part = spread f (take (length part - 1) part) ++ (g (last_of part) ∷ [])

-- ok: whether the last byte's sign is lawful; answer: what a lawful field answers, from its last byte and its size;
-- bad: what any other answers. "Bytes lawful (.. packed and zoned from 1)"
unfoldable pub field_of : {X : Type 0} → (ℕ → List ℕ) → (ℕ → ℕ) → (ℕ → Bool) → (ℕ → ℕ → X) → X → List ℕ → X
field_of f g ok answer bad part =
    cond (nat_lt 0 (length part) && (digits_ok (digits_by f g part) && ok (last_of part))) (answer (last_of part) (value_of (digits_by f g part))) bad
