-- What a zoned field of any width says, over bytes as ASCII, and the bytes of a number in one.
use Rattle.std.specs.Prelude.{List, [], ◌∷◌, ◌++◌, Bool, true, ◌&&◌, ◌||◌, cond, ℕ, ◌+◌, ◌-◌, ◌/◌, ltb, leb, eqb}
use Rattle.value.specs.Digits.{is_digit, digit_in, digit_at, digit_text, limit, room_for}
use Rattle.value.specs.Answer.{Answer}
use Rattle.value.specs.declared.Whole.{Whole}
use Rattle.value.specs.Number.{read_in, unlawful}
use Rattle.value.specs.Field.{field_of}

-- a digit's byte, 0x30 to 0x39; any other is no digit, 10 or more
abbrev pub digit_of : ℕ → ℕ
digit_of b = cond (ltb b 0x30) 10 (b - 0x30)

abbrev pub zone : ℕ → List ℕ
zone b = digit_of b ∷ []

-- "last byte 0-9, { A-I positive, } J-R negative": its digit
abbrev pub last_digit : ℕ → ℕ
last_digit b =
    cond (is_digit b) (digit_in b)
    (cond (leb 0x41 b && leb b 0x49) (b - 0x40)
    (cond (leb 0x4A b && leb b 0x52) (b - 0x49)
    (cond (eqb b 0x7B || eqb b 0x7D) 0 10)))

-- and its sign
abbrev pub minus : ℕ → Bool
minus b = (leb 0x4A b && leb b 0x52) || eqb b 0x7D

-- a last byte that has a digit has a sign
abbrev pub any_sign : ℕ → Bool
any_sign b = true

-- a digit to a byte, the sign over the last one; answer: what a lawful field answers, from its sign and its size
abbrev pub zoned_by : {X : Type 0} → (Bool → ℕ → X) → X → List ℕ → X
zoned_by answer bad part = field_of zone last_digit any_sign (λ b size. answer (minus b) size) bad part

unfoldable pub decode_of : List ℕ → Answer Whole
decode_of part = zoned_by (read_in limit) unlawful part

-- ---- writing

-- a digit over which a sign stands
abbrev pub overpunch : ℕ → Bool → ℕ
overpunch d negative = cond (eqb d 0) (cond negative 0x7D 0x7B) (cond negative (0x49 + d) (0x40 + d))

-- the last byte: overpunched where the field has a sign, else a plain digit
abbrev pub last_byte : ℕ → Bool → Bool → ℕ
last_byte size negative signed = cond signed (overpunch (digit_at 0 size) negative) (48 + digit_at 0 size)

-- the w low digits of the size, the sign over the last one
abbrev pub encoded_of : ℕ → Bool → ℕ → Bool → List ℕ
encoded_of w negative size signed = digit_text (w - 1) (size / 10) ++ (last_byte size negative signed ∷ [])

-- a field of w bytes has w digits
abbrev pub fits_of : ℕ → ℕ → Bool
fits_of w size = room_for w size
