-- Signed Embedded Ints, by computation: p and q are 1.
use Rattle.std.specs.Prelude.{◌≡◌, refl, List, [], ◌∷◌, true, false, ℕ, ◌-◌, ◌^◌}
use Rattle.lists.specs.Scan.{left_by, right_by, every_by}
use Rattle.value.specs.Answer.{Answer, refused}
use Rattle.value.specs.Field.{field_of}
use Rattle.value.specs.declared.Whole.{Whole}
use Rattle.value.specs.Number.{some}
use Rattle.ebcdic.specs.Ebcdic.{from_page, to_ascii, ascii_table}
use Rattle.display.specs.Display.{int_of, int_in as text_in, sign_at, rest_of, digits_in, whole_of}
use Rattle.decode_scalar.specs.Decode.{embedded_of, int_in}

abbrev signed : ℕ → List ℕ → Answer Whole
signed page part = int_in 1 1 page part

-- width 1: `}` and `R`
zero : signed 0 (0x7D ∷ []) ≡ some false 0
unfolding embedded_of field_of left_by right_by every_by from_page
zero = refl

least-digit : signed 0 (0x52 ∷ []) ≡ some true 9
unfolding embedded_of field_of left_by right_by every_by from_page
least-digit = refl

-- ` 12} ` and, on page 1, `12}`
blanks-around : signed 0 (0x20 ∷ 0x31 ∷ 0x32 ∷ 0x7D ∷ 0x20 ∷ []) ≡ some true 120
unfolding embedded_of field_of left_by right_by every_by from_page
blanks-around = refl

on-ebcdic : signed 1 (0xF1 ∷ 0xF2 ∷ 0xD0 ∷ []) ≡ some true 120
unfolding embedded_of field_of left_by right_by every_by from_page to_ascii ascii_table
on-ebcdic = refl

plus : signed 0 (0x31 ∷ 0x41 ∷ []) ≡ some false 11
unfolding embedded_of field_of left_by right_by every_by from_page
plus = refl

-- `1}2`, `1r`, `-1}`: not digits and then one of { } A to R, so refused as before
inside : signed 0 (0x31 ∷ 0x7D ∷ 0x32 ∷ []) ≡ refused 8
unfolding embedded_of left_by right_by every_by from_page int_of text_in sign_at rest_of digits_in whole_of
inside = refl

lower-case : signed 0 (0x31 ∷ 0x72 ∷ []) ≡ refused 8
unfolding embedded_of left_by right_by every_by from_page int_of text_in sign_at rest_of digits_in whole_of
lower-case = refl

sign-too : signed 0 (0x2D ∷ 0x31 ∷ 0x7D ∷ []) ≡ refused 8
unfolding embedded_of left_by right_by every_by from_page int_of text_in sign_at rest_of digits_in whole_of
sign-too = refl

-- as before: digits alone, a leading minus, blanks alone
digits-alone : signed 0 (0x31 ∷ 0x32 ∷ []) ≡ some false 12
unfolding embedded_of left_by right_by every_by from_page int_of text_in sign_at rest_of digits_in whole_of
digits-alone = refl

leading-minus : signed 0 (0x2D ∷ 0x35 ∷ []) ≡ some true 5
unfolding embedded_of left_by right_by every_by from_page int_of text_in sign_at rest_of digits_in whole_of
leading-minus = refl

blanks-alone : signed 0 (0x20 ∷ 0x20 ∷ []) ≡ some false 0
unfolding embedded_of left_by right_by every_by from_page int_of text_in sign_at rest_of digits_in whole_of
blanks-alone = refl

-- no Embedded sign, or not signed: `}` is no digit
not-embedded : int_in 1 0 0 (0x7D ∷ []) ≡ refused 8
unfolding left_by right_by every_by from_page int_of text_in sign_at rest_of digits_in whole_of
not-embedded = refl

unsigned : int_in 0 1 0 (0x7D ∷ []) ≡ refused 8
unfolding left_by right_by every_by from_page int_of text_in sign_at rest_of digits_in whole_of
unsigned = refl

-- 922337203685477580 and then `G` or `P`, a size of 2^63 - 1; `H` or `Q`, one of 2^63
abbrev ending : ℕ → List ℕ
ending b = 57 ∷ 50 ∷ 50 ∷ 51 ∷ 51 ∷ 55 ∷ 50 ∷ 48 ∷ 51 ∷ 54 ∷ 56 ∷ 53 ∷ 52 ∷ 55 ∷ 55 ∷ 53 ∷ 56 ∷ 48 ∷ b ∷ []

greatest : signed 0 (ending 0x47) ≡ some false (2 ^ 63 - 1)
unfolding embedded_of field_of left_by right_by every_by from_page
greatest = refl

least : signed 0 (ending 0x50) ≡ some true (2 ^ 63 - 1)
unfolding embedded_of field_of left_by right_by every_by from_page
least = refl

above : signed 0 (ending 0x48) ≡ refused 9
unfolding embedded_of field_of left_by right_by every_by from_page
above = refl

below : signed 0 (ending 0x51) ≡ refused 9
unfolding embedded_of field_of left_by right_by every_by from_page
below = refl
