-- Int and Display fields, by computation.
use Rattle.std.specs.Prelude.{◌≡◌, refl, List, [], ◌∷◌, map, true, false, ℕ, ◌^◌}
use Rattle.value.specs.Answer.{refused}
use Rattle.value.specs.Number.{some}
use Rattle.value.specs.declared.Scalar.TheVariants.{Text}
use Rattle.value.specs.Scalar.{decimal}
use Rattle.lists.specs.Scan.{left_by, right_by, keep_by, every_by}
use Rattle.ebcdic.specs.Ebcdic.{from_page, onto_page, to_ascii, to_ebcdic, ascii_table, ebcdic_table}
use Rattle.numerals.specs.Numerals.{kept_by}
use Rattle.display.specs.Display.{int_of, int_in, sign_at, rest_of, digits_in, whole_of, decimal_of, whole_in, int_fits, int_bytes, decimal_fits, int_written}

-- `--5` leading
two-signs : int_of 2 (0x2D ∷ 0x2D ∷ 0x35 ∷ []) ≡ refused 8
unfolding int_of int_in sign_at rest_of digits_in whole_of left_by right_by every_by
two-signs = refl

-- `- 5 ` leading, `5+` trailing, `-5` without a separate sign
sign-apart : int_of 2 (0x2D ∷ 0x20 ∷ 0x35 ∷ 0x20 ∷ []) ≡ some true 5
unfolding int_of int_in sign_at rest_of digits_in whole_of left_by right_by every_by
sign-apart = refl

plus-behind : int_of 3 (0x35 ∷ 0x2B ∷ []) ≡ some false 5
unfolding int_of int_in sign_at rest_of digits_in whole_of left_by right_by every_by
plus-behind = refl

no-separate : int_of 0 (0x2D ∷ 0x35 ∷ []) ≡ some true 5
unfolding int_of int_in sign_at rest_of digits_in whole_of left_by right_by every_by
no-separate = refl

-- "An empty `-` is 0, but `+` unseparated is refused with 8"
empty-minus : int_of 2 (0x2D ∷ []) ≡ some false 0
unfolding int_of int_in sign_at rest_of digits_in whole_of left_by right_by every_by
empty-minus = refl

bare-plus : int_of 0 (0x2B ∷ []) ≡ refused 8
unfolding int_of int_in sign_at rest_of digits_in whole_of left_by right_by every_by
bare-plus = refl

blanks-zero : int_of 0 (0x20 ∷ 0x09 ∷ []) ≡ some false 0
unfolding int_of int_in sign_at rest_of digits_in whole_of left_by right_by every_by
blanks-zero = refl

-- 9223372036854775808 with a minus: in range but behind a separate sign
least-text : List ℕ
least-text = 57 ∷ 50 ∷ 50 ∷ 51 ∷ 51 ∷ 55 ∷ 50 ∷ 48 ∷ 51 ∷ 54 ∷ 56 ∷ 53 ∷ 52 ∷ 55 ∷ 55 ∷ 53 ∷ 56 ∷ 48 ∷ 56 ∷ []

least : int_of 0 (45 ∷ least-text) ≡ some true (2 ^ 63)
unfolding least-text int_of int_in sign_at rest_of digits_in whole_of left_by right_by every_by
least = refl

least-separate : int_of 2 (45 ∷ least-text) ≡ refused 9
unfolding least-text int_of int_in sign_at rest_of digits_in whole_of left_by right_by every_by
least-separate = refl

-- `12.5-`, trailing; on page 1
kept : decimal_of 3 (0x31 ∷ 0x32 ∷ 0x2E ∷ 0x35 ∷ 0x2D ∷ []) ≡ some true 125
unfolding decimal_of sign_at rest_of kept_by left_by right_by every_by keep_by
kept = refl

kept_on : decimal_of 3 (map (from_page 1) (0xF1 ∷ 0xF2 ∷ 0x4B ∷ 0xF5 ∷ 0x60 ∷ [])) ≡ some true 125
unfolding decimal_of sign_at rest_of kept_by left_by right_by every_by keep_by from_page to_ascii ascii_table
kept_on = refl

not_ascii : decimal_of 0 (0x31 ∷ 0x80 ∷ []) ≡ refused 8
unfolding decimal_of sign_at rest_of kept_by left_by right_by every_by keep_by
not_ascii = refl

-- writing: -12 in four bytes, leading; 10 in one byte; a precision above the width; the minus of a signed field without a separate sign is lost
leading : int_written 1 true 12 true 2 (0 ∷ 0 ∷ 0 ∷ 0 ∷ []) ≡ (0x60 ∷ 0xF0 ∷ 0xF1 ∷ 0xF2 ∷ [])
unfolding int_written int_fits int_bytes onto_page to_ebcdic ebcdic_table
leading = refl

no_room : int_fits 1 false 10 false 0 ≡ false
unfolding int_fits
no_room = refl

no-width : int_fits 0 false 0 false 0 ≡ false
unfolding int_fits
no-width = refl

precise : decimal_fits 3 4 false 5 0 ≡ false
unfolding decimal_fits
precise = refl

lost : int_written 0 true 7 true 0 (0 ∷ 0 ∷ []) ≡ (0x30 ∷ 0x37 ∷ [])
unfolding int_written int_fits int_bytes onto_page
lost = refl

-- ` +7` as a text, and a text of no digits
text-seven : whole_in (Text 0 3) (0x20 ∷ 0x2B ∷ 0x37 ∷ []) ≡ some false 7
unfolding whole_of digits_in left_by right_by every_by
text-seven = refl

text-empty : whole_in (Text 0 0) [] ≡ refused 13
unfolding whole_of digits_in left_by right_by every_by
text-empty = refl

scaled : whole_in (decimal false 125 2) [] ≡ refused 13
scaled = refl
