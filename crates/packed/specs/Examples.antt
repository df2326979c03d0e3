-- The starred records of the format, by computation.
use Rattle.std.specs.Prelude.{◌≡◌, refl, [], ◌∷◌, true, false, ◌+◌, ◌-◌, ◌*◌, ◌^◌, negsuc}
use Rattle.value.specs.Answer.{refused}
use Rattle.value.specs.Digits.{digit_at, signed_of}
use Rattle.value.specs.Field.{field_of}
use Rattle.value.specs.Number.{some}
use Rattle.packed.specs.Packed.{decode_of, fits_of, written_of, sign_of, two_at}

minus-12345 : decode_of (0x12 ∷ 0x34 ∷ 0x5D ∷ []) ≡ some true 12345
unfolding decode_of field_of
minus-12345 = refl

one-positive : decode_of (0x1E ∷ []) ≡ some false 1
unfolding decode_of field_of
one-positive = refl

no_sign : decode_of (0x19 ∷ []) ≡ refused 8
unfolding decode_of field_of
no_sign = refl

no_digit : decode_of (0xA1 ∷ 0x1C ∷ []) ≡ refused 8
unfolding decode_of field_of
no_digit = refl

no-width : decode_of [] ≡ refused 8
unfolding decode_of field_of
no-width = refl

minus-zero : decode_of (0x0D ∷ []) ≡ some false 0
unfolding decode_of field_of
minus-zero = refl

largest : decode_of (0x09 ∷ 0x99 ∷ 0x99 ∷ 0x99 ∷ 0x99 ∷ 0x99 ∷ 0x99 ∷ 0x99 ∷ 0x99 ∷ 0x9C ∷ []) ≡ some false (10 ^ 18 - 1)
unfolding decode_of field_of
largest = refl

too_large : decode_of (0x10 ∷ 0x00 ∷ 0x00 ∷ 0x00 ∷ 0x00 ∷ 0x00 ∷ 0x00 ∷ 0x00 ∷ 0x00 ∷ 0x0C ∷ []) ≡ refused 9
unfolding decode_of field_of
too_large = refl

ten-in-one : fits_of 1 10 ≡ false
ten-in-one = refl

five-unsigned : written_of (0 ∷ []) true 5 false ≡ (0x5F ∷ [])
unfolding written_of
five-unsigned = refl

first-by-place : two_at 3 0 12345 ≡ 0x12
first-by-place = refl

middle-by-place : two_at 3 1 12345 ≡ 0x34
middle-by-place = refl

last-by-place : digit_at 0 12345 * 16 + sign_of true true ≡ 0x5D
last-by-place = refl

as-integer : signed_of true 12345 ≡ negsuc 12344
as-integer = refl
