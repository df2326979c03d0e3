-- Worked examples, each computed.
use Rattle.std.specs.Prelude.{◌≡◌, ◌+◌, ◌-◌, ◌*◌, ◌^◌, true, false, [], ◌∷◌, negsuc, refl}
use Rattle.std.specs.Float.{fin, binary64}
use Rattle.std.specs.Float.Ieee.{of_bits, to_bits, nan_bits, of_int, div, mul}
use Rattle.value.specs.Answer.{refused, given}
use Rattle.value.specs.Number.{some}
use Rattle.value.specs.declared.Scalar.TheVariants.{Int, FloatBits}
use Rattle.value.specs.Rounding.{rounded, rescaled}
use Rattle.value.specs.Scalar.{decimal}
use Rattle.float.specs.Half.{half16, half_word}
use Rattle.float.specs.Single.{narrow, single_pattern}
use Rattle.float.specs.Narrow.{units_of, pattern_of, half_pattern}
use Rattle.float.specs.Decimal.{decimal_of, to_decimal}
use Rattle.binary.specs.Bytes.{word_in, bytes_of}
use Rattle.float.specs.Convert.{floated_of, decimal_for}
use Rattle.float.specs.Field.{word_for, pattern_for, float_in, float_bytes, exact_in}

-- half 0x0001 is 2^−24
half-least : half16 1 ≡ fin false 1 (negsuc 23)
unfolding half16
half-least = refl

half-least-word : half_word 0x0001 ≡ 0x3e70_0000_0000_0000
unfolding half_word to_bits
half-least-word = refl

half-largest : half_word 0x7bff ≡ 0x40ef_fc00_0000_0000
unfolding half_word to_bits
half-largest = refl

half-minus-zero : half_word 0x8000 ≡ 0x8000_0000_0000_0000
unfolding half_word to_bits
half-minus-zero = refl

half-nan : half_word 0xfe01 ≡ 0x7ff8_0000_0000_0000
unfolding half_word to_bits
half-nan = refl

-- 02, S-9: "65520 becomes 0x7C00 and 2^−24 becomes 0x0001"; 65520 is half way from 65504 to 65536, which is an infinity too; the f64 below it is the largest number;
-- 2^−25 is as near to 0 as to 2^−24, and the next f64 is not
half_over : half_pattern 0x40ef_fe00_0000_0000 ≡ 0x7c00
unfolding pattern_of of_bits
half_over = refl

half-limit : units_of 11 (31744 - 1) + units_of 11 31744 ≡ 2 * (65520 * 2 ^ 24)
half-limit = refl

half-next-power : half_pattern 0x40f0_0000_0000_0000 ≡ 0x7c00
unfolding pattern_of of_bits
half-next-power = refl

half-below : half_pattern 0x40ef_fdff_ffff_ffff ≡ 0x7bff
unfolding pattern_of of_bits
half-below = refl

half-smallest : half_pattern 0x3e70_0000_0000_0000 ≡ 0x0001
unfolding pattern_of of_bits
half-smallest = refl

half-tie : half_pattern 0x3e60_0000_0000_0000 ≡ 0x0000
unfolding pattern_of of_bits
half-tie = refl

half-past-tie : half_pattern 0x3e60_0000_0000_0001 ≡ 0x0001
unfolding pattern_of of_bits
half-past-tie = refl

-- the largest subnormal number, (2^10 - 1) 2^−24; half way from there to 2^−14; 2^−14; 2.5 * 2^−24 and 3.5 * 2^−24
half-subnormal : half_pattern 0x3f0f_f800_0000_0000 ≡ 0x03ff
unfolding pattern_of of_bits
half-subnormal = refl

half-to-normal : half_pattern 0x3f0f_fc00_0000_0000 ≡ 0x0400
unfolding pattern_of of_bits
half-to-normal = refl

half-normal : half_pattern 0x3f10_0000_0000_0000 ≡ 0x0400
unfolding pattern_of of_bits
half-normal = refl

half-tie-low : half_pattern 0x3e84_0000_0000_0000 ≡ 0x0002
unfolding pattern_of of_bits
half-tie-low = refl

half-tie-high : half_pattern 0x3e8c_0000_0000_0000 ≡ 0x0004
unfolding pattern_of of_bits
half-tie-high = refl

-- 1 + 2^−11 is as near to 1 as to 1 + 2^−10; the f64 above it, and the f64 below 1 + 3 * 2^−11, are nearest to 1 + 2^−10: at 32 bits first, both would be such ties
half-even : half_pattern 0x3ff0_0200_0000_0000 ≡ 0x3c00
unfolding pattern_of of_bits
half-even = refl

half-once : half_pattern 0x3ff0_0200_0000_0001 ≡ 0x3c01
unfolding pattern_of of_bits
half-once = refl

half_twice : pattern_of 11 24 31 (narrow (of_bits binary64 0x3ff0_0200_0000_0001)) ≡ 0x3c00
unfolding pattern_of narrow of_bits
half_twice = refl

half-once-down : half_pattern 0x3ff0_05ff_ffff_ffff ≡ 0x3c01
unfolding pattern_of of_bits
half-once-down = refl

half-twice-up : pattern_of 11 24 31 (narrow (of_bits binary64 0x3ff0_05ff_ffff_ffff)) ≡ 0x3c02
unfolding pattern_of narrow of_bits
half-twice-up = refl

-- signs: -0, -2^−24, an infinity, and a NaN, which has none
half-zero-minus : half_pattern 0x8000_0000_0000_0000 ≡ 0x8000
unfolding pattern_of of_bits
half-zero-minus = refl

half-smallest-minus : half_pattern 0xbe70_0000_0000_0000 ≡ 0x8001
unfolding pattern_of of_bits
half-smallest-minus = refl

half-infinite-minus : half_pattern 0xfff0_0000_0000_0000 ≡ 0xfc00
unfolding pattern_of of_bits
half-infinite-minus = refl

half-nan-plus : half_pattern 0x7ff0_0000_0000_0001 ≡ 0x7e00
unfolding pattern_of of_bits
half-nan-plus = refl

half-nan-minus : half_pattern 0xfff8_0000_0000_0001 ≡ 0x7e00
unfolding pattern_of of_bits
half-nan-minus = refl

-- 0.1 at binary32, and the first number that overflows
single-tenth : single_pattern 0x3fb9_9999_9999_999a ≡ 0x3dcc_cccd
unfolding narrow of_bits to_bits
single-tenth = refl

single-over : single_pattern 0x47ef_ffff_f000_0000 ≡ 0x7f80_0000
unfolding narrow of_bits to_bits
single-over = refl

single-below : single_pattern 0x47ef_ffff_efff_ffff ≡ 0x7f7f_ffff
unfolding narrow of_bits to_bits
single-below = refl

single-least : single_pattern 0x3690_0000_0000_0001 ≡ 1
unfolding narrow of_bits to_bits
single-least = refl

-- 12.5, by a product of two places too, is 12; 0.5 is 0, 1.5 is 2; -0.125 with two places is -12
decimal-even : decimal_of (of_bits binary64 0x4029_0000_0000_0000) ≡ some false 12
unfolding decimal_of rounded of_bits
decimal-even = refl

decimal-product : to_decimal (of_bits binary64 0x3fc0_0000_0000_0000) 2 ≡ some false 12
unfolding to_decimal decimal_of rounded of_bits mul of_int
decimal-product = refl

decimal-none : decimal_of (of_bits binary64 0x3fe0_0000_0000_0000) ≡ some false 0
unfolding decimal_of rounded of_bits
decimal-none = refl

decimal-odd : decimal_of (of_bits binary64 0x3ff8_0000_0000_0000) ≡ some false 2
unfolding decimal_of rounded of_bits
decimal-odd = refl

decimal-minus : to_decimal (of_bits binary64 0xbfc0_0000_0000_0000) 2 ≡ some true 12
unfolding to_decimal decimal_of rounded of_bits mul of_int
decimal-minus = refl

-- the f64 above 0.5 is 1; -0.5 and -0.25 are 0, which has no sign; 10^18 is too big
decimal-above : decimal_of (of_bits binary64 0x3fe0_0000_0000_0001) ≡ some false 1
unfolding decimal_of rounded of_bits
decimal-above = refl

decimal-zero : to_decimal (of_bits binary64 0xbfe0_0000_0000_0000) 0 ≡ some false 0
unfolding to_decimal decimal_of rounded of_bits mul of_int
decimal-zero = refl

decimal-small : to_decimal (of_bits binary64 0xbfd0_0000_0000_0000) 0 ≡ some false 0
unfolding to_decimal decimal_of rounded of_bits mul of_int
decimal-small = refl

decimal-big : to_decimal (of_bits binary64 0x3ff0_0000_0000_0000) 18 ≡ refused 14
unfolding to_decimal decimal_of rounded of_bits mul of_int
decimal-big = refl

-- 02, S-6: "125 of scale 2 becomes 12 at scale 1, 135 becomes 14, −125 becomes −12"
scale-even : decimal_for (decimal false 125 2) 1 ≡ some false 12
unfolding decimal_for rescaled rounded
scale-even = refl

scale-odd : decimal_for (decimal false 135 2) 1 ≡ some false 14
unfolding decimal_for rescaled rounded
scale-odd = refl

scale-minus : decimal_for (decimal true 125 2) 1 ≡ some true 12
unfolding decimal_for rescaled rounded
scale-minus = refl

-- fields: a NaN of 16 bits, a half of the wrong width, 65520 at 16 bits little-endian, 2^−24 big-endian, and -2 at 32 bits
field-nan : float_in 0 16 (0x7c ∷ 0x01 ∷ []) ≡ given (FloatBits 0x7ff8_0000_0000_0000)
unfolding float_in word_for word_in half_word to_bits nan_bits
field-nan = refl

field-short : float_in 0 16 (0x01 ∷ []) ≡ refused 8
unfolding float_in
field-short = refl

field-half : float_bytes 1 16 2 0x40ef_fe00_0000_0000 ≡ 0x00 ∷ 0x7c ∷ []
unfolding float_bytes pattern_for bytes_of pattern_of of_bits
field-half = refl

field-smallest : float_bytes 0 16 2 0x3e70_0000_0000_0000 ≡ 0x00 ∷ 0x01 ∷ []
unfolding float_bytes pattern_for bytes_of pattern_of of_bits
field-smallest = refl

field-single : float_bytes 0 32 4 0xc000_0000_0000_0000 ≡ 0xc0 ∷ 0 ∷ 0 ∷ 0 ∷ []
unfolding float_bytes pattern_for bytes_of narrow of_bits to_bits
field-single = refl

-- 0.1 is exact neither at 32 bits nor at 16; 2^−24 is at 16, and the NaN is not
inexact-single : exact_in 32 0x3fb9_9999_9999_999a ≡ false
unfolding exact_in narrow of_bits to_bits nan_bits
inexact-single = refl

inexact-half : exact_in 16 0x3fb9_9999_9999_999a ≡ false
unfolding exact_in pattern_of of_bits to_bits half_word
inexact-half = refl

exact-half : exact_in 16 0x3e70_0000_0000_0000 ≡ true
unfolding exact_in pattern_of of_bits to_bits half_word
exact-half = refl

exact-half-nan : exact_in 16 0x7ff8_0000_0000_0000 ≡ false
unfolding exact_in pattern_of of_bits to_bits half_word
exact-half-nan = refl

-- -1 of scale 1 as a float is -0.1, and 0 with a minus is 0
float-of-tenth : floated_of (decimal true 1 1) ≡ given 0xbfb9_9999_9999_999a
unfolding floated_of of_int div to_bits
float-of-tenth = refl

float-of-zero : floated_of (Int true 0) ≡ given 0
unfolding floated_of of_int to_bits
float-of-zero = refl
