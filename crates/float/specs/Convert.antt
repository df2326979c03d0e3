-- A scalar where a Float field or a Decimal field is to be written.
use Rattle.std.specs.Prelude.{ℕ, false, cond, nat_lt, to_bits}
use Rattle.std.specs.Float.{binary64}
use Rattle.std.specs.Float.Ieee.{of_int}
use Rattle.value.specs.Answer.{Answer, refused, given}
use Rattle.value.specs.declared.Scalar.{Scalar}
use Rattle.value.specs.declared.Scalar.TheVariants.{Null, Text, Int, Decimal, Float as FloatV, FloatBits, Bool as BoolV}
use Rattle.value.specs.Digits.{signed_of}
use Rattle.value.specs.declared.Whole.{Whole}
use Rattle.value.specs.Number.{some, no_number, amount_of}
use Rattle.value.specs.Rounding.{rescaled}
use Rattle.float.specs.Decimal.{to_decimal, of_decimal}

-- the f64 word for a Float field; Text and Bool are refused (13), and a scale above 18 too
unfoldable pub floated_of : Scalar → Answer ℕ
floated_of Null = given 0
floated_of (Text start count) = refused 13
floated_of (Int negative size) = given (to_bits binary64 (of_int binary64 (signed_of negative size)))
floated_of (Decimal negative size scale) = cond (nat_lt 18 scale) (refused 13) (given (to_bits binary64 (of_decimal negative size scale)))
floated_of (FloatV x) = given (to_bits binary64 x)
floated_of (FloatBits w) = given w
floated_of (BoolV b) = refused 13

-- the number for a Decimal field of a scale; Text, NaN and Bool are refused
unfoldable pub decimal_for : Scalar → ℕ → Answer Whole
decimal_for Null scale = some false 0
decimal_for (Text start count) scale = no_number
decimal_for (Int negative size) scale = amount_of negative (rescaled 0 scale size)
decimal_for (Decimal negative size from) scale = amount_of negative (rescaled from scale size)
decimal_for (FloatV x) scale = to_decimal x scale
decimal_for (FloatBits w) scale = no_number
decimal_for (BoolV b) scale = no_number
