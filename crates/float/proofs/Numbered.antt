-- What refuses a Float field, or a value in a Float or a Decimal field, is a question.
use Rattle.std.proofs.Common.{ℕ, ◌*◌, ◌^◌, ltb, List, length, pos, arith}
use lib.Ieee.{Float, nan, inf, fin, binary64, up, down, of_int, mul, to_bits}
use Rattle.value.specs.declared.Scalar.{Scalar}
use Rattle.value.specs.declared.Scalar.TheVariants.{Null, Text, Int, Decimal, Float as FloatV, FloatBits, Bool as BoolV}
use Rattle.value.specs.Answer.{refused, given}
use Rattle.value.specs.Digits.{limit}
use Rattle.value.specs.Number.{no_number}
use Rattle.value.specs.Rounding.{rounded, rescaled}
use Rattle.value.specs.Scalar.{float_of}
use Rattle.value.proofs.Answers.{Numbered, numbered-cond, numbered-in}
use Rattle.binary.specs.Bytes.{word_in}
use Rattle.float.specs.Decimal.{decimal_of, to_decimal, of_decimal}
use Rattle.float.specs.Convert.{floated_of, decimal_for}
use Rattle.float.specs.Field.{field_ok, word_for, float_in}

pub field-numbered : (order bits : ℕ) (s : List ℕ) → Numbered (float_in order bits s)
unfolding float_in
field-numbered order bits s = numbered-cond (field_ok bits (length s)) (given (float_of (word_for bits (word_in order s)))) (refused 8) tt (λ e. omega arith)

pub floated-numbered : (v : Scalar) → Numbered (floated_of v)
unfolding floated_of
floated-numbered Null = tt
floated-numbered (Text start count) = λ e. omega arith
floated-numbered (Int negative size) = tt
floated-numbered (Decimal negative size scale) = numbered-cond (ltb 18 scale) (refused 13) (given (to_bits binary64 (of_decimal negative size scale))) (λ e. omega arith) tt
floated-numbered (FloatV x) = tt
floated-numbered (FloatBits w) = tt
floated-numbered (BoolV b) = λ e. omega arith

decimal-numbered : (x : Float) → Numbered (decimal_of x)
unfolding decimal_of
decimal-numbered nan = λ e. omega arith
decimal-numbered (inf s) = λ e. omega arith
decimal-numbered (fin s m e) = numbered-in 14 limit s (rounded (m * up e) (down e)) (λ z. omega arith)

pub for-numbered : (v : Scalar) (scale : ℕ) → Numbered (decimal_for v scale)
unfolding decimal_for to_decimal
for-numbered Null scale = tt
for-numbered (Text start count) scale = λ e. omega arith
for-numbered (Int negative size) scale = numbered-in 14 limit negative (rescaled 0 scale size) (λ e. omega arith)
for-numbered (Decimal negative size from) scale = numbered-in 14 limit negative (rescaled from scale size) (λ e. omega arith)
for-numbered (FloatV x) scale =
    numbered-cond (ltb 18 scale) no_number (decimal_of (mul binary64 x (of_int binary64 (pos (10 ^ scale))))) (λ e. omega arith) (decimal-numbered (mul binary64 x (of_int binary64 (pos (10 ^ scale)))))
for-numbered (FloatBits w) scale = λ e. omega arith
for-numbered (BoolV b) scale = λ e. omega arith
