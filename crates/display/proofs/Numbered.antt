-- What refuses an Int or a Display field, or a value as an integer, is a question.
use mathlib.Core.Bool.{Bool, true, false, ◌&&◌}
use mathlib.Core.List.{List, map}
use Prim.Native.Nat.{ℕ, ◌+◌, ◌^◌}
use native.Mathlib.Omega.{arith}
use lib.Dec.{eqb, ltb}
use lib.ListN.{length, get_or, drop}
use Rattle.value.specs.declared.Scalar.{Scalar}
use Rattle.value.specs.declared.Scalar.TheVariants.{Null, Text, Int, Decimal, Float, FloatBits, Bool as BoolV}
use Rattle.value.specs.Answer.{Answer, refused, given}
use Rattle.value.specs.Digits.{value_of, is_digit, digit_in, limit}
use Rattle.value.specs.declared.Whole.{Whole}
use Rattle.value.specs.Number.{some, read_in, unlawful, no_number}
use Rattle.value.proofs.Answers.{Numbered, numbered-cond, numbered-in}
use Rattle.lists.specs.Scan.{every_by}
use Rattle.numerals.specs.Numerals.{trimmed, is_sign}
use Rattle.numerals.proofs.Reading.{kept-numbered}
use Rattle.display.specs.Display.{sign_at, rest_of, digits_in, whole_of, int_in, int_of, decimal_of, or_refused, whole_in}

digits-numbered : (bound : ℕ) (negative : Bool) (t : List ℕ) → Numbered (digits_in bound negative t)
unfolding digits_in
digits-numbered bound negative t =
    numbered-cond (ltb 0 (length t) && every_by is_digit t) (read_in bound negative (value_of (map digit_in t))) unlawful (numbered-in 9 bound negative (value_of (map digit_in t)) (λ e. omega arith)) (λ e. omega arith)

whole-numbered : (t : List ℕ) → Numbered (whole_of t)
unfolding whole_of
whole-numbered t =
    numbered-cond (eqb (get_or t 0 0) 45) (digits_in (2 ^ 63 + 1) true (drop 1 t)) _ (digits-numbered (2 ^ 63 + 1) true (drop 1 t))
    (numbered-cond (eqb (get_or t 0 0) 43) (digits_in (2 ^ 63) false (drop 1 t)) (digits_in (2 ^ 63) false t) (digits-numbered (2 ^ 63) false (drop 1 t)) (digits-numbered (2 ^ 63) false t))

in-numbered : (sign : ℕ) (t u : List ℕ) → Numbered (int_in sign t u)
unfolding int_in
in-numbered sign t u =
    numbered-cond (eqb (length u) 0) (some false 0) _ tt
    (numbered-cond (is_sign (sign_at sign t)) (digits_in (2 ^ 63) (eqb (sign_at sign t) 45) u) (whole_of u) (digits-numbered (2 ^ 63) (eqb (sign_at sign t) 45) u) (whole-numbered u))

pub int-numbered : (sign : ℕ) (s : List ℕ) → Numbered (int_of sign s)
unfolding int_of
int-numbered sign s = in-numbered sign (trimmed s) (trimmed (rest_of sign (trimmed s)))

pub decimal-numbered : (sign : ℕ) (s : List ℕ) → Numbered (decimal_of sign s)
unfolding decimal_of
decimal-numbered sign s = kept-numbered limit (eqb (sign_at sign (trimmed s)) 45) (rest_of sign (trimmed s))

or-numbered : (n : Answer Whole) → Numbered (or_refused n)
or-numbered (refused question) = λ e. omega arith
or-numbered (given n) = tt

pub in-whole-numbered : (v : Scalar) (text : List ℕ) → Numbered (whole_in v text)
in-whole-numbered Null text = tt
in-whole-numbered (Text start count) text = or-numbered (whole_of (trimmed text))
in-whole-numbered (Int negative size) text = tt
in-whole-numbered (Decimal negative size scale) text = numbered-cond (eqb scale 0) (some negative size) no_number tt (λ e. omega arith)
in-whole-numbered (Float x) text = λ e. omega arith
in-whole-numbered (FloatBits w) text = λ e. omega arith
in-whole-numbered (BoolV b) text = λ e. omega arith
