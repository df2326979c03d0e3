-- Floats to decimals and decimals to floats.
use Rattle.std.specs.Prelude.{◌≡◌, ℕ, ◌*◌, ◌^◌, ◌<◌, Bool, cond, pos, nat_lt, Float}
use Rattle.std.specs.Float.{nan, inf, fin, binary64}
use Rattle.std.specs.Float.Ieee.{up, down, of_int, mul, div}
use Rattle.std.specs.Float.Ieee.Exact.{HasValue}
use Rattle.value.specs.Answer.{Answer, refused}
use Rattle.value.specs.Digits.{signed_of}
use Rattle.value.specs.declared.Whole.{Whole}
use Rattle.value.specs.Number.{no_number, amount_of}
use Rattle.value.specs.Rounding.{Nearest, rounded}

-- a float as a decimal of scale 0, rounded as a Decimal is that loses scale; a size from 10^18 on is too big; "NaN into Decimal" is refused
unfoldable pub decimal_of : Float → Answer Whole
decimal_of nan = no_number
decimal_of (inf s) = refused 14
decimal_of (fin s m e) = amount_of s (rounded (m * up e) (down e))

-- "Float to Decimal multiplies once by 10^scale", which is a scale of 0..18
unfoldable pub to_decimal : Float → ℕ → Answer Whole
to_decimal x scale = cond (nat_lt 18 scale) no_number (decimal_of (mul binary64 x (of_int binary64 (pos (10 ^ scale)))))

-- 02, S-6: "or a Float becomes a Decimal": the exact value of that product is what is rounded, whatever fraction a / c it is given as
abbrev pub ProductNearest : Type 0
ProductNearest = (y : Float) (s : Bool) (a c q : ℕ) → 0 < c → HasValue y s a c → Nearest a c q → decimal_of y ≡ amount_of s q

-- the integer nearest to an f64, and 10^scale too, and the quotient
abbrev pub of_decimal : Bool → ℕ → ℕ → Float
of_decimal negative size scale = div binary64 (of_int binary64 (signed_of negative size)) (of_int binary64 (pos (10 ^ scale)))
