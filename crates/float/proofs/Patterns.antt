-- A float by its own bit pattern, and the decimal that it makes.
use Rattle.std.proofs.Common.{◌≡◌, ◌-◌, ◌*◌, ◌/◌, ◌%◌, ◌^◌, Bool, true, false, cond, not, T, eqb, leb, sym, ap, ◌∙◌, subst, true≢false}
use lib.Ieee.{Float, nan, inf, fin, binary64, is_nan, ne, fits, to_bits}
use lib.Ieee.Bits.{of_bits-to_bits}
use lib.Ieee.Compare.{nan_differs}
use lib.Ieee.Exact.{HasValue}
use Rattle.float.specs.Half.{sig}
use Rattle.value.specs.Answer.{refused}
use Rattle.value.specs.Number.{no_number}
use Rattle.float.specs.Decimal.{decimal_of}
use Rattle.float.proofs.Fields.{pattern-value, pattern-top, field_lt}

-- what equals itself is no NaN
pub equal_no_nan : (y : Float) → ne y y ≡ false → T (not (is_nan y))
unfolding is_nan
equal_no_nan nan e = absurd (true≢false (sym nan_differs ∙ e))
equal_no_nan (inf s) e = tt
equal_no_nan (fin s m k) e = tt

no_nan : (y : Float) → T (not (is_nan y)) → y ≡ nan → ⊥
unfolding is_nan
no_nan y t e = subst (λ (z : Float). T (not (is_nan z))) e t

-- the highest field, and no NaN: an infinity
pub infinite : (y : Float) → T (fits binary64 y) → T (not (is_nan y)) → to_bits binary64 y % 2 ^ 63 / 2 ^ 52 ≡ 2047 → (s : Bool) × (y ≡ inf s)
infinite y h n e =
    let b = to_bits binary64 y in
    go (eqb (b % 2 ^ 52) 0) (sym (of_bits-to_bits binary64 y h) ∙ pattern-top binary64 b e)
  where
    go : (t : Bool) → y ≡ cond t (inf (leb (2 ^ 63) (to_bits binary64 y))) nan → (s : Bool) × (y ≡ inf s)
    go true q = (leb (2 ^ 63) (to_bits binary64 y), q)
    go false q = absurd (no_nan y n q)

-- a lower one: the value of its fields
pub own_value : (y : Float) → T (fits binary64 y) → let b = to_bits binary64 y in
    (b % 2 ^ 63 / 2 ^ 52 ≡ 2047 → ⊥) → HasValue y (leb (2 ^ 63) b) (sig (2 ^ 52) (b % 2 ^ 63 / 2 ^ 52) (b % 2 ^ 52) * 2 ^ (b % 2 ^ 63 / 2 ^ 52 - 1)) (2 ^ 1074)
own_value y h n =
    let b = to_bits binary64 y in
    subst (λ (z : Float). HasValue z (leb (2 ^ 63) b) (sig (2 ^ 52) (b % 2 ^ 63 / 2 ^ 52) (b % 2 ^ 52) * 2 ^ (b % 2 ^ 63 / 2 ^ 52 - 1)) (2 ^ 1074)) (of_bits-to_bits binary64 y h)
    (pattern-value binary64 b (field_lt b n))

pub decimal-nan : (y : Float) → y ≡ nan → no_number ≡ decimal_of y
unfolding decimal_of
decimal-nan y e = sym (ap decimal_of e)

pub decimal-inf : (y : Float) → (s : Bool) × (y ≡ inf s) → refused 14 ≡ decimal_of y
unfolding decimal_of
decimal-inf y e = sym (ap decimal_of e.1)
