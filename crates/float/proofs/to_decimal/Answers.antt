use Rattle.std.proofs.Common.{◌≡◌, ℕ, ◌-◌, ◌*◌, ◌/◌, ◌%◌, ◌^◌, ◌≤◌, Bool, pos, T, leb, sym, ap, ◌∙◌, subst, arith, pow_pos}
use lib.Ieee.{Float, binary64, mul, to_bits, of_int, fits}
use lib.Ieee.Fits.{mul-fits}
use lib.Ieee.Compare.{differs_from_itself}
use Rattle.value.specs.Answer.{Answer}
use Rattle.value.specs.declared.Whole.{Whole}
use Rattle.value.specs.Number.{amount_of}
use Rattle.value.specs.Digits.{capped, limit}
use Rattle.value.specs.Rounding.{rounded}
use Rattle.value.proofs.Answers.{number_in-capped}
use Rattle.float.specs.Half.{sig}
use Rattle.float.specs.Decimal.{decimal_of, to_decimal}
use Rattle.float.proofs.Rounding.{decimal-value, scale-good, scale-bad}
use Rattle.float.proofs.Patterns.{equal_no_nan, infinite, own_value, decimal-nan, decimal-inf}
use Rattle.float.proofs.to_decimal.Goals as goal

-- the product fits
held : (x t : Float) → T (fits binary64 (mul binary64 x t))
held x t = mul-fits binary64 x t

-- what holds of the code's product holds of the contract's, t being what a call answered for the power of ten
done : (x : Float) (scale : ℕ) {t : Float} {r : Answer Whole} → scale ≤ 18 → t ≡ of_int binary64 (pos (10 ^ scale)) → r ≡ decimal_of (mul binary64 x t) → r ≡ to_decimal x scale
done x scale h p e = scale-good x scale h (e ∙ ap (λ (t : Float). decimal_of (mul binary64 x t)) p)

-- a finite product: its sign, and what `whole_size` found
finite : (y : Float) (s : Bool) (n : ℕ) → T (fits binary64 y) → let b = to_bits binary64 y in
    (b % 2 ^ 63 / 2 ^ 52 ≡ 2047 → ⊥) → s ≡ leb (2 ^ 63) b → n ≡ capped (rounded (sig (2 ^ 52) (b % 2 ^ 63 / 2 ^ 52) (b % 2 ^ 52) * 2 ^ (b % 2 ^ 63 / 2 ^ 52 - 1)) (2 ^ 1074))
    → amount_of s n ≡ decimal_of y
finite y s n f h p q =
    let b = to_bits binary64 y in
    let m = sig (2 ^ 52) (b % 2 ^ 63 / 2 ^ 52) (b % 2 ^ 52) * 2 ^ (b % 2 ^ 63 / 2 ^ 52 - 1) in
    ap (λ (t : Bool). amount_of t n) p
    ∙ ap (amount_of (leb (2 ^ 63) b)) q
    ∙ number_in-capped 14 limit (leb (2 ^ 63) b) (rounded m (2 ^ 1074)) limit (omega arith)
    ∙ sym (decimal-value y (leb (2 ^ 63) b) m (2 ^ 1074) (pow_pos 1074) (own_value y f h))

pub returns-then-scale-gt18 : goal.returns-then-scale-gt18
returns-then-scale-gt18 c = scale-bad c.args.x c.args.scale c.if-scale-gt18.true

pub returns-then-y : goal.returns-then-y
returns-then-y c = done c.args.x c.args.scale c.if-scale-gt18.false c.ten.ensures (decimal-nan _ (differs_from_itself _ (subst T (sym c.if-y.true) tt)))

pub float_to_bits-b : goal.float_to_bits-b
float_to_bits-b c = equal_no_nan _ c.if-y.false

pub returns-then-e-eq2047 : goal.returns-then-e-eq2047
returns-then-e-eq2047 c =
    done c.args.x c.args.scale c.if-scale-gt18.false c.ten.ensures (decimal-inf _ (infinite _ (held c.args.x c.ten.result) (equal_no_nan _ c.if-y.false) c.if-e-eq2047.true))

pub returns : goal.returns
returns c =
    let x = c.args.x in
    done x c.args.scale c.if-scale-gt18.false c.ten.ensures
    (c.amount_of.ensures ∙ finite (mul binary64 x c.ten.result) _ _ (held x c.ten.result) c.if-e-eq2047.false c.is_minus.ensures c.whole_size.ensures)
