-- The number that a scalar gives a Decimal field, by what is known of the scalar.
use Rattle.std.proofs.Common.{◌≡◌, ℕ, Bool, sym, ap, ◌∙◌}
use Rattle.value.specs.declared.Scalar.{Scalar}
use Rattle.value.specs.declared.Scalar.TheVariants.{Decimal}
use Rattle.value.specs.Number.{amount_of}
use Rattle.value.specs.Rounding.{rescaled}
use Rattle.value.proofs.Rounding.{scale_same}
use Rattle.float.specs.Convert.{decimal_for}

-- by the variant that was matched
pub decimal-at : (v s : Scalar) (scale : ℕ) → v ≡ s → decimal_for s scale ≡ decimal_for v scale
decimal-at v s scale e = ap (λ (z : Scalar). decimal_for z scale) (sym e)

-- a Decimal that has the scale already
pub decimal-same : (negative : Bool) (size from scale : ℕ) → from ≡ scale → amount_of negative size ≡ decimal_for (Decimal negative size from) scale
unfolding decimal_for
decimal-same negative size from scale e =
    ap (amount_of negative) (sym (scale_same from size) ∙ ap (λ (k : ℕ). rescaled from k size) e)
