-- `value::float_scalar` meets its contract: `is_nan` decides which of the two scalars it is.
use Rattle.std.proofs.Common.{Bool, not, T, sym, ◌∙◌, subst}
use Rattle.value.proofs.float_scalar.Goals as goal

pub float_from_bits-result : goal.float_from_bits-result
float_from_bits-result c = subst (λ (b : Bool). T (not b)) (sym (sym c.is_nan.ensures ∙ c.if-is_nan.false)) tt

pub returns-then-is_nan : goal.returns-then-is_nan
returns-then-is_nan c = simp (sym c.is_nan.ensures ∙ c.if-is_nan.true)

pub returns-else-is_nan : goal.returns-else-is_nan
returns-else-is_nan c = simp (sym c.is_nan.ensures ∙ c.if-is_nan.false)
