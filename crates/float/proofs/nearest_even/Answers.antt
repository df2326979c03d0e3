-- `float::nearest_even` meets its contract: the divisor is 2^k (`bit`), and the quotient goes up as the definition's does (`rounded-up`, `rounded-down`).
use Rattle.std.proofs.Common.{ℕ, ◌*◌, ◌%◌, ◌^◌, ◌<◌, ◌≤◌, sym, ◌∙◌, subst, mod-lt, div-le_self, arith, pow_pos}
use Rattle.value.proofs.Nearest.{rounded-up, rounded-down}
use Rattle.float.proofs.Rule.{bit, none_left}
use Rattle.float.proofs.nearest_even.Goals as goal

-- the divisor
some : (k : ℕ) → k ≤ 60 → 0 < 1 * 2 ^ k % 2 ^ 64
some k h = subst (λ (u : ℕ). 0 < u) (sym (bit k h)) (pow_pos k)

pub returns-then-k-gt60 : goal.returns-then-k-gt60
returns-then-k-gt60 c = none_left c.args.m c.args.k c.requires c.if-k-gt60.true

pub nonzero_div-q : goal.nonzero_div-q
nonzero_div-q c = some c.args.k c.if-k-gt60.false

pub nonzero_rem-rest : goal.nonzero_rem-rest
nonzero_rem-rest c = some c.args.k c.if-k-gt60.false

pub overflow_sub-u : goal.overflow_sub-u
overflow_sub-u c = omega (arith, mod-lt c.args.m (some c.args.k c.if-k-gt60.false))

pub overflow_add-result : goal.overflow_add-result
overflow_add-result c = let a = c.args in omega (arith, div-le_self a.m (1 * 2 ^ a.k % 2 ^ 64))

pub returns-then-goes_up : goal.returns-then-goes_up
returns-then-goes_up c = rounded-up _ _ _ (bit c.args.k c.if-k-gt60.false) (sym c.goes_up.ensures ∙ c.if-goes_up.true)

pub returns-else-goes_up : goal.returns-else-goes_up
returns-else-goes_up c = rounded-down _ _ _ (bit c.args.k c.if-k-gt60.false) (sym c.goes_up.ensures ∙ c.if-goes_up.false)
