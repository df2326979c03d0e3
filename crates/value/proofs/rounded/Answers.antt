-- The divisor is 10^k, and the quotient goes up as the definition's does (`rounded-up`, `rounded-down`); from k = 20 on nothing is left (`scale-gone`).
use Rattle.std.proofs.Common.{◌^◌, sym, ◌∙◌, mod-lt, arith, rules}
use Rattle.value.proofs.Nearest.{rounded-up, rounded-down}
use Rattle.value.proofs.Rounding.{scale-gone}
use Rattle.value.proofs.Word.{is-power, some-power}
use Rattle.value.proofs.rounded.Goals as goal

pub returns-then-k-gt19 : goal.returns-then-k-gt19
returns-then-k-gt19 c = scale-gone c.args.k c.args.size (omega arith) (search rules)

pub nonzero_div-q : goal.nonzero_div-q
nonzero_div-q c = some-power c.ten_to-p.ensures (omega arith)

pub nonzero_rem-rest : goal.nonzero_rem-rest
nonzero_rem-rest c = some-power c.ten_to-p.ensures (omega arith)

pub overflow_sub-p : goal.overflow_sub-p
overflow_sub-p c = omega (arith, mod-lt c.args.size (some-power c.ten_to-p.ensures (omega arith)))

pub returns-then-goes_up : goal.returns-then-goes_up
returns-then-goes_up c =
    let up = sym c.goes_up.ensures ∙ c.if-goes_up.true in
    rounded-up c.args.size (10 ^ c.args.k) c.ten_to-p.result (is-power c.ten_to-p.ensures (omega arith)) up

pub returns-else-goes_up : goal.returns-else-goes_up
returns-else-goes_up c =
    let down = sym c.goes_up.ensures ∙ c.if-goes_up.false in
    rounded-down c.args.size (10 ^ c.args.k) c.ten_to-p.result (is-power c.ten_to-p.ensures (omega arith)) down
