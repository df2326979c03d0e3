-- The divisor is 10^k, which is not 0; from k = 20 on nothing is left (`ruled-gone`).
use Rattle.std.proofs.Common.{arith, rules}
use Rattle.value.proofs.Word.{some-power}
use Rattle.window.specs.Window.{rule_of}
use Rattle.window.proofs.Rules.{ruled-gone}
use Rattle.window.proofs.without_digits.Goals as goal

pub returns-then-k-gt19 : goal.returns-then-k-gt19
returns-then-k-gt19 c = ruled-gone (rule_of c.args.passed) c.args.size c.args.k (omega arith) (search rules)

pub nonzero_div-result : goal.nonzero_div-result
nonzero_div-result c = some-power c.ten_to.ensures (omega arith)
