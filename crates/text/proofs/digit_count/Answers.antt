-- v is at least the power of ten that has n digits, for each n that has passed.
use Rattle.std.proofs.Common.{◌≡◌, sym, ◌∙◌, arith}
use Rattle.text.proofs.Count.{count-found, count_next, count-last}
use Rattle.text.proofs.digit_count.Goals as goal

pub loop-n-init : goal.loop-n-init
loop-n-init c = λ q. absurd (omega arith)

pub returns-then-v-ten_to : goal.returns-then-v-ten_to
returns-then-v-ten_to c = count-found _ _ _ (omega arith) c.loop-n-test.true c.loop-n.invariant c.ten_to.ensures c.if-v-ten_to.true

pub loop-n-preserved : goal.loop-n-preserved
loop-n-preserved c = count_next c.loop-n.n c.args.v _ c.loop-n-test.true c.ten_to.ensures c.if-v-ten_to.false

pub returns : goal.returns
returns c =
    let e : c.loop-n.n ≡ 20 = omega (arith, c.loop-n.auto.n, c.loop-n.auto.n-end) in
    sym e ∙ count-last c.loop-n.n c.args.v e (omega arith) c.loop-n.invariant
