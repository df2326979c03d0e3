-- Each of the two ways is one law of Steps, from what the stores leave.
use Rattle.window.proofs.Steps.{push-grows, push-rolls}
use Rattle.window.proofs.push.Goals as goal

pub returns-then-count-w : goal.returns-then-count-w
returns-then-count-w c =
    push-grows _ _ _ _ c.pair_at-sums.ensures c.if-count-w.true _ _ _ c.put_pair.ensures c.plus.ensures c.put_head.ensures

pub returns-else-count-w : goal.returns-else-count-w
returns-else-count-w c =
    push-rolls _ _ _ _ c.pair_at-sums.ensures c.if-count-w.false _ _ _ _ _ _ c.pair_at.ensures c.minus-rest.ensures c.copy_within.ensures.after
    c.put_pair-else-count-w.ensures c.plus-else-count-w.ensures c.put_head-else-count-w.ensures
