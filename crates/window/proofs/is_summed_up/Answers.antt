-- The loop judges the pairs one by one and adds them up: `Judging` says what is left to judge and to add behind the pairs passed.
use Rattle.std.proofs.Common.{sym, ◌∙◌}
use Rattle.window.proofs.Steps.{judging-stops, judging-goes}
use Rattle.window.proofs.is_summed_up.Goals as goal

pub returns-then-not-is_small : goal.returns-then-not-is_small
returns-then-not-is_small c =
    rw (judging-stops _ _ _ _ c.loop-i.invariant c.loop-i-test.true _ c.pair_at-pair.ensures (sym c.is_small.ensures ∙ c.if-not-is_small.true))

pub loop-i-preserved : goal.loop-i-preserved
loop-i-preserved c =
    judging-goes _ _ _ _ c.loop-i.invariant c.loop-i-test.true _ c.pair_at-pair.ensures (sym c.is_small.ensures ∙ c.if-not-is_small.false) _ c.plus-sums.ensures
