-- The loop judges the pairs one by one and adds them up: `Judging` says what is left to judge and to add behind the pairs passed.
use Rattle.window.proofs.Steps.{Judging}
use Rattle.window.proofs.is_summed_up.Given as goal

abbrev pub invariant-loop-i : goal.invariant-loop-i
invariant-loop-i l = Judging l.window l.i l.sums.first l.sums.second
