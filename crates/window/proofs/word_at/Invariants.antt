-- The loop steps over so many items of the top level; what is left to step over is kept equal.
use Rattle.std.proofs.Common.{◌≡◌, ◌-◌}
use Rattle.items.specs.Items.{values}
use Rattle.window.specs.Pair.{values_from}
use Rattle.window.proofs.word_at.Given as goal

abbrev pub invariant-loop : goal.invariant-loop
invariant-loop l = values_from l.k (values l.list.items.now 0 l.to) ≡ values_from (l.k - l.counter) (values l.list.items.now l.i l.to)
