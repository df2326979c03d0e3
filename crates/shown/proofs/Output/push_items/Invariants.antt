-- The lines of the items passed were handed over.
use Rattle.shown.specs.Sink.{state, Took}
use Rattle.shown.specs.Shown.{listed_from}
use Rattle.shown.proofs.Output.push_items.Given as goal

abbrev pub invariant-loop-k : goal.invariant-loop-k
invariant-loop-k l = Took (state l.initial.self) (listed_from l.names.text.now l.list.items.now l.list.text.now l.k 0) (state l.self)
