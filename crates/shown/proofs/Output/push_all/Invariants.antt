-- The bytes passed were handed over.
use Rattle.std.proofs.Common.{take}
use Rattle.shown.specs.Sink.{state, Took}
use Rattle.shown.proofs.Output.push_all.Given as goal

abbrev pub invariant-loop-b : goal.invariant-loop-b
invariant-loop-b l = Took (state l.initial.self) (take l.b-index l.bytes) (state l.self)
