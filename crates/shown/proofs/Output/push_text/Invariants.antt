-- The bytes passed were handed over, each as it is escaped.
use Rattle.std.proofs.Common.{take}
use Rattle.value.specs.Digits.{spread}
use Rattle.shown.specs.Shown.{escape}
use Rattle.shown.specs.Sink.{state, Took}
use Rattle.shown.proofs.Output.push_text.Given as goal

abbrev pub invariant-loop-b : goal.invariant-loop-b
invariant-loop-b l = Took (state l.initial.self) (spread escape (take l.b-index l.text)) (state l.self)
