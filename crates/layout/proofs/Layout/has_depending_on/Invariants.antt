-- No entry before `i` is under depending.
use Rattle.std.proofs.Common.{◌≡◌, false}
use Rattle.layout.specs.Layout.{entry_at, present, some_below}
use Rattle.layout.proofs.Layout.has_depending_on.Given as goal

abbrev pub invariant-loop-i : goal.invariant-loop-i
invariant-loop-i l = some_below (λ j. present (entry_at l.self.words.now j).depending) l.i ≡ false
