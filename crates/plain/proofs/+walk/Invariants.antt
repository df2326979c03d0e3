-- The invariant is `Inv` of Turns; a call gets the members of an entry, fewer than the entries of its own sequence.
use Rattle.std.proofs.Common.{◌-◌}
use Rattle.plain.proofs.Turns.{Inv}
use Rattle.plain.proofs.+walk.Given as goal

abbrev pub decreases-walk : goal.decreases-walk
decreases-walk l = l.hi - l.lo

abbrev pub invariant-loop-i : goal.invariant-loop-i
invariant-loop-i l = Inv l.layout.words.now l.lo l.hi l.top l.initial.known l.i l.from l.high l.known

abbrev pub decreases-loop-i : goal.decreases-loop-i
decreases-loop-i l = l.hi - l.i
