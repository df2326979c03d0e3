-- From the right: the bytes from i on hold their digits by place, and rest is what is left of the size.
use Rattle.std.proofs.Common.{length}
use Rattle.packed.proofs.Writing.{Written}
use Rattle.packed.proofs.write.Given as goal

abbrev pub invariant-loop-i : goal.invariant-loop-i
invariant-loop-i l = Written l.part (length l.initial.part) l.size l.sign l.i l.rest
