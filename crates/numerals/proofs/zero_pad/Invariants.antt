-- From i on the digits of the size are written, and the rest is the size without them.
use Rattle.std.proofs.Common.{length}
use Rattle.ebcdic.specs.Ebcdic.{onto_page}
use Rattle.numerals.proofs.Writing.{Written}
use Rattle.numerals.proofs.zero_pad.Given as goal

abbrev pub invariant-loop-i : goal.invariant-loop-i
invariant-loop-i l = Written (onto_page l.page) l.part (length l.initial.part) l.size l.i l.rest
