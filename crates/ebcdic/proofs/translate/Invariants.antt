-- The first i bytes of the buffer are the table's for those of the source, and the rest is as it was.
use Rattle.std.proofs.Common.{◌≡◌, get_or, ◌++◌, map, take, drop}
use Rattle.ebcdic.proofs.translate.Given as goal

abbrev pub invariant-loop-i : goal.invariant-loop-i
invariant-loop-i l = l.out ≡ take l.i (map (λ b. get_or l.table b 0) l.src) ++ drop l.i l.initial.out
