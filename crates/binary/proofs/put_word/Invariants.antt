use Rattle.std.proofs.Common.{length}
use Rattle.binary.proofs.Words.{Turn}
use Rattle.binary.proofs.put_word.Given as goal

abbrev pub invariant-loop-k : goal.invariant-loop-k
invariant-loop-k l = Turn l.part (length l.initial.part) l.order l.w l.k l.rest
