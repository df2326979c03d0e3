use Rattle.text.proofs.Count.{Over}
use Rattle.text.proofs.digit_count.Given as goal

abbrev pub invariant-loop-n : goal.invariant-loop-n
invariant-loop-n l = Over l.n l.v
