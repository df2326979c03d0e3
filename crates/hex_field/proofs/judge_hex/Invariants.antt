use Rattle.hex_field.proofs.Laws.{Judged}
use Rattle.hex_field.proofs.judge_hex.Given as goal

abbrev pub invariant-loop-x : goal.invariant-loop-x
invariant-loop-x l = Judged l.text l.x-index l.n
