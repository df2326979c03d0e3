use Rattle.hex_field.proofs.Laws.{Spelt}
use Rattle.hex_field.proofs.write_hex.Given as goal

abbrev pub invariant-loop-i : goal.invariant-loop-i
invariant-loop-i l = Spelt l.order l.part l.initial.out l.out l.i
