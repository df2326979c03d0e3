use Rattle.std.proofs.Common.{length}
use Rattle.hex_field.proofs.Pairing.{Pairing}
use Rattle.hex_field.proofs.write_bytes.Given as goal

abbrev pub invariant-loop-x : goal.invariant-loop-x
invariant-loop-x l = Pairing l.order l.text l.part (length l.fn.part) l.first l.j l.x-index
