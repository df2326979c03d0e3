-- The digits read are lawful, and the size is what they spell, up to the limit.
use Rattle.value.specs.Digits.{limit}
use Rattle.value.proofs.Field.{Read}
use Rattle.packed.specs.Packed.{nibbles}
use Rattle.packed.proofs.decode.Given as goal

abbrev pub invariant-loop-b : goal.invariant-loop-b
invariant-loop-b l = Read limit nibbles l.part l.b-index l.size
