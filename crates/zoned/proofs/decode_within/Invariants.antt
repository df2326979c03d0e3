-- The digits read are lawful, and the size is what they spell, up to the bound.
use Rattle.std.proofs.Common.{map}
use Rattle.ebcdic.specs.Ebcdic.{from_page}
use Rattle.value.proofs.Field.{Read}
use Rattle.zoned.specs.Zoned.{zone}
use Rattle.zoned.proofs.decode_within.Given as goal

abbrev pub invariant-loop-b : goal.invariant-loop-b
invariant-loop-b l = Read l.bound zone (map (from_page l.page) l.part) l.b-index l.size
