-- The whole text answers what its rest answers behind the size read so far.
use Rattle.std.proofs.Common.{◌≡◌, map, drop}
use Rattle.ebcdic.specs.Ebcdic.{from_page}
use Rattle.display.specs.Display.{digits_in}
use Rattle.display.proofs.Reading.{whole_from}
use Rattle.display.proofs.digits_in.Given as goal

abbrev pub invariant-loop-b : goal.invariant-loop-b
invariant-loop-b l = digits_in l.bound l.negative (map (from_page l.page) l.part) ≡ whole_from l.bound l.negative l.size (map (from_page l.page) (drop l.b-index l.part))
