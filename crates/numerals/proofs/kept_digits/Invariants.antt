-- The whole text answers what its rest answers behind the size read so far.
use Rattle.std.proofs.Common.{◌≡◌, false, map, drop}
use Rattle.value.specs.Digits.{limit}
use Rattle.value.specs.Number.{read_in, unlawful}
use Rattle.ebcdic.specs.Ebcdic.{from_page}
use Rattle.numerals.specs.Numerals.{kept_by}
use Rattle.numerals.proofs.Reading.{kept_from}
use Rattle.numerals.proofs.kept_digits.Given as goal

abbrev pub invariant-loop-b : goal.invariant-loop-b
invariant-loop-b l =
    kept_by (read_in limit false) unlawful (map (from_page l.page) l.part) ≡ kept_from (read_in limit false) unlawful l.size (map (from_page l.page) (drop l.b-index l.part))
