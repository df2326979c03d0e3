-- The first i cells hold what they should.
use Rattle.std.proofs.Common.{◌≡◌, map, true}
use Rattle.testing.specs.Holds.{holds_below}
use Rattle.testing.proofs.holds.Given as goal

abbrev pub invariant-loop-i : goal.invariant-loop-i
invariant-loop-i g l = holds_below (map g.T.Cell.number l.buffer) (map g.V.Cell.number l.values) l.i ≡ true
