-- The first entry of the name is the first of those that are left.
use Rattle.std.proofs.Common.{◌≡◌, ◌-◌}
use Rattle.decode_leaf.specs.Counts.{first, first_in}
use Rattle.decode_leaf.proofs.first_of.Given as goal

abbrev pub invariant-loop-i : goal.invariant-loop-i
invariant-loop-i l = first l.layout.words.now l.name ≡ first_in (l.n - l.i) l.layout.words.now l.name l.i
