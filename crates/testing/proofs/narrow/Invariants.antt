-- The first i words of the layout are the low words, the rest is as it was.
use Rattle.std.proofs.Common.{◌≡◌, ◌++◌, map, take, drop}
use Rattle.testing.specs.Holds.{low_word}
use Rattle.testing.proofs.narrow.Given as goal

abbrev pub invariant-loop-i : goal.invariant-loop-i
invariant-loop-i l = l.layout ≡ take l.i (map low_word l.words) ++ drop l.i l.initial.layout
