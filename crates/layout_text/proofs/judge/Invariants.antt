-- What is known before an entry (`Going`); each entry takes bytes.
use Rattle.std.proofs.Common.{◌-◌, length}
use Rattle.layout_text.proofs.Judging.{Going}
use Rattle.layout_text.proofs.judge.Given as goal

abbrev pub invariant-loop-at : goal.invariant-loop-at
invariant-loop-at l = Going l.text l.at l.count l.fine l.masks l.spans l.groups

abbrev pub decreases-loop-at : goal.decreases-loop-at
decreases-loop-at l = length l.text - l.at
