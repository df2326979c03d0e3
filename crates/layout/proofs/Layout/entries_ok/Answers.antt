-- `entries_ok` meets its contract: a law of Laws for each way through the loop.
use Rattle.std.proofs.Common.{refl, arith}
use Rattle.layout.specs.Layout.{all_below}
use Rattle.layout.proofs.Laws.{entries-all, entries-not, entries_next}
use Rattle.layout.proofs.Layout.entries_ok.Goals as goal

pub loop-i-init : goal.loop-i-init
unfolding all_below
loop-i-init c = refl

pub returns-then-not-is_lawful : goal.returns-then-not-is_lawful
returns-then-not-is_lawful c = entries-not _ _ _ _ _ c.load_inside.ensures c.is_lawful.ensures (omega arith) c.if-not-is_lawful.true

pub loop-i-preserved : goal.loop-i-preserved
loop-i-preserved c = entries_next _ _ _ _ _ c.load_inside.ensures c.is_lawful.ensures c.loop-i.invariant c.if-not-is_lawful.false

pub returns : goal.returns
returns c = entries-all _ _ c.loop-i.i (omega arith) (omega arith) c.loop-i.invariant
