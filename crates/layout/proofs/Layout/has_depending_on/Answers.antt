-- `has_depending_on` meets its contract: a law of Laws for each way through the loop.
use Rattle.std.proofs.Common.{refl, arith}
use Rattle.layout.specs.Layout.{some_below}
use Rattle.layout.proofs.Laws.{depends-none, depends-here, depends-next}
use Rattle.layout.proofs.Layout.has_depending_on.Goals as goal

pub loop-i-init : goal.loop-i-init
unfolding some_below
loop-i-init c = refl

pub returns-then-load_inside : goal.returns-then-load_inside
returns-then-load_inside c = depends-here _ _ _ c.load_inside.ensures (omega arith) c.if-load_inside.true

pub loop-i-preserved : goal.loop-i-preserved
loop-i-preserved c = depends-next _ _ _ c.load_inside.ensures c.loop-i.invariant c.if-load_inside.false

pub returns : goal.returns
returns c = depends-none _ c.loop-i.i (omega arith) (omega arith) c.loop-i.invariant
