-- The first entry of the name is the first of those that are left: a law of Runs for each turn.
use Rattle.std.proofs.Common.{◌≡◌, ◌∙◌, sym, arith}
use Rattle.decode_leaf.proofs.Runs.{first-starts, first-hit, first_next, first-end}
use Rattle.decode_leaf.proofs.first_of.Goals as goal

pub loop-i-init : goal.loop-i-init
loop-i-init c = rw c.entry_count-n.ensures (first-starts _ _)

pub returns-then-layout-i : goal.returns-then-layout-i
returns-then-layout-i c = (sym (c.loop-i.invariant ∙ first-hit _ _ _ _ c.loop-i-test.true c.if-layout-i.true), omega (arith, c.loop-i-test.true, c.entry_count-n.ensures))

pub loop-i-preserved : goal.loop-i-preserved
loop-i-preserved c = c.loop-i.invariant ∙ first_next _ _ _ _ c.loop-i-test.true c.if-layout-i.false

pub returns : goal.returns
returns c =
    let e = c.entry_count-n.ensures in
    let end : c.loop-i.i ≡ c.entry_count-n.result = omega arith in
    (sym (c.loop-i.invariant ∙ first-end _ _ _ _ c.loop-i-test.false ∙ end), omega (arith, e))
