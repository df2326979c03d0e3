-- `named_from` meets its contract: a law of Names for each way through the loop.
use Rattle.std.proofs.Common.{sym, ◌∙◌, arith}
use Rattle.plain.proofs.Names.{named_end, named_here, named-next}
use Rattle.plain.proofs.named_from.Goals as goal

pub returns-then-name-load : goal.returns-then-name-load
returns-then-name-load c = sym (c.loop-j.invariant ∙ named_here _ _ _ _ _ (omega arith) c.load.ensures c.if-name-load.true)

pub loop-j-preserved : goal.loop-j-preserved
loop-j-preserved c = c.loop-j.invariant ∙ named-next _ _ _ _ _ (omega arith) c.load.ensures c.if-name-load.false

pub returns : goal.returns
returns c = sym (c.loop-j.invariant ∙ named_end c.args.layout.now.words.now c.args.name c.loop-j.j _ (omega arith))
