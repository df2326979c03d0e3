-- `distinct_names` meets its contract: a law of Names for each way through the loop.
use Rattle.std.proofs.Common.{sym, ap, ◌∙◌, arith}
use Rattle.walks.specs.Plain.{distinct}
use Rattle.plain.proofs.Names.{names-all, distinct-end, distinct-not, distinct-next}
use Rattle.plain.proofs.distinct_names.Goals as goal

pub loop-i-init : goal.loop-i-init
loop-i-init c = ap distinct (names-all c.args.layout.now.words.now)

pub returns-then-named_from : goal.returns-then-named_from
returns-then-named_from c = sym (c.loop-i.invariant ∙ distinct-not _ _ _ _ _ (omega arith) c.load.ensures c.named_from.ensures c.if-named_from.true)

pub loop-i-preserved : goal.loop-i-preserved
loop-i-preserved c = c.loop-i.invariant ∙ distinct-next _ _ _ _ _ (omega arith) c.load.ensures c.named_from.ensures c.if-named_from.false

pub returns : goal.returns
returns c = sym (c.loop-i.invariant ∙ distinct-end c.args.layout.now.words.now c.loop-i.i _ (omega arith))
