-- The loop steps over so many items of the top level; what is left to step over is kept equal.
use Rattle.std.proofs.Common.{sym, ap, ◌∙◌}
use Rattle.items.specs.Items.{values, head_of}
use Rattle.window.specs.Pair.{values_from, word_at}
use Rattle.window.proofs.Places.{from_more, from-ends}
use Rattle.window.proofs.word_at.Goals as goal

pub loop-preserved : goal.loop-preserved
loop-preserved c = from_more _ _ _ _ _ _ c.loop-test.true c.item_end-i.ensures c.loop.invariant

pub returns : goal.returns
unfolding word_at
returns c =
    let l = c.args.list.now.items.now in
    ap (λ it. it.a) c.fetch.ensures ∙ sym (ap (λ vs. (head_of vs).a) (from-ends _ _ _ _ _ c.loop-test.false c.loop.invariant))
    ∙ ap (λ m. (head_of (values_from c.args.k (values l 0 m))).a) c.item_count-to.ensures
