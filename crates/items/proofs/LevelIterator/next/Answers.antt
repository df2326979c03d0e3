-- `next` meets its contract: nothing is left at the end, and else the item and what stands behind it.
use Rattle.std.proofs.Common.{ap, length, ◌∙◌, arith, rules}
use Rattle.spans.proofs.Tree.{level-none, level-at}
use Rattle.spans.specs.Tree.{end_of}
use Rattle.items.specs.Items.{item_at, span_of, values}
use Rattle.items.specs.Level.{items_left}
use Rattle.items.proofs.LevelIterator.next.Goals as goal

pub returns-then-i-self-clause-steps : goal.returns-then-i-self-clause-steps
unfolding items_left values
returns-then-i-self-clause-steps c =
    let s = c.args.self.now in
    let ends = level-none (item_at s.list.items.now) span_of s.at s.to c.if-i-self.true in
    (ends, ends)

pub returns-clause-steps : goal.returns-clause-steps
unfolding items_left values
returns-clause-steps c =
    let s = c.args.self.now in
    let end = c.end_of-self.ensures ∙ ap (λ n. end_of n s.at s.to) c.span.ensures in
    level-at (item_at s.list.items.now) span_of s.at s.to _ _ (omega (arith, c.if-i-self.false)) c.item_at-it.ensures end

pub returns-clause-goes : goal.returns-clause-goes
unfolding items_left values
returns-clause-goes c =
    let s = c.args.self.now in
    let end = c.end_of-self.ensures ∙ ap (λ n. end_of n s.at s.to) c.span.ensures in
    let shorter = ap length (level-at (item_at s.list.items.now) span_of s.at s.to _ _ (omega (arith, c.if-i-self.false)) c.item_at-it.ensures end) in
    search rules
