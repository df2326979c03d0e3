-- `next` meets its contract: nothing is left at the end, and else the entry and what stands behind it.
use Rattle.std.proofs.Common.{ap, length, arith, rules}
use Rattle.spans.proofs.Tree.{level-none, level-at}
use Rattle.layout.specs.Layout.{entry_at, span_of}
use Rattle.layout.specs.Level.{entries_left}
use Rattle.layout.proofs.LevelIterator.next.Goals as goal

pub returns-then-i-self-clause-steps : goal.returns-then-i-self-clause-steps
unfolding entries_left
returns-then-i-self-clause-steps c =
    let s = c.args.self.now in
    let ends = level-none (entry_at s.layout.words.now) span_of s.at s.to c.if-i-self.true in
    (ends, ends)

pub returns-clause-steps : goal.returns-clause-steps
unfolding entries_left
returns-clause-steps c =
    let s = c.args.self.now in
    level-at (entry_at s.layout.words.now) span_of s.at s.to _ _ (omega (arith, c.if-i-self.false)) c.load-e.ensures c.end_of-self.ensures

pub returns-clause-goes : goal.returns-clause-goes
unfolding entries_left
returns-clause-goes c =
    let s = c.args.self.now in
    let shorter = ap length (level-at (entry_at s.layout.words.now) span_of s.at s.to _ _ (omega (arith, c.if-i-self.false)) c.load-e.ensures c.end_of-self.ensures) in
    search rules
