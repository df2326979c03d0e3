-- The walk as its loops go is the walk that decides (Joined).
use Rattle.std.proofs.Common.{sym, ◌∙◌, length, arith}
use Rattle.fitting.proofs.Joined.{no-list, no-fit, all_fit}
use Rattle.fitting.proofs.is_fitting.Goals as goal

pub returns-then-is_err-clause-value : goal.returns-then-is_err-clause-value
returns-then-is_err-clause-value c =
    let a = c.args in
    no-list a.layout.now.words.now a.layout.now.masks.now a.list.now.items.now a.list.now.text.now (length a.counts.now)
    (omega (arith, c.if-counts-entry_count.false, c.entry_count.ensures, c.fill.ensures.len)) _ c.check.ensures (sym c.is_err.ensures.value ∙ c.if-is_err.true)

pub returns-in-Some-clause-value : goal.returns-in-Some-clause-value
returns-in-Some-clause-value c =
    let a = c.args in
    all_fit a.layout.now.words.now a.layout.now.masks.now a.list.now.items.now a.list.now.text.now (length a.counts.now)
    (omega (arith, c.if-counts-entry_count.false, c.entry_count.ensures, c.fill.ensures.len)) _ c.check.ensures (sym c.is_err.ensures.value ∙ c.if-is_err.false)
    _ (c.fill.ensures.after (λ y e. e)) _ _ c.entry_count-2.ensures c.item_count.ensures _ _ c.in-Some.ensures

pub returns-in-None-clause-value : goal.returns-in-None-clause-value
returns-in-None-clause-value c =
    let a = c.args in
    no-fit a.layout.now.words.now a.layout.now.masks.now a.list.now.items.now a.list.now.text.now (length a.counts.now)
    (omega (arith, c.if-counts-entry_count.false, c.entry_count.ensures, c.fill.ensures.len)) _ c.check.ensures (sym c.is_err.ensures.value ∙ c.if-is_err.false)
    _ (c.fill.ensures.after (λ y e. e)) _ _ c.entry_count-2.ensures c.item_count.ensures c.in-None.ensures
