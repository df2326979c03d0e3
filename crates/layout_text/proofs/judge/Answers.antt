-- A line that is refused makes the text unlawful (`going-stop`); one entry more is `going_next`, and at the end the text is lawful (`going_end`).
use Rattle.std.proofs.Common.{◌≡◌, ◌&&◌, ◌∙◌, arith}
use Rattle.std.proofs.lemmas.Result.{err_from_is_err_and}
use borrow.Author.Rules.{rules}
use Rattle.layout_text.proofs.Judging.{going_start, going-room, going-inside, going_on, going_next, going-stop, going_end}
use Rattle.layout_text.proofs.judge.Goals as goal
use Rattle.layout_text.proofs.judge.Goals.{then-entry_fine, else-entry_fine}

pub returns-in_err-page : goal.returns-in_err-page
returns-in_err-page c = let p = err_from_is_err_and c.from_residual.result c.from_residual.ensures.1 in rw (p.1, p.2) c.in_err-page.ensures

pub loop-at-init : goal.loop-at-init
loop-at-init c = going_start c.args.text.now c.in_ok-page.page c.args.spans.now c.args.groups.now c.in_ok-page.ensures (omega arith) (omega arith)

pub returns-in_err-said : goal.returns-in_err-said
returns-in_err-said c =
    let l = c.loop-at in
    let p = err_from_is_err_and c.from_residual-in_err-said.result c.from_residual-in_err-said.ensures.1 in
    let e = c.in_err-said.ensures in
    rw (p.1, p.2) (e.0, going-stop c.args.text.now l.at l.count l.fine l.masks l.spans l.groups l.invariant c.loop-at-test.true e.1)

pub overflow_add-masks : goal.overflow_add-masks
overflow_add-masks c =
    let l = c.loop-at in
    let r = going-room c.args.text.now l.at l.count l.fine l.masks l.spans l.groups l.invariant c.in_ok-said.said c.in_ok-said.ensures in
    let i = going-inside c.args.text.now l.at l.count l.fine l.masks l.spans l.groups l.invariant c.in_ok-said.said c.in_ok-said.ensures in
    search rules

pub overflow_add-count : goal.overflow_add-count
overflow_add-count c =
    let l = c.loop-at in
    let i = l.invariant.here.ahead in
    let r = going_on c.args.text.now l.at l.count l.fine l.masks l.spans l.groups l.invariant c.in_ok-said.said c.in_ok-said.ensures in
    search rules

pub loop-at-smaller : goal.loop-at-smaller
loop-at-smaller c =
    let l = c.loop-at in
    let r = going_on c.args.text.now l.at l.count l.fine l.masks l.spans l.groups l.invariant c.in_ok-said.said c.in_ok-said.ensures in
    let i = c.loop-at-test.true in
    search rules

pub loop-at-preserved : goal.loop-at-preserved
loop-at-preserved c =
    let l = c.loop-at in
    let fine : c.if-entry_fine.fine ≡ (c.entry_fine.result && l.fine) = elim c.if-entry_fine.branch [
      | then-entry_fine w ↦ rw w.if-entry_fine.true w.fine-is
      | else-entry_fine w ↦ rw w.if-entry_fine.false (w.fine-is ∙ w.if-entry_fine.false)
    ] in
    going_next c.args.text.now l.at l.count l.fine l.masks l.spans l.groups l.invariant c.in_ok-said.said c.in_ok-said.ensures c.entry_fine.result c.if-entry_fine.fine _ _ c.is.result c.entry_fine.ensures fine c.put.ensures c.put-in-loop-at.ensures c.is.ensures

pub returns : goal.returns
returns c =
    let l = c.loop-at in
    going_end c.args.text.now l.at l.count l.fine l.masks l.spans l.groups l.invariant c.loop-at-test.false c.in_ok-page.page c.in_ok-page.ensures
