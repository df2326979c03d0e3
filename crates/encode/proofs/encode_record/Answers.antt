-- Each way out by the law of Public of that name; the work space is left as zeros.
use Rattle.std.proofs.Common.{refl, sym, ap, ◌∙◌, length, replicate}
use Rattle.codes.proofs.Refusals.{some_number}
use Rattle.encode.proofs.Public.{E, with-counts, passed-on, not-asked, not-walked, all-walked}
use Rattle.encode.proofs.encode_record.Goals as goal

pub returns-in_err-questions : goal.returns-in_err-questions
returns-in_err-questions c =
    let a = c.args in
    let l = a.layout.now in
    let v = a.list.now in
    let q = c.in_err-questions in
    with-counts (passed-on (E l.words.now l.masks.now l.page v.items.now v.text.now (length a.record.now) (length a.counts.now) _ q.ensures) (length a.record.now) _ _ _
    c.from_residual.ensures.1
    (not-asked l.words.now l.masks.now l.page v.items.now v.text.now (length a.record.now) (length a.counts.now) _ q.ensures (some_number q.field-0.0) _ (c.fill.ensures.after (λ y e. e))))
    (c.fill-2.ensures.after (λ y e. e))

pub returns-in-Ok : goal.returns-in-Ok
returns-in-Ok c =
    let a = c.args in
    let l = a.layout.now in
    let v = a.list.now in
    with-counts (all-walked l.words.now l.masks.now l.page v.items.now v.text.now (length a.record.now) (length a.counts.now) 0 c.in_ok-questions.ensures refl _ (c.fill.ensures.after (λ y e. e))
    _ _ c.entry_count.ensures c.item_count.ensures _ _ _ _ _ _ (sym c.in-Ok.ensures) c.record_length-least.ensures c.saturating_sub.ensures c.max.ensures) (c.fill-2.ensures.after (λ y e. e))

pub returns-in-Err : goal.returns-in-Err
returns-in-Err c =
    let a = c.args in
    let l = a.layout.now in
    let v = a.list.now in
    with-counts (not-walked l.words.now l.masks.now l.page v.items.now v.text.now (length a.record.now) (length a.counts.now) 0 c.in_ok-questions.ensures refl _ (c.fill.ensures.after (λ y e. e))
    _ _ c.entry_count.ensures c.item_count.ensures _ (sym c.in-Err.ensures) _ (c.fill-in-Err.ensures.after (λ y e. e) ∙ ap (λ n. replicate n 0) (c.encode_seq.auto.rec ∙ c.fill.ensures.len)))
    (c.fill-2.ensures.after (λ y e. e))
