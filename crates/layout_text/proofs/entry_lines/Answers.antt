-- Each line that is read leaves the lines behind it to ask (`Eleven`); one that is refused, by 17, ends the entry.
use Rattle.std.proofs.lemmas.Result.{err_from_is_err_and}
use Rattle.lines.specs.Lines.{name_ok}
use Rattle.layout_text.specs.Form.{is_number, optional, mask_for, name_word, offset_word, width_word, kind_word, occurs_word, depending_word, span_word, p_word, q_word, r_word, mask_word}
use Rattle.layout_text.specs.Walk.{number_in, option_in}
use Rattle.layout_text.proofs.Step.{line_17, number_17}
use Rattle.layout_text.proofs.Eleven.{stop0, stop1, stop2, stop3, stop4, stop5, stop6, stop7, stop8, stop9, stop10, told}
use Rattle.layout_text.proofs.entry_lines.Goals as goal

pub returns-in_err-name : goal.returns-in_err-name
returns-in_err-name c =
    let a = c.args in
    let t = a.text.now in
    let p = err_from_is_err_and c.from_residual.result c.from_residual.ensures.1 in
    rw (p.1, p.2) (
      line_17 name_ok name_word t a.at _ c.in_err-name.ensures,
      λ k h. stop0 t a.at k h _ c.in_err-name.ensures,
    )

pub returns-in_err-offset : goal.returns-in_err-offset
returns-in_err-offset c =
    let a = c.args in
    let t = a.text.now in
    let p = err_from_is_err_and c.from_residual-in_err-offset.result c.from_residual-in_err-offset.ensures.1 in
    rw (p.1, p.2) (
      number_17 (number_in t) is_number offset_word t c.in_ok-name.name.next _ c.in_err-offset.ensures,
      λ k h. stop1 t a.at k h c.in_ok-name.name c.in_ok-name.ensures _ c.in_err-offset.ensures,
    )

pub returns-in_err-width : goal.returns-in_err-width
returns-in_err-width c =
    let a = c.args in
    let t = a.text.now in
    let p = err_from_is_err_and c.from_residual-in_err-width.result c.from_residual-in_err-width.ensures.1 in
    rw (p.1, p.2) (
      number_17 (number_in t) is_number width_word t c.in_ok-offset.offset.next _ c.in_err-width.ensures,
      λ k h. stop2 t a.at k h c.in_ok-name.name c.in_ok-name.ensures c.in_ok-offset.offset c.in_ok-offset.ensures _ c.in_err-width.ensures,
    )

pub returns-in_err-kind : goal.returns-in_err-kind
returns-in_err-kind c =
    let a = c.args in
    let t = a.text.now in
    let p = err_from_is_err_and c.from_residual-in_err-kind.result c.from_residual-in_err-kind.ensures.1 in
    rw (p.1, p.2) (
      number_17 (number_in t) is_number kind_word t c.in_ok-width.width.next _ c.in_err-kind.ensures,
      λ k h. stop3 t a.at k h c.in_ok-name.name c.in_ok-name.ensures c.in_ok-offset.offset c.in_ok-offset.ensures c.in_ok-width.width c.in_ok-width.ensures _ c.in_err-kind.ensures,
    )

pub returns-in_err-occurs : goal.returns-in_err-occurs
returns-in_err-occurs c =
    let a = c.args in
    let t = a.text.now in
    let p = err_from_is_err_and c.from_residual-in_err-occurs.result c.from_residual-in_err-occurs.ensures.1 in
    rw (p.1, p.2) (
      number_17 (option_in t) (optional is_number) occurs_word t c.in_ok-kind.kind.next _ c.in_err-occurs.ensures,
      λ k h. stop4 t a.at k h c.in_ok-name.name c.in_ok-name.ensures c.in_ok-offset.offset c.in_ok-offset.ensures c.in_ok-width.width c.in_ok-width.ensures c.in_ok-kind.kind c.in_ok-kind.ensures _ c.in_err-occurs.ensures,
    )

pub returns-in_err-depending : goal.returns-in_err-depending
returns-in_err-depending c =
    let a = c.args in
    let t = a.text.now in
    let p = err_from_is_err_and c.from_residual-in_err-depending.result c.from_residual-in_err-depending.ensures.1 in
    rw (p.1, p.2) (
      line_17 (optional name_ok) depending_word t c.in_ok-occurs.occurs.next _ c.in_err-depending.ensures,
      λ k h. stop5 t a.at k h c.in_ok-name.name c.in_ok-name.ensures c.in_ok-offset.offset c.in_ok-offset.ensures c.in_ok-width.width c.in_ok-width.ensures c.in_ok-kind.kind c.in_ok-kind.ensures c.in_ok-occurs.occurs c.in_ok-occurs.ensures _ c.in_err-depending.ensures,
    )

pub returns-in_err-span : goal.returns-in_err-span
returns-in_err-span c =
    let a = c.args in
    let t = a.text.now in
    let p = err_from_is_err_and c.from_residual-in_err-span.result c.from_residual-in_err-span.ensures.1 in
    rw (p.1, p.2) (
      number_17 (number_in t) is_number span_word t c.in_ok-depending.depending.next _ c.in_err-span.ensures,
      λ k h. stop6 t a.at k h c.in_ok-name.name c.in_ok-name.ensures c.in_ok-offset.offset c.in_ok-offset.ensures c.in_ok-width.width c.in_ok-width.ensures c.in_ok-kind.kind c.in_ok-kind.ensures c.in_ok-occurs.occurs c.in_ok-occurs.ensures c.in_ok-depending.depending c.in_ok-depending.ensures _ c.in_err-span.ensures,
    )

pub returns-in_err-p : goal.returns-in_err-p
returns-in_err-p c =
    let a = c.args in
    let t = a.text.now in
    let p = err_from_is_err_and c.from_residual-in_err-p.result c.from_residual-in_err-p.ensures.1 in
    rw (p.1, p.2) (
      number_17 (number_in t) is_number p_word t c.in_ok-span.span.next _ c.in_err-p.ensures,
      λ k h. stop7 t a.at k h c.in_ok-name.name c.in_ok-name.ensures c.in_ok-offset.offset c.in_ok-offset.ensures c.in_ok-width.width c.in_ok-width.ensures c.in_ok-kind.kind c.in_ok-kind.ensures c.in_ok-occurs.occurs c.in_ok-occurs.ensures c.in_ok-depending.depending c.in_ok-depending.ensures c.in_ok-span.span c.in_ok-span.ensures _ c.in_err-p.ensures,
    )

pub returns-in_err-q : goal.returns-in_err-q
returns-in_err-q c =
    let a = c.args in
    let t = a.text.now in
    let p = err_from_is_err_and c.from_residual-in_err-q.result c.from_residual-in_err-q.ensures.1 in
    rw (p.1, p.2) (
      number_17 (number_in t) is_number q_word t c.in_ok-p.p.next _ c.in_err-q.ensures,
      λ k h. stop8 t a.at k h c.in_ok-name.name c.in_ok-name.ensures c.in_ok-offset.offset c.in_ok-offset.ensures c.in_ok-width.width c.in_ok-width.ensures c.in_ok-kind.kind c.in_ok-kind.ensures c.in_ok-occurs.occurs c.in_ok-occurs.ensures c.in_ok-depending.depending c.in_ok-depending.ensures c.in_ok-span.span c.in_ok-span.ensures c.in_ok-p.p c.in_ok-p.ensures _ c.in_err-q.ensures,
    )

pub returns-in_err-r : goal.returns-in_err-r
returns-in_err-r c =
    let a = c.args in
    let t = a.text.now in
    let p = err_from_is_err_and c.from_residual-in_err-r.result c.from_residual-in_err-r.ensures.1 in
    rw (p.1, p.2) (
      number_17 (number_in t) is_number r_word t c.in_ok-q.q.next _ c.in_err-r.ensures,
      λ k h. stop9 t a.at k h c.in_ok-name.name c.in_ok-name.ensures c.in_ok-offset.offset c.in_ok-offset.ensures c.in_ok-width.width c.in_ok-width.ensures c.in_ok-kind.kind c.in_ok-kind.ensures c.in_ok-occurs.occurs c.in_ok-occurs.ensures c.in_ok-depending.depending c.in_ok-depending.ensures c.in_ok-span.span c.in_ok-span.ensures c.in_ok-p.p c.in_ok-p.ensures c.in_ok-q.q c.in_ok-q.ensures _ c.in_err-r.ensures,
    )

pub returns-in_err-mask : goal.returns-in_err-mask
returns-in_err-mask c =
    let a = c.args in
    let t = a.text.now in
    let p = err_from_is_err_and c.from_residual-in_err-mask.result c.from_residual-in_err-mask.ensures.1 in
    rw (p.1, p.2) (
      line_17 (mask_for c.in_ok-kind.kind.value) mask_word t c.in_ok-r.r.next _ c.in_err-mask.ensures.value,
      λ k h. stop10 t a.at k h c.in_ok-name.name c.in_ok-name.ensures c.in_ok-offset.offset c.in_ok-offset.ensures c.in_ok-width.width c.in_ok-width.ensures c.in_ok-kind.kind c.in_ok-kind.ensures c.in_ok-occurs.occurs c.in_ok-occurs.ensures c.in_ok-depending.depending c.in_ok-depending.ensures c.in_ok-span.span c.in_ok-span.ensures c.in_ok-p.p c.in_ok-p.ensures c.in_ok-q.q c.in_ok-q.ensures c.in_ok-r.r c.in_ok-r.ensures _ c.in_err-mask.ensures.value,
    )

pub returns : goal.returns
returns c = λ k h. rw c.start_of.ensures (told c.args.text.now c.args.at k h c.in_ok-name.name c.in_ok-name.ensures c.in_ok-offset.offset c.in_ok-offset.ensures c.in_ok-width.width c.in_ok-width.ensures c.in_ok-kind.kind c.in_ok-kind.ensures c.in_ok-occurs.occurs c.in_ok-occurs.ensures c.in_ok-depending.depending c.in_ok-depending.ensures c.in_ok-span.span c.in_ok-span.ensures c.in_ok-p.p c.in_ok-p.ensures c.in_ok-q.q c.in_ok-q.ensures c.in_ok-r.r c.in_ok-r.ensures c.in_ok-mask.mask c.in_ok-mask.ensures.value)
