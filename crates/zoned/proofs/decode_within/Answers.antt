-- The bytes are those in front and the last one; the laws of one turn and of the end are in Reading.
use Rattle.std.proofs.Common.{◌≡◌, ◌-◌, refl, sym, ap, ◌∙◌, length, arith}
use Rattle.codes.proofs.Refusals.{passed-on}
use Rattle.ebcdic.specs.Ebcdic.{from_page}
use Rattle.value.specs.Number.{read_in, unlawful}
use Rattle.value.proofs.Answers.{read-capped}
use Rattle.value.proofs.Field.{split-front, split-last}
use Rattle.zoned.proofs.Reading as Reading
use Rattle.zoned.proofs.Reading.{told-digit, told-none}
use Rattle.zoned.proofs.decode_within.Goals as goal

pub returns-in_default : goal.returns-in_default
returns-in_default c = let a = c.args in Reading.bad-empty a.page a.part.now (read_in a.bound) unlawful c.in_default.ensures.cases

pub returns-in_err-d : goal.returns-in_err-d
returns-in_err-d c =
    let a = c.args in
    let s = c.in-Some in
    let i = c.loop-b.b-index in
    let e = split-front a.part.now s.front.now s.last.now i s.ensures.cases.0 c.loop-b-test.true in
    let no = told-none _ _ c.in_err-d.ensures in
    rw (passed-on c.from_residual.result c.in_err-d.field-0.0 c.from_residual.ensures.1, no.0)
    (Reading.bad-body a.page a.part.now (read_in a.bound) unlawful i c.from_page.result _
    (omega (arith, s.ensures.cases.1)) (c.from_page.ensures ∙ ap (from_page a.page) (sym e)) refl no.1)

pub loop-b-preserved : goal.loop-b-preserved
loop-b-preserved c =
    let a = c.args in
    let s = c.in-Some in
    let l = c.loop-b in
    let e = split-front a.part.now s.front.now s.last.now l.b-index s.ensures.cases.0 c.loop-b-test.true in
    let d = told-digit _ _ c.in_ok-d.ensures in
    Reading.more a.page a.part.now a.bound l.b-index l.size c.from_page.result c.in_ok-d.d c.push_digit-size.result
    (omega (arith, s.ensures.cases.1)) l.invariant (c.from_page.ensures ∙ ap (from_page a.page) (sym e)) d.0 d.1 c.push_digit-size.ensures

pub returns-in_err-units : goal.returns-in_err-units
returns-in_err-units c =
    let a = c.args in
    let s = c.in-Some in
    let e = split-last a.part.now s.front.now s.last.now s.ensures.cases.0 in
    let no = told-none _ _ c.in_err-units.ensures in
    rw (passed-on c.from_residual-in_err-units.result c.in_err-units.field-0.0 c.from_residual-in_err-units.ensures.1, no.0)
    (Reading.bad_last a.page a.part.now (read_in a.bound) unlawful c.from_page-z.result _
    (omega (arith, s.ensures.cases.1)) (c.from_page-z.ensures ∙ ap (from_page a.page) (sym e)) refl no.1)

pub returns : goal.returns
returns c =
    let a = c.args in
    let s = c.in-Some in
    let l = c.loop-b in
    let e = split-last a.part.now s.front.now s.last.now s.ensures.cases.0 in
    let i : l.b-index ≡ length a.part.now - 1 = omega (arith, s.ensures.cases.1) in
    let u = told-digit _ _ c.in_ok-units.ensures in
    c.number_in.ensures
    ∙ Reading.read_all a.page a.part.now (read_in a.bound) unlawful a.bound (read-capped a.bound) l.b-index l.size c.from_page-z.result c.in_ok-units.units
    c.push_digit-total.result c.is_minus.result (omega (arith, s.ensures.cases.1)) i l.invariant (c.from_page-z.ensures ∙ ap (from_page a.page) (sym e))
    u.0 u.1 c.push_digit-total.ensures c.is_minus.ensures
