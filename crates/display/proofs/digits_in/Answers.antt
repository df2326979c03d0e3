-- A digit goes into the size (`whole-go`), any other byte refuses the text (`whole-bad`).
use Rattle.std.proofs.Common.{length, sym, ap, ◌∙◌, arith}
use borrow.Author.Tests.{eqb-true, eqb-false}
use Rattle.ebcdic.specs.Ebcdic.{from_page}
use Rattle.display.proofs.Reading.{digits-none, digits-some, whole-bad, whole-go, whole-end}
use Rattle.value.specs.Digits.{is_digit}
use Rattle.display.proofs.digits_in.Goals as goal

pub returns-then-is_empty : goal.returns-then-is_empty
returns-then-is_empty c = let a = c.args in sym (digits-none (from_page a.page) a.part.now a.bound a.negative (eqb-true (length a.part.now) 0 (sym c.is_empty.ensures ∙ c.if-is_empty.true)))

pub loop-b-init : goal.loop-b-init
loop-b-init c =
    let a = c.args in
    let n = eqb-false (length a.part.now) 0 (sym c.is_empty.ensures ∙ c.if-is_empty.false) in
    digits-some (from_page a.page) a.part.now a.bound a.negative (omega (arith, n))

pub returns-then-not-is_digit : goal.returns-then-not-is_digit
returns-then-not-is_digit c =
    let a = c.args in
    let l = c.loop-b in
    sym (l.invariant ∙ whole-bad (from_page a.page) a.part.now a.bound a.negative l.b-index l.size c.loop-b-test.true (ap is_digit (sym c.from_page-x.ensures) ∙ sym c.is_digit.ensures ∙ c.if-not-is_digit.true))

pub loop-b-preserved : goal.loop-b-preserved
loop-b-preserved c =
    let a = c.args in
    let l = c.loop-b in
    let x = c.from_page-x.ensures in
    l.invariant ∙ whole-go (from_page a.page) a.part.now a.bound a.negative l.b-index l.size c.push_digit-size.result c.loop-b-test.true
    (ap is_digit (sym x) ∙ sym c.is_digit.ensures ∙ c.if-not-is_digit.false) (rw (c.digit_in.ensures, x) at c.push_digit-size.ensures)

pub returns : goal.returns
returns c =
    let a = c.args in
    let l = c.loop-b in
    c.number_in.ensures ∙ sym (l.invariant ∙ whole-end (from_page a.page) a.part.now a.bound a.negative l.b-index l.size c.loop-b-test.false)
