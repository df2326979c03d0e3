-- A byte from 0x80 on refuses the text (`kept_high`), a digit goes into the size (`kept-go`) and any other byte is skipped (`kept-skip`).
use Rattle.std.proofs.Common.{false, sym, ap, ◌∙◌, map}
use Rattle.value.specs.Digits.{is_digit, limit}
use Rattle.value.specs.Number.{read_in, unlawful}
use Rattle.value.proofs.Answers.{read-capped}
use Rattle.ebcdic.specs.Ebcdic.{from_page}
use Rattle.numerals.specs.Numerals.{is_ascii}
use Rattle.numerals.proofs.Reading.{kept-is, kept_high, kept-skip, kept-go, kept-end}
use Rattle.numerals.proofs.kept_digits.Goals as goal
use Rattle.numerals.proofs.kept_digits.Goals.{then-is_digit, else-is_digit}

pub loop-b-init : goal.loop-b-init
loop-b-init c = sym (kept-is (read_in limit false) unlawful (map (from_page c.args.page) c.args.part.now))

pub returns-then-not-is_ascii : goal.returns-then-not-is_ascii
returns-then-not-is_ascii c =
    let a = c.args in
    let l = c.loop-b in
    sym (l.invariant ∙ kept_high (read_in limit false) unlawful (from_page a.page) a.part.now l.b-index l.size c.loop-b-test.true (ap is_ascii (sym c.from_page-x.ensures) ∙ sym c.is_ascii.ensures ∙ c.if-not-is_ascii.true))

pub loop-b-preserved : goal.loop-b-preserved
loop-b-preserved c =
    let a = c.args in
    let l = c.loop-b in
    let x = c.from_page-x.ensures in
    let h = ap is_ascii (sym x) ∙ sym c.is_ascii.ensures ∙ c.if-not-is_ascii.false in
    l.invariant ∙
    elim c.if-is_digit.branch [
      | then-is_digit w ↦
          kept-go (read_in limit false) unlawful (from_page a.page) a.part.now l.b-index l.size c.loop-b-test.true limit (read-capped limit false) c.if-is_digit.size h
          (ap is_digit (sym x) ∙ sym c.is_digit.ensures ∙ w.if-is_digit.true) (w.size-is ∙ rw (w.digit_in.ensures, x) at w.push_digit-size.ensures)
      | else-is_digit w ↦
          rw w.size-is (kept-skip (read_in limit false) unlawful (from_page a.page) a.part.now l.b-index l.size c.loop-b-test.true h
          (ap is_digit (sym x) ∙ sym c.is_digit.ensures ∙ w.if-is_digit.false))
    ]

pub returns : goal.returns
returns c =
    let a = c.args in
    let l = c.loop-b in
    c.number_in.ensures
    ∙ sym (l.invariant ∙ kept-end (read_in limit false) unlawful (from_page a.page) a.part.now l.b-index l.size c.loop-b-test.false)
