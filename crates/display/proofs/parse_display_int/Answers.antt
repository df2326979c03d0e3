-- What is left of the text decides: nothing, digits behind a separate sign, or a number with one leading sign or none.
use Rattle.std.proofs.Common.{sym, ◌∙◌, map}
use borrow.Author.Tests.{eqb-true, eqb-false}
use Rattle.ebcdic.specs.Ebcdic.{from_page}
use Rattle.display.specs.Display.{sign_at}
use Rattle.display.proofs.Signs.{told-some, told-none, int-empty, int-taken, int-plain}
use Rattle.display.proofs.parse_display_int.Goals as goal

pub returns-then-is_empty : goal.returns-then-is_empty
returns-then-is_empty c =
    let a = c.args in
    let t = c.trim-t in
    let s = c.strip_separate_sign-minus in
    let u = c.trim-u in
    let n = eqb-true _ 0 (sym c.is_empty.ensures ∙ c.if-is_empty.true) in
    c.signed_size.ensures
    ∙ int-empty (from_page a.page) a.sign a.part.now t.result.now s.result.1.now t.ensures.result_value s.ensures.rest u.result.now u.ensures.result_value n

pub returns-in-Some : goal.returns-in-Some
returns-in-Some c =
    let a = c.args in
    let t = c.trim-t in
    let s = c.strip_separate_sign-minus in
    let u = c.trim-u in
    let n = eqb-false _ 0 (sym c.is_empty.ensures ∙ c.if-is_empty.false) in
    let m = told-some (sign_at a.sign (map (from_page a.page) t.result.now)) _ (sym c.in-Some.is ∙ s.ensures.minus) in
    c.digits_in.ensures
    ∙ rw m.1 (int-taken (from_page a.page) a.sign a.part.now t.result.now s.result.1.now t.ensures.result_value s.ensures.rest u.result.now u.ensures.result_value n m.0)

pub returns-in-None : goal.returns-in-None
returns-in-None c =
    let a = c.args in
    let t = c.trim-t in
    let s = c.strip_separate_sign-minus in
    let u = c.trim-u in
    let n = eqb-false _ 0 (sym c.is_empty.ensures ∙ c.if-is_empty.false) in
    let m = told-none (sign_at a.sign (map (from_page a.page) t.result.now)) (sym c.in-None.is ∙ s.ensures.minus) in
    c.whole_of.ensures
    ∙ int-plain (from_page a.page) a.sign a.part.now t.result.now s.result.1.now t.ensures.result_value s.ensures.rest u.result.now u.ensures.result_value n m
