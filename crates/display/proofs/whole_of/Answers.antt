-- A sign in front decides the bound and the sign of what is behind it.
use Rattle.std.proofs.Common.{sym, ◌∙◌, arith}
use Rattle.ebcdic.specs.Ebcdic.{from_page}
use Rattle.display.proofs.Signs.{whole-none, whole-minus, whole-plus, whole_plain}
use Rattle.display.proofs.whole_of.Goals as goal

pub returns-in_default : goal.returns-in_default
returns-in_default c = let a = c.args in sym (whole-none (from_page a.page) a.part.now c.in_default.ensures.cases)

pub returns-in-45 : goal.returns-in-45
returns-in-45 c =
    let a = c.args in
    let s = c.in-Some in
    c.digits_in.ensures ∙ whole-minus (from_page a.page) a.part.now s.rest.now s.first.now s.ensures.cases.0 (sym c.from_page.ensures ∙ c.in-45.is)

pub returns-in-43 : goal.returns-in-43
returns-in-43 c =
    let a = c.args in
    let s = c.in-Some in
    c.digits_in-in-43.ensures ∙ whole-plus (from_page a.page) a.part.now s.rest.now s.first.now s.ensures.cases.0 (sym c.from_page.ensures ∙ c.in-43.is)

pub returns-in_default-from_page : goal.returns-in_default-from_page
returns-in_default-from_page c =
    let a = c.args in
    let s = c.in-Some in
    c.digits_in-in_default-from_page.ensures
    ∙ whole_plain (from_page a.page) a.part.now s.rest.now s.first.now s.ensures.cases.0
    (λ q. let p = c.from_page.ensures ∙ q in omega (arith, p)) (λ q. let p = c.from_page.ensures ∙ q in omega (arith, p))
