-- What the test says of the value decides, as the definition says (`by_passed`, `by_failed`).
use Rattle.std.proofs.Common.{◌∙◌, sym, refl}
use Rattle.std.proofs.lemmas.Fn.{says_at}
use Rattle.layout_text.specs.Walk.{bytes_of}
use Rattle.layout_text.proofs.Answering.{by_passed, by_failed}
use Rattle.layout_text.proofs.line_by.Goals as goal

pub returns-then-test-clause-value : goal.returns-then-test-clause-value
returns-then-test-clause-value g c =
    let a = c.args in
    let f = c.in_ok-found in
    λ judge h. by_passed a.word.now a.text.now a.at f.found f.ensures.value judge (sym (h (bytes_of a.text.now f.found) _ (says_at g.F.Fn c.test.ensures refl)) ∙ c.if-test.true)

pub returns-clause-value : goal.returns-clause-value
returns-clause-value g c =
    let a = c.args in
    let f = c.in_ok-found in
    λ judge h. by_failed a.word.now a.text.now a.at f.found f.ensures.value judge (sym (h (bytes_of a.text.now f.found) _ (says_at g.F.Fn c.test.ensures refl)) ∙ c.if-test.false)
