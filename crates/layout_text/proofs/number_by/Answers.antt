-- What is read of the value is the answer (`read_found`, `read_failed`).
use Rattle.std.proofs.Common.{refl}
use Rattle.std.proofs.lemmas.Fn.{says_at}
use Rattle.std.proofs.lemmas.Result.{err_from_is_err_and}
use Rattle.layout_text.specs.Walk.{bytes_of}
use Rattle.layout_text.proofs.Answering.{read_found, read_failed}
use Rattle.layout_text.proofs.number_by.Goals as goal

pub returns-in_err-value : goal.returns-in_err-value
returns-in_err-value g c =
    let a = c.args in
    let f = c.in_ok-found in
    let p = err_from_is_err_and c.from_residual-in_err-value.result c.from_residual-in_err-value.ensures.1 in
    λ reads h. rw (p.1, p.2) (read_failed a.word.now a.text.now a.at f.found f.ensures.value reads _ (h (bytes_of a.text.now f.found) _ (says_at g.F.Fn c.in_err-value.ensures refl)))

pub returns : goal.returns
returns g c =
    let a = c.args in
    let f = c.in_ok-found in
    λ reads h. read_found a.word.now a.text.now a.at f.found f.ensures.value reads _ (h (bytes_of a.text.now f.found) _ (says_at g.F.Fn c.in_ok-value.ensures refl))
