-- A refusal leaves the zeros that `fill` put, and else the translated field is copied over their front.
use Rattle.std.proofs.Common.{◌≡◌, refl, length, replicate, arith}
use Rattle.std.proofs.lemmas.Grind.{common_steps}
use Rattle.codes.proofs.Refusals.{some_number}
use Rattle.codes.proofs.Refusals.{passed-on}
use Rattle.text_field.proofs.Scratch.{translated-inside, refused_all, translated-all}
use Rattle.text_field.proofs.translate_text.Goals as goal

pub returns-in_err-e : goal.returns-in_err-e
returns-in_err-e c =
    let a = c.args in
    let l = a.layout.now in
    let zeros : c.fill.new.self ≡ replicate (length a.scratch.now) 0 = grind (arith, common_steps, c.fill.ensures) in
    rw (passed-on c.from_residual.result c.in_err-e.field-0.0 c.from_residual.ensures.1)
    (refused_all l.words.now a.«record».now a.scratch.now l.page _ c.in_err-e.ensures.asked _ zeros (some_number _))

pub field-part-requires : goal.field-part-requires
field-part-requires c =
    let a = c.args in
    let l = a.layout.now in
    translated-inside l.words.now a.«record».now l.page (length a.scratch.now) 0 c.in_ok-e.ensures.asked refl c.in_ok-e.e c.in_ok-e.ensures.entry

pub returns : goal.returns
returns c =
    let a = c.args in
    let l = a.layout.now in
    let zeros : c.fill.new.self ≡ replicate (length a.scratch.now) 0 = grind (arith, common_steps, c.fill.ensures) in
    translated-all l.words.now a.«record».now a.scratch.now l.page 0 c.in_ok-e.ensures.asked _ zeros refl c.in_ok-e.e c.in_ok-e.ensures.entry
    c.field-part.result.now c.field-part.ensures.result_value _ c.decode_slice.ensures
