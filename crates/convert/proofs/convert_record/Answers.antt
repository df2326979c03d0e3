-- Two ways: not read, or read and rewritten; each is a law of Calls from the contracts of the parts.
use Rattle.std.proofs.Common.{refl, rules}
use Rattle.codes.specs.Refusals.{number_of}
use Rattle.codes.proofs.Refusals.{some_number}
use Rattle.convert.specs.Calls.{Cleared}
use Rattle.convert.proofs.Calls.{not-read, whole-call}
use Rattle.convert.proofs.convert_record.Goals as goal

pub returns-in-Ok : goal.returns-in-Ok
returns-in-Ok c =
    let a = c.args in
    let new = a.new.now in
    let read = c.decode_record in
    whole-call _ _ _ _ new.words.now new.masks.now new.page a.new_record.now _ _ a.back_items.now a.back_text.now _ _ _ _ _ _ _ c.in-Ok.ensures refl read.auto.counts _ _ _ _ _ _ c.rewrite-length.ensures
    _ _ (c.clear.ensures.items_after, c.clear.ensures.text_after) read.auto.items read.auto.text

pub returns-in-Err : goal.returns-in-Err
returns-in-Err c =
    let a = c.args in
    let new = a.new.now in
    let refusal = c.in-Err.refusal in
    let zeros : Cleared a.new_record.now c.fill.new.self = search rules in
    not-read _ _ _ _ new.words.now new.masks.now new.page a.new_record.now _ _ a.back_items.now a.back_text.now _ _ _ _ _ _ _ c.in-Err.ensures (some_number refusal) _ zeros
    _ _ (c.clear-in-Err.ensures.items_after, c.clear-in-Err.ensures.text_after) (number_of refusal) 0 (refl, refl)
