-- Three ways: not written, written and kept, written and not kept; each is a law of Calls.
use Rattle.std.proofs.Common.{refl, rules}
use Rattle.codes.specs.Refusals.{number_of}
use Rattle.codes.proofs.Refusals.{some_number}
use Rattle.convert.specs.Calls.{Cleared}
use Rattle.convert.proofs.Calls.{not_written, not-kept, all-kept}
use Rattle.convert.proofs.rewrite.Goals as goal

pub returns-in-Err : goal.returns-in-Err
returns-in-Err c =
    let a = c.args in
    not_written _ _ _ _ _ _ a.back_items.now a.back_text.now _ _ _ _ _ c.in-Err.ensures (some_number c.in-Err.refusal) _ _ (c.clear.ensures.items_after, c.clear.ensures.text_after)

pub returns-in-Ok-judge_back : goal.returns-in-Ok-judge_back
returns-in-Ok-judge_back c =
    let a = c.args in
    all-kept _ _ _ _ _ _ a.back_items.now a.back_text.now _ _ _ _ _ c.in-Ok.ensures refl c.encode_record.auto.counts _ _ _ _ c.in-Ok-judge_back.ensures refl

pub returns-in-Err-judge_back : goal.returns-in-Err-judge_back
returns-in-Err-judge_back c =
    let a = c.args in
    let refusal = c.in-Err-judge_back.refusal in
    let wrote = c.encode_record in
    let zeros : Cleared wrote.new.record c.fill.new.self = search rules in
    not-kept _ _ _ _ _ _ a.back_items.now a.back_text.now _ _ _ _ _ c.in-Ok.ensures refl wrote.auto.counts _ _ _ _ c.in-Err-judge_back.ensures (some_number refusal)
    _ wrote.auto.record zeros (number_of refusal) 0 (refl, refl)
