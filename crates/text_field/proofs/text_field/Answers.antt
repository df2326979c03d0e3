-- The part that `text_in` cuts is the text, of the scratch on page 1 and of the record else; a refusal's part is the empty one there.
use Rattle.std.proofs.Common.{sym, ◌∙◌, length}
use Rattle.codes.specs.Refusals.{number_of}
use Rattle.codes.proofs.Refusals.{some_number}
use Rattle.text_field.proofs.Parts.{text-scratch, place-scratch, text-record, place-record, none-text, none-scratch, none-record}
use Rattle.text_field.proofs.Questions.{scratch-lawful, record-lawful}
use Rattle.text_field.proofs.text_field.Goals as goal

pub text_in-requires : goal.text_in-requires
text_in-requires c =
    let a = c.args in
    let l = a.layout.now in
    scratch-lawful l.words.now l.page (length a.«record».now) (length a.scratch.now) c.in-Ok.e c.in-Ok.ensures.entry c.if-layout-eq1.true (sym c.in-Ok.ensures.asked)

pub text_in-requires-in-Ok-2 : goal.text_in-requires-in-Ok-2
text_in-requires-in-Ok-2 c =
    let a = c.args in
    let l = a.layout.now in
    record-lawful l.words.now l.page (length a.«record».now) (length a.scratch.now) c.in-Ok-2.e c.in-Ok-2.ensures.entry (sym c.in-Ok-2.ensures.asked)

pub returns-in-Ok : goal.returns-in-Ok
returns-in-Ok c =
    let a = c.args in
    let l = a.layout.now in
    let e = c.in-Ok in
    let t = c.text_in.ensures in
    record {
      numbered = rw (c.number_in.ensures, e.is) e.ensures.asked;
      bytes = t.result_value ∙ text-scratch l.words.now l.page a.«record» a.scratch e.e e.ensures.entry 0 e.ensures.asked c.if-layout-eq1.true;
      place = t.ref_ptr_value ∙ place-scratch l.words.now l.page a.«record» a.scratch e.e e.ensures.entry 0 e.ensures.asked c.if-layout-eq1.true;
    }

pub returns-in-Ok-2 : goal.returns-in-Ok-2
returns-in-Ok-2 c =
    let a = c.args in
    let l = a.layout.now in
    let e = c.in-Ok-2 in
    let t = c.text_in-in-Ok-2.ensures in
    record {
      numbered = rw (c.number_in.ensures, e.is) e.ensures.asked;
      bytes = t.result_value ∙ text-record l.words.now l.page a.«record» a.scratch e.e e.ensures.entry 0 e.ensures.asked c.if-layout-eq1.false;
      place = t.ref_ptr_value ∙ place-record l.words.now l.page a.«record» a.scratch e.e e.ensures.entry 0 e.ensures.asked c.if-layout-eq1.false;
    }

pub returns-in-Err : goal.returns-in-Err
returns-in-Err c =
    let a = c.args in
    let l = a.layout.now in
    let e = c.in-Err in
    record {
      numbered = rw (c.number_in.ensures, e.is) e.ensures.asked;
      bytes = none-text l.words.now l.page a.«record» a.scratch (number_of e.field-0) e.ensures.asked (some_number _);
      place = none-scratch l.words.now l.page a.«record» a.scratch (number_of e.field-0) e.ensures.asked (some_number _) c.if-layout-eq1-2.true;
    }

pub returns-in-Err-2 : goal.returns-in-Err-2
returns-in-Err-2 c =
    let a = c.args in
    let l = a.layout.now in
    let e = c.in-Err-2 in
    record {
      numbered = rw (c.number_in.ensures, e.is) e.ensures.asked;
      bytes = none-text l.words.now l.page a.«record» a.scratch (number_of e.field-0) e.ensures.asked (some_number _);
      place = none-record l.words.now l.page a.«record» a.scratch (number_of e.field-0) e.ensures.asked (some_number _) c.if-layout-eq1-2.false;
    }
