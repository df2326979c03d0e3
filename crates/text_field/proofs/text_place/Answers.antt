-- Where no question refuses, `place_in` says where the text stands, in the scratch or in the record.
use Rattle.std.proofs.Common.{sym, length}
use Rattle.codes.proofs.Refusals.{some_number}
use Rattle.codes.proofs.Refusals.{passed-on}
use Rattle.text_field.proofs.Parts.{place-refused, stands-scratch, stands-record}
use Rattle.text_field.proofs.Questions.{scratch-lawful, record-lawful}
use Rattle.text_field.proofs.text_place.Goals as goal

pub returns-in_err-e : goal.returns-in_err-e
returns-in_err-e c =
    let a = c.args in
    let l = a.layout.now in
    rw (passed-on c.from_residual.result c.in_err-e.field-0.0 c.from_residual.ensures.1)
    (place-refused l.words.now l.page a.«record» a.scratch _ c.in_err-e.ensures.asked (some_number _))

pub place_in-requires : goal.place_in-requires
place_in-requires c =
    let a = c.args in
    let l = a.layout.now in
    scratch-lawful l.words.now l.page (length a.«record».now) (length a.scratch.now) c.in_ok-e.e c.in_ok-e.ensures.entry c.if-layout-eq1.true (sym c.in_ok-e.ensures.asked)

pub place_in-requires-else-layout-eq1 : goal.place_in-requires-else-layout-eq1
place_in-requires-else-layout-eq1 c =
    let a = c.args in
    let l = a.layout.now in
    record-lawful l.words.now l.page (length a.«record».now) (length a.scratch.now) c.in_ok-e.e c.in_ok-e.ensures.entry (sym c.in_ok-e.ensures.asked)

pub returns-then-layout-eq1 : goal.returns-then-layout-eq1
returns-then-layout-eq1 c =
    let a = c.args in
    let l = a.layout.now in
    stands-scratch l.words.now l.page a.«record» a.scratch c.in_ok-e.e c.in_ok-e.ensures.entry c.in_ok-e.ensures.asked c.place_in.result c.if-layout-eq1.true c.place_in.ensures.start_value c.place_in.ensures.length_value

pub returns-else-layout-eq1 : goal.returns-else-layout-eq1
returns-else-layout-eq1 c =
    let a = c.args in
    let l = a.layout.now in
    let p = c.place_in-else-layout-eq1 in
    stands-record l.words.now l.page a.«record» a.scratch c.in_ok-e.e c.in_ok-e.ensures.entry c.in_ok-e.ensures.asked p.result c.if-layout-eq1.false p.ensures.start_value p.ensures.length_value
