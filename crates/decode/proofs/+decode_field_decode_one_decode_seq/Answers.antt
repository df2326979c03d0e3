-- A sequence reads fields, a field reads elements, a group element reads a sequence: each turn of a loop is a law of Turns, each way of a field one of Around.
use Rattle.std.proofs.Common.{refl, sym, ◌∙◌, length, arith}
use borrow.Author.Tests.{eqb-true, eqb-false}
use Rattle.codes.proofs.Refusals.{passed-on}
use Rattle.decode.proofs.Steps.{field-never, field-small}
use Rattle.decode.proofs.Turns.{turns-starts, turns-stop, turns-nothing, turns_go, seq_stops, seq-goes, seq-passes, seq-done}
use Rattle.decode.proofs.Around.{fine-as, listed-met, head-group, counted_is, entry-is, entry-refused, one-group, not-lone, scalars-table, inside-stops, inside-done, field-lone, lone_is, lone-kind}
use Rattle.decode.proofs.+decode_field_decode_one_decode_seq.Goals as goal

pub decode_field-returns-then-not-is : goal.decode_field-returns-then-not-is
decode_field-returns-then-not-is t c =
    let a = c.args in
    let l = a.layout.now in
    let kind = eqb-false a.e.kind 9 (sym c.if-not-is.ensures) in
    rw (scalars-table l.words.now l.page a.deps a.«record».now a.e _ a.at (length a.items.now) a.counts.now a.told a.text.now kind (not-lone a.e c.requires.e_value kind)) (c.decode_table.ensures.met a.deps)

pub decode_field-returns-in_err-n : goal.decode_field-returns-in_err-n
decode_field-returns-in_err-n t c =
    let a = c.args in
    let l = a.layout.now in
    let counted = counted_is l.words.now l.page (length a.text.now) a.deps a.e a.counts.now a.told a.text.now in
    rw (passed-on c.from_residual.result c.in_err-n.field-0.0 c.from_residual.ensures.1) (field-never _ _ _ _ _ _ _ _ (counted ∙ sym c.in_err-n.ensures))

pub decode_field-returns-then-items-head : goal.decode_field-returns-then-items-head
decode_field-returns-then-items-head t c =
    let a = c.args in
    let l = a.layout.now in
    let counted = counted_is l.words.now l.page (length a.text.now) a.deps a.e a.counts.now a.told a.text.now ∙ sym c.in_ok-n.ensures in
    let kind = eqb-true a.e.kind 9 (sym c.if-not-is.ensures) in
    let head = head-group a.e c.is_unrepeated-once.result c.head_words-head.result c.is_unrepeated-once.ensures kind c.head_words-head.ensures in
    field-small _ _ _ _ _ _ _ _ head _ counted c.if-items-head.true

pub decode_field-loop-k-init : goal.decode_field-loop-k-init
decode_field-loop-k-init t c = record { turns = turns-starts _ _ _ _ _ _ _ _ _ c.requires.told_in_bounds c.if-items-head.false; left = omega arith }

pub decode_field-returns-in_err-o : goal.decode_field-returns-in_err-o
decode_field-returns-in_err-o t c =
    let a = c.args in
    let l = a.layout.now in
    let counted = counted_is l.words.now l.page (length a.text.now) a.deps a.e a.counts.now a.told a.text.now ∙ sym c.in_ok-n.ensures in
    let kind = eqb-true a.e.kind 9 (sym c.if-not-is.ensures) in
    let head = head-group a.e c.is_unrepeated-once.result c.head_words-head.result c.is_unrepeated-once.ensures kind c.head_words-head.ensures in
    let element = one-group _ _ _ _ _ _ _ _ _ kind c.element_name-name.ensures in
    rw (passed-on c.from_residual-in_err-o.result c.in_err-o.field-0.0 c.from_residual-in_err-o.ensures.1)
    (entry-refused _ _ _ _ _ _ _ _ head _ counted _ c.is_unrepeated-once.ensures c.if-items-head.false (omega arith) _
    (turns-stop c.loop-k.invariant.turns c.loop-k-test.true c.decode_one.new.items c.decode_one.auto.items _ (element ∙ c.in_err-o.ensures)))

pub decode_field-returns-then-took_none : goal.decode_field-returns-then-took_none
decode_field-returns-then-took_none t c =
    let a = c.args in
    let l = a.layout.now in
    let counted = counted_is l.words.now l.page (length a.text.now) a.deps a.e a.counts.now a.told a.text.now ∙ sym c.in_ok-n.ensures in
    let kind = eqb-true a.e.kind 9 (sym c.if-not-is.ensures) in
    let head = head-group a.e c.is_unrepeated-once.result c.head_words-head.result c.is_unrepeated-once.ensures kind c.head_words-head.ensures in
    let element = one-group _ _ _ _ _ _ _ _ _ kind c.element_name-name.ensures in
    entry-refused _ _ _ _ _ _ _ _ head _ counted _ c.is_unrepeated-once.ensures c.if-items-head.false (omega arith) _
    (turns-nothing c.loop-k.invariant.turns c.loop-k-test.true c.decode_one.new.items c.decode_one.auto.items c.in_ok-o.o c.decode_one.new.text c.decode_one.new.counts
    (fine-as element c.in_ok-o.ensures) c.took_none.result c.took_none.ensures c.if-took_none.true)

pub decode_field-loop-k-preserved : goal.decode_field-loop-k-preserved
decode_field-loop-k-preserved t c =
    let kind = eqb-true c.args.e.kind 9 (sym c.if-not-is.ensures) in
    let element = one-group _ _ _ _ _ _ _ _ _ kind c.element_name-name.ensures in
    rw c.then-all.ensures (record {
      turns = turns_go c.loop-k.invariant.turns c.loop-k-test.true c.decode_one.new.items c.decode_one.auto.items c.in_ok-o.o c.decode_one.new.text c.decode_one.new.counts
          (fine-as element c.in_ok-o.ensures) c.took_none.result c.took_none.ensures _ _ c.decode_one.auto.text c.decode_one.auto.counts c.if-took_none.false c.sat_add-place.ensures c.sat_add.ensures;
      left = omega (arith, c.sat_add-place.ensures, c.loop-k.invariant.left, c.requires.record_len_bound);
    })

pub decode_field-returns : goal.decode_field-returns
decode_field-returns t c =
    let a = c.args in
    let l = a.layout.now in
    let counted = counted_is l.words.now l.page (length a.text.now) a.deps a.e a.counts.now a.told a.text.now ∙ sym c.in_ok-n.ensures in
    let kind = eqb-true a.e.kind 9 (sym c.if-not-is.ensures) in
    let head = head-group a.e c.is_unrepeated-once.result c.head_words-head.result c.is_unrepeated-once.ensures kind c.head_words-head.ensures in
    listed-met a.e c.loop-k.invariant.turns c.loop-k-test.false head (entry-is _ _ _ _ _ _ _ _ head _ counted _ c.is_unrepeated-once.ensures c.if-items-head.false (omega arith)) c.listed.ensures

pub decode_one-returns-in_err-o : goal.decode_one-returns-in_err-o
decode_one-returns-in_err-o t c =
    rw (passed-on c.from_residual.result c.in_err-o.field-0.0 c.from_residual.ensures.1)
    (inside-stops c.args.items.now (omega arith) c.decode_seq.new.items c.decode_seq.auto.items _ _ _ _ _ c.in_err-o.ensures)

pub decode_one-returns : goal.decode_one-returns
decode_one-returns t c =
    inside-done c.args.items.now (omega arith) c.decode_seq.new.items c.decode_seq.auto.items _ _ _ _ refl c.in_ok-o.ensures (c.put.ensures ∙ rw (c.header.ensures, c.item_count.ensures) refl) refl

pub decode_seq-returns-in_err-o : goal.decode_seq-returns-in_err-o
decode_seq-returns-in_err-o t c =
    let e = c.load-e.result in
    let leaf = c.is_unrepeated_leaf.ensures in
    let lone = field-lone _ _ _ _ _ _ _ (lone-kind e leaf c.if-is_unrepeated_leaf.true) (lone_is e leaf c.if-is_unrepeated_leaf.true) in
    rw (passed-on c.from_residual.result c.in_err-o.field-0.0 c.from_residual.ensures.1)
    (seq_stops c.loop-i.invariant _ _ _ _ c.loop-i-test.true c.load-e.ensures c.end_of-end.ensures c.sat_add-off.ensures c.sat_add-at.ensures c.decode_lone.new.items c.decode_lone.auto.items _
    (lone ∙ c.in_err-o.ensures.lone.met))

pub decode_seq-loop-i-preserved-then-is_unrepeated_leaf : goal.decode_seq-loop-i-preserved-then-is_unrepeated_leaf
decode_seq-loop-i-preserved-then-is_unrepeated_leaf t c =
    let e = c.load-e.result in
    let leaf = c.is_unrepeated_leaf.ensures in
    let single = lone_is e leaf c.if-is_unrepeated_leaf.true in
    let lone = field-lone _ _ _ _ _ _ _ (lone-kind e leaf c.if-is_unrepeated_leaf.true) single in
    rw c.then-all.ensures
    (seq-passes c.loop-i.invariant _ _ _ _ c.loop-i-test.true c.load-e.ensures c.end_of-end.ensures c.sat_add-off.ensures c.sat_add-at.ensures c.decode_lone.new.items c.decode_lone.auto.items
    c.in_ok-o.o c.decode_lone.new.text c.decode_lone.new.counts (fine-as lone c.in_ok-o.ensures.lone.met) single lone _ _ c.decode_lone.auto.text c.decode_lone.auto.counts c.sat_add.ensures c.max.ensures)

pub decode_seq-returns-in_err-o-2 : goal.decode_seq-returns-in_err-o-2
decode_seq-returns-in_err-o-2 t c =
    rw (passed-on c.from_residual-in_err-o-2.result c.in_err-o-2.field-0.0 c.from_residual-in_err-o-2.ensures.1)
    (seq_stops c.loop-i.invariant _ _ _ _ c.loop-i-test.true c.load-e.ensures c.end_of-end.ensures c.sat_add-off.ensures c.sat_add-at.ensures c.decode_field.new.items c.decode_field.auto.items _ c.in_err-o-2.ensures)

pub decode_seq-loop-i-preserved : goal.decode_seq-loop-i-preserved
decode_seq-loop-i-preserved t c =
    rw c.then-all-in-loop-i.ensures
    (seq-goes c.loop-i.invariant _ _ _ _ c.loop-i-test.true c.load-e.ensures c.end_of-end.ensures c.sat_add-off.ensures c.sat_add-at.ensures c.decode_field.new.items c.decode_field.auto.items
    c.in_ok-o-2.o c.decode_field.new.text c.decode_field.new.counts c.in_ok-o-2.ensures _ _ _ _ _ c.decode_field.auto.text c.decode_field.auto.counts
    c.reserved_width.ensures c.saturating_sub.ensures c.sat_add-shift.ensures c.sat_add-in-loop-i.ensures c.max-in-loop-i.ensures)

pub decode_seq-returns : goal.decode_seq-returns
decode_seq-returns t c = seq-done c.loop-i.invariant c.loop-i-test.false
