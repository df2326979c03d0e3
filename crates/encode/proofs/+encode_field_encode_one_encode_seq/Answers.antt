-- An entry by the law of Turns for what it is, its elements by the laws of Elements; a group by its value's tag; a sequence by the law of Turns for each way out.
use Rattle.std.proofs.Common.{refl, sym, ap, ◌∙◌, arith}
use Rattle.encode_leaf.specs.Machine.{taking}
use Rattle.encode_leaf.proofs.Meets.{stopped}
use Rattle.encode_leaf.proofs.Elements.{elements-starts, elements-stops, elements-settles, elements-goes, elements-done}
use Rattle.encode_leaf.proofs.Inside.{inside-not, inside_is}
use Rattle.encode.proofs.Turns.{group-here, field-not, field-group, field-leaves, field-empty, seq-starts, seq_stops, seq-goes, seq-done}
use Rattle.encode.proofs.Steps.{lone-end, lone-field, lone-shift}
use Rattle.encode.proofs.+encode_field_encode_one_encode_seq.Goals as goal

pub encode_field-returns-in_err-run : goal.encode_field-returns-in_err-run
encode_field-returns-in_err-run t c =
    let a = c.args in
    stopped _ _ _ c.from_residual.ensures.1 (field-not a.layout.now.masks.now a.list.now.text.now a.layout.now.page a.layout.now.words.now a.list.now.items.now a.rec.now a.e a.lo a.hi a.i
    a.to a.at (omega arith) _ c.in_err-run.ensures)

pub encode_field-returns-then-run-end : goal.encode_field-returns-then-run-end
encode_field-returns-then-run-end t c =
    let a = c.args in
    c.encode_table.ensures.value ∙ sym (field-leaves a.layout.now.masks.now a.list.now.text.now a.layout.now.page a.layout.now.words.now a.list.now.items.now a.rec.now a.e a.lo a.hi a.i
    a.to a.at (omega arith) _ c.in_ok-run.ensures (sym c.is.ensures ∙ c.if-not-is.true))

pub encode_field-returns-then-not-is : goal.encode_field-returns-then-not-is
encode_field-returns-then-not-is t c =
    let a = c.args in
    c.encode_table-then-not-is.ensures.value ∙ sym (field-empty a.layout.now.masks.now a.list.now.text.now a.layout.now.page a.layout.now.words.now a.list.now.items.now a.rec.now a.e a.lo
    a.hi a.i a.to a.at (omega arith) _ c.in_ok-run.ensures (sym c.is.ensures ∙ c.if-not-is.true) c.if-run-end.false)

pub encode_field-loop-done-init : goal.encode_field-loop-done-init
encode_field-loop-done-init t c = elements-starts _ _ _ _ _ _ _ _ _ _ (omega arith)

pub encode_field-returns-in_err-o : goal.encode_field-returns-in_err-o
encode_field-returns-in_err-o t c =
    let a = c.args in
    stopped _ _ _ c.from_residual-in_err-o.ensures.1
    (field-group a.layout.now.masks.now a.list.now.text.now a.layout.now.page a.layout.now.words.now a.list.now.items.now a.rec.now a.e a.lo a.hi a.i a.to a.at (omega arith) _
    c.in_ok-run.ensures (sym c.is.ensures ∙ c.if-not-is.false)
    ∙ elements-stops c.loop-done.invariant (omega arith) _ (group-here a.layout.now.masks.now a.list.now.text.now a.layout.now.page a.layout.now.words.now a.lo a.hi c.loop-done.invariant _
    (sym c.in_err-o.ensures)))

pub encode_field-returns-then-settles : goal.encode_field-returns-then-settles
encode_field-returns-then-settles t c =
    let a = c.args in
    sym (field-group a.layout.now.masks.now a.list.now.text.now a.layout.now.page a.layout.now.words.now a.list.now.items.now a.rec.now a.e a.lo a.hi a.i a.to a.at (omega arith) _
    c.in_ok-run.ensures (sym c.is.ensures ∙ c.if-not-is.false)
    ∙ elements-settles c.loop-done.invariant (omega arith) c.in_ok-o.o _ _ (group-here a.layout.now.masks.now a.list.now.text.now a.layout.now.page a.layout.now.words.now a.lo a.hi
    c.loop-done.invariant _ (sym c.in_ok-o.ensures))
    c.max-past.ensures _ c.settles.ensures c.if-settles.true _ _ c.sat_mul.ensures c.sat_add.ensures)

pub encode_field-loop-done-preserved : goal.encode_field-loop-done-preserved
encode_field-loop-done-preserved t c =
    let a = c.args in
    elements-goes c.loop-done.invariant (omega arith) c.in_ok-o.o _ _ (group-here a.layout.now.masks.now a.list.now.text.now a.layout.now.page a.layout.now.words.now a.lo a.hi
    c.loop-done.invariant _ (sym c.in_ok-o.ensures)) c.max-past.ensures _ c.settles.ensures c.if-settles.false _ _ _ _
    c.encode_one.auto.rec c.sat_add-place.ensures c.sat_add-taken.ensures c.item_end-j.ensures (omega arith)

pub encode_field-returns : goal.encode_field-returns
encode_field-returns t c =
    let a = c.args in
    sym (field-group a.layout.now.masks.now a.list.now.text.now a.layout.now.page a.layout.now.words.now a.list.now.items.now a.rec.now a.e a.lo a.hi a.i a.to a.at (omega arith) _
    c.in_ok-run.ensures (sym c.is.ensures ∙ c.if-not-is.false) ∙ elements-done c.loop-done.invariant (omega arith))

pub encode_one-returns-then-not-takes : goal.encode_one-returns-then-not-takes
encode_one-returns-then-not-takes t c = sym (inside-not 7 _ _ _ _ _ c.fetch.ensures (sym (c.takes.ensures ∙ ap (taking _) c.into.ensures) ∙ c.if-not-takes.true))

pub encode_one-returns : goal.encode_one-returns
encode_one-returns t c = c.encode_seq.ensures ∙ sym (inside_is 7 _ _ _ _ _ c.fetch.ensures _ _ (sym (c.takes.ensures ∙ ap (taking _) c.into.ensures) ∙ c.if-not-takes.false) c.item_end-end.ensures c.after.ensures)

pub encode_seq-loop-i-init : goal.encode_seq-loop-i-init
encode_seq-loop-i-init t c = seq-starts _ _ _ _ _ _ _ _ _ _ _

pub encode_seq-returns-in_err-o : goal.encode_seq-returns-in_err-o
encode_seq-returns-in_err-o t c =
    stopped _ _ _ c.from_residual.ensures.1 (seq_stops c.loop-i.invariant c.load-e.result _ _ _ _ c.loop-i-test.true c.load-e.ensures
    (lone-end _ _ c.is_lone_leaf.ensures c.if-is_lone_leaf.true _ _ c.loop-i-test.true) c.sat_add-off.ensures c.sat_add-at.ensures c.place_of-f.ensures.to_value _
    (lone-field _ _ c.is_lone_leaf.ensures c.if-is_lone_leaf.true _ _ _ _ _ _ _ c.fetch.ensures ∙ sym c.in_err-o.ensures.value))

pub encode_seq-loop-i-preserved-then-is_lone_leaf : goal.encode_seq-loop-i-preserved-then-is_lone_leaf
encode_seq-loop-i-preserved-then-is_lone_leaf t c =
    seq-goes c.loop-i.invariant c.load-e.result _ _ _ _ c.loop-i-test.true c.load-e.ensures (lone-end _ _ c.is_lone_leaf.ensures c.if-is_lone_leaf.true _ _ c.loop-i-test.true)
    c.sat_add-off.ensures c.sat_add-at.ensures c.place_of-f.ensures.to_value
    c.in_ok-o.o _ c.place_of-f.result _ _ _ _ _ _ (lone-field _ _ c.is_lone_leaf.ensures c.if-is_lone_leaf.true _ _ _ _ _ _ _ c.fetch.ensures ∙ sym c.in_ok-o.ensures.value)
    c.encode_leaf.auto.record refl refl (lone-shift _ _ c.is_lone_leaf.ensures c.if-is_lone_leaf.true _ _ _ _ _ _ _ _ _ (sym c.in_ok-o.ensures.value) c.loop-i.invariant.stops)
    c.sat_add.ensures c.max-taken.ensures c.max-past.ensures c.place_of-f.ensures.ahead

pub encode_seq-returns-in_err-o-2 : goal.encode_seq-returns-in_err-o-2
encode_seq-returns-in_err-o-2 t c =
    stopped _ _ _ c.from_residual-in_err-o-2.ensures.1 (seq_stops c.loop-i.invariant c.load-e.result _ _ _ _ c.loop-i-test.true c.load-e.ensures c.end_of-end.ensures c.sat_add-off.ensures
    c.sat_add-at.ensures c.place_of-f.ensures.to_value _ (sym c.in_err-o-2.ensures))

pub encode_seq-loop-i-preserved : goal.encode_seq-loop-i-preserved
encode_seq-loop-i-preserved t c =
    seq-goes c.loop-i.invariant c.load-e.result _ _ _ _ c.loop-i-test.true c.load-e.ensures c.end_of-end.ensures c.sat_add-off.ensures c.sat_add-at.ensures c.place_of-f.ensures.to_value
    c.in_ok-o-2.o _ c.place_of-f.result _ _ _ _ _ _ (sym c.in_ok-o-2.ensures)
    c.encode_field.auto.rec c.reserved_width.ensures c.saturating_sub.ensures c.sat_add-shift.ensures c.sat_add-in-loop-i.ensures c.max-taken-in-loop-i.ensures c.max-past-in-loop-i.ensures
    c.place_of-f.ensures.ahead

pub encode_seq-returns : goal.encode_seq-returns
encode_seq-returns t c = sym (seq-done c.loop-i.invariant c.loop-i-test.false)
