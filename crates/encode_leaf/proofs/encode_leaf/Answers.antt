-- Without room the item is judged and refused; with room its stretch is lent, which a refusal leaves as it was.
use Rattle.std.proofs.Common.{refl, sym, ap, ◌∙◌, false, []}
use borrow.Author.Tests.{ne_eqb}
use Rattle.lists.proofs.Part.{lift}
use Rattle.encode_leaf.specs.Laying.{refused}
use Rattle.encode_leaf.specs.Machine.{behind}
use Rattle.codes.proofs.Refusals.{some_number}
use Rattle.encode_leaf.proofs.Meets.{stopped}
use Rattle.encode_leaf.proofs.Leaves.{leaf-out, leaf-unfit, leaf-put}
use Rattle.encode_leaf.proofs.encode_leaf.Goals as goal

pub returns-then-not-inside-clause-value : goal.returns-then-not-inside-clause-value
returns-then-not-inside-clause-value c =
    ap refused c.no_room.ensures ∙ sym (leaf-out _ _ _ _ _ _ _ _ _ _ c.put_width-width.ensures c.room_of.ensures _ c.inside.ensures c.if-not-inside.true)

pub returns-then-not-inside-clause-record_after : goal.returns-then-not-inside-clause-record_after
returns-then-not-inside-clause-record_after c =
    let a = c.args in
    sym (ap (behind a.record.now) (leaf-out a.layout.now.masks.now a.list.now.text.now a.layout.now.page _ _ _ _ _ _ _ c.put_width-width.ensures c.room_of.ensures _ c.inside.ensures
    c.if-not-inside.true))

pub returns-in_err-put_leaf-clause-value : goal.returns-in_err-put_leaf-clause-value
returns-in_err-put_leaf-clause-value c = stopped _ _ _ c.from_residual.ensures.1 (leaf-unfit _ _ _ _ _ _ _ _ _ c.in_err-put_leaf.ensures.value (some_number _))

pub returns-in_err-put_leaf-clause-record_after : goal.returns-in_err-put_leaf-clause-record_after
returns-in_err-put_leaf-clause-record_after c =
    let a = c.args in
    lift false a.at c.put_width-width.result a.record.now [] _ (c.in_err-put_leaf.ensures.part_after ∙ rw (ne_eqb _ 0 (some_number c.in_err-put_leaf.field-0.0)) refl)
    ∙ sym (ap (behind a.record.now) (leaf-unfit a.layout.now.masks.now a.list.now.text.now a.layout.now.page _ _ _ _ _ _ c.in_err-put_leaf.ensures.value (some_number _)))

pub returns-clause-value : goal.returns-clause-value
returns-clause-value c =
    leaf-put _ _ _ _ _ _ _ _ _ _ c.put_width-width.ensures c.room_of.ensures _ c.inside.ensures c.if-not-inside.false c.in_ok-put_leaf.ensures.value _ c.in_ok-put_leaf.ensures.part_after

pub returns-clause-record_after : goal.returns-clause-record_after
returns-clause-record_after c =
    let a = c.args in
    ap (behind a.record.now) (leaf-put a.layout.now.masks.now a.list.now.text.now a.layout.now.page _ _ _ _ _ _ _ c.put_width-width.ensures c.room_of.ensures _ c.inside.ensures
    c.if-not-inside.false c.in_ok-put_leaf.ensures.value _ c.in_ok-put_leaf.ensures.part_after)
