-- Each way out by the law of Elements of that name, at the element as it is put into the buffer as it is now.
use Rattle.std.proofs.Common.{sym, ◌∙◌, arith}
use Rattle.encode_leaf.proofs.Meets.{stopped}
use Rattle.encode_leaf.proofs.Elements.{buffer-starts, buffer-done, buffer-stops, buffer-settles, buffer-goes, elements-starts, elements-stops, elements-settles, elements-goes, elements-done, leaf-here}
use Rattle.encode_leaf.proofs.encode_table.Goals as goal

pub loop-done-init : goal.loop-done-init
loop-done-init c = (elements-starts _ _ _ _ _ _ _ _ _ _ (omega arith), buffer-starts _ _ _ _ _ _ _ _ (omega arith))

pub returns-in_err-o-clause-value : goal.returns-in_err-o-clause-value
returns-in_err-o-clause-value c =
    let stops = leaf-here _ _ _ _ c.loop-done.invariant.0 _ c.fetch-it.ensures _ (sym c.in_err-o.ensures.value) in
    stopped _ _ _ c.from_residual.ensures.1 (elements-stops c.loop-done.invariant.0 (omega arith) _ stops)

pub returns-in_err-o-clause-record_after : goal.returns-in_err-o-clause-record_after
returns-in_err-o-clause-record_after c =
    let stops = leaf-here _ _ _ _ c.loop-done.invariant.0 _ c.fetch-it.ensures _ (sym c.in_err-o.ensures.value) in
    c.in_err-o.ensures.record_after ∙ rw (← c.in_err-o.ensures.value) (buffer-stops c.loop-done.invariant.1 (omega arith) _ stops)

pub returns-then-settles-clause-value : goal.returns-then-settles-clause-value
returns-then-settles-clause-value c =
    let put = leaf-here _ _ _ _ c.loop-done.invariant.0 _ c.fetch-it.ensures _ (sym c.in_ok-o.ensures.value) in
    sym (elements-settles c.loop-done.invariant.0 (omega arith) c.in_ok-o.o _ _ put c.max-past.ensures _ c.settles.ensures c.if-settles.true _ _ c.sat_mul.ensures c.sat_add.ensures)

pub returns-then-settles-clause-record_after : goal.returns-then-settles-clause-record_after
returns-then-settles-clause-record_after c =
    let put = leaf-here _ _ _ _ c.loop-done.invariant.0 _ c.fetch-it.ensures _ (sym c.in_ok-o.ensures.value) in
    buffer-settles c.loop-done.invariant.1 (omega arith) c.in_ok-o.o _ put _ c.settles.ensures c.if-settles.true

pub loop-done-preserved : goal.loop-done-preserved
loop-done-preserved c =
    let put = leaf-here _ _ _ _ c.loop-done.invariant.0 _ c.fetch-it.ensures _ (sym c.in_ok-o.ensures.value) in (
      elements-goes c.loop-done.invariant.0 (omega arith) c.in_ok-o.o _ _ put c.max-past.ensures _ c.settles.ensures c.if-settles.false _ _ _ _ c.encode_leaf.auto.record
          c.sat_add-place.ensures c.sat_add-taken.ensures c.item_end-next.ensures (omega arith),
      buffer-goes c.loop-done.invariant.1 (omega arith) c.in_ok-o.o _ put _ c.settles.ensures c.if-settles.false _ _ _ c.sat_add-place.ensures c.item_end-next.ensures (omega arith),
    )

pub returns-clause-value : goal.returns-clause-value
returns-clause-value c = sym (elements-done c.loop-done.invariant.0 (omega arith))

pub returns-clause-record_after : goal.returns-clause-record_after
returns-clause-record_after c = buffer-done c.loop-done.invariant.1 (omega arith)
