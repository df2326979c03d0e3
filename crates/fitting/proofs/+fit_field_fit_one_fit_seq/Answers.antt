-- Each way by the law of Turns of that name.
use Rattle.std.proofs.Common.{refl, sym, ◌∙◌}
use Rattle.fitting.proofs.Turns.{field-pad, field-one, field-not, field-each, field-stops, field-goes, field-done, one-leaf, one-not, one-group, seq_stops, seq-goes, seq-left, seq-done}
use Rattle.fitting.proofs.+fit_field_fit_one_fit_seq.Goals as goal

pub fit_field-returns-then-is : goal.fit_field-returns-then-is
fit_field-returns-then-is t c = sym (field-pad _ _ _ _ _ _ _ _ _ _ (sym c.is.ensures ∙ c.if-is.true))

pub fit_field-returns-then-is_unrepeated : goal.fit_field-returns-then-is_unrepeated
fit_field-returns-then-is_unrepeated t c =
    c.fit_one.ensures ∙ sym (field-one _ _ _ _ _ _ _ _ _ _ (sym c.is.ensures ∙ c.if-is.false) _ c.is_unrepeated.ensures c.if-is_unrepeated.true)

pub fit_field-returns-then-not-is_table : goal.fit_field-returns-then-not-is_table
fit_field-returns-then-not-is_table t c =
    sym (field-not _ _ _ _ _ _ _ _ _ _ (sym c.is.ensures ∙ c.if-is.false) _ c.is_unrepeated.ensures c.if-is_unrepeated.false _ c.is_table.ensures c.if-not-is_table.true)

pub fit_field-loop-k-init : goal.fit_field-loop-k-init
fit_field-loop-k-init t c = record {
  whole = field-each _ _ _ _ _ _ _ _ _ _ (sym c.is.ensures ∙ c.if-is.false) _ c.is_unrepeated.ensures c.if-is_unrepeated.false _ c.is_table.ensures c.if-not-is_table.false
      _ _ c.item_end-end.ensures c.after-k.ensures;
  same = refl;
}

pub fit_field-returns-in_err-at : goal.fit_field-returns-in_err-at
fit_field-returns-in_err-at t c = rw c.from_residual.ensures (sym (field-stops c.loop-k.invariant c.loop-k-test.true (sym c.in_err-at.ensures)))

pub fit_field-loop-k-preserved : goal.fit_field-loop-k-preserved
fit_field-loop-k-preserved t c = field-goes c.loop-k.invariant c.loop-k-test.true _ c.item_end-k.ensures _ _ (sym c.in_ok-at.ensures) c.fit_one-in-loop-k.auto.counts

pub fit_field-returns : goal.fit_field-returns
fit_field-returns t c = sym (field-done c.loop-k.invariant c.loop-k-test.false)

pub fit_one-returns-then-not-is : goal.fit_one-returns-then-not-is
fit_one-returns-then-not-is t c = c.fit_leaf.ensures ∙ sym (one-leaf _ _ _ _ _ _ _ _ _ _ (sym c.is.ensures ∙ c.if-not-is.true))

pub fit_one-returns-then-not-is_holder : goal.fit_one-returns-then-not-is_holder
fit_one-returns-then-not-is_holder t c =
    sym (one-not _ _ _ _ _ _ _ _ _ _ (sym c.is.ensures ∙ c.if-not-is.false) _ _ c.is_unrepeated.ensures c.element_name.ensures _ c.is_holder.ensures c.if-not-is_holder.true)

pub fit_one-returns : goal.fit_one-returns
fit_one-returns t c =
    c.fit_seq.ensures ∙ sym (one-group _ _ _ _ _ _ _ _ _ _ (sym c.is.ensures ∙ c.if-not-is.false) _ _ c.is_unrepeated.ensures c.element_name.ensures _ c.is_holder.ensures
    c.if-not-is_holder.false
    _ _ c.item_end-end.ensures c.after.ensures)

pub fit_seq-returns-in_err-at : goal.fit_seq-returns-in_err-at
fit_seq-returns-in_err-at t c =
    rw c.from_residual.ensures (sym (seq_stops c.loop-i.invariant c.load-e.result _ c.loop-i-test.true c.load-e.ensures c.end_of-end.ensures (sym c.in_err-at.ensures)))

pub fit_seq-loop-i-preserved : goal.fit_seq-loop-i-preserved
fit_seq-loop-i-preserved t c =
    seq-goes c.loop-i.invariant c.load-e.result _ c.loop-i-test.true c.load-e.ensures c.end_of-end.ensures _ _ _ (sym c.in_ok-at.ensures) c.fit_field.auto.counts c.values_after-j.ensures.1

pub fit_seq-returns-then-j-to : goal.fit_seq-returns-then-j-to
fit_seq-returns-then-j-to t c = sym (seq-left c.loop-i.invariant c.loop-i-test.false c.if-j-to.true)

pub fit_seq-returns-else-j-to : goal.fit_seq-returns-else-j-to
fit_seq-returns-else-j-to t c = sym (seq-done c.loop-i.invariant c.loop-i-test.false c.if-j-to.false)
