-- Each turn takes the first entry off those that are left.
use Rattle.std.proofs.Common.{sym, ap, ◌∙◌}
use Rattle.layout.specs.Level.{entries_left}
use Rattle.encode.proofs.Asking.{supplied-start, supplied-not, supplied-go, supplied-end, within-behind}
use Rattle.encode.proofs.supplies.Goals as goal

pub loop-e-init : goal.loop-e-init
loop-e-init c = (
  supplied-start c.args.layout.now.words.now c.args.list.now.items.now _ _ _ (ap entries_left c.into_iter-e-iterator.ensures.into_iter_gives ∙ c.level-e-items.ensures.entries) c.entry_count.ensures
      c.item_count-to.ensures,
  λ name h. h,
)

pub returns-then-not-has_value : goal.returns-then-not-has_value
returns-then-not-has_value c =
    let v = c.args.list.now.items.now in
    sym (c.loop-e.invariant.0 ∙ supplied-not v _ _ c.loop-e.invariant.1 _ c.in-Some.e _ _ c.in-Some.ensures.steps _ c.seek-j.ensures _ c.has_value.ensures c.if-not-has_value.true)

pub loop-e-preserved : goal.loop-e-preserved
loop-e-preserved c =
    let v = c.args.list.now.items.now in (
      c.loop-e.invariant.0 ∙ supplied-go v _ _ c.loop-e.invariant.1 _ c.in-Some.e _ _ c.in-Some.ensures.steps _ c.seek-j.ensures _ c.has_value.ensures c.if-not-has_value.false,
      within-behind v _ _ c.loop-e.invariant.1 _ c.in-Some.e _ _ c.in-Some.ensures.steps _ c.seek-j.ensures _ c.has_value.ensures _ c.values_after-next.ensures.1,
    )

pub returns : goal.returns
returns c = sym (c.loop-e.invariant.0 ∙ supplied-end _ _ c.in-None.ensures.steps.0)
