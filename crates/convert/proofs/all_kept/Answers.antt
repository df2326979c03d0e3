-- The loop keeps the test over the whole list equal to that over what is left of it: `kept_goes`, `kept-stops`, `kept-end`.
use mathlib.Core.Path.{refl, sym, ◌∙◌}
use Rattle.convert.proofs.Turns.{kept-end, kept-stops, kept_goes}
use Rattle.convert.proofs.all_kept.Goals as goal

pub loop-q-init : goal.loop-q-init
loop-q-init c = rw (c.item_count-to.ensures, c.item_count-end.ensures) refl

pub returns-then-not-same_value : goal.returns-then-not-same_value
returns-then-not-same_value c =
    let at-loop = c.loop-q in
    let at-loop-test = c.loop-q-test in
    let at-fetch = c.fetch-y in
    let at-find = c.find-p in
    sym (at-loop.invariant ∙ kept-stops _ _ _ _ _ _ at-fetch.result at-fetch.ensures at-loop-test.true _ at-find.ensures.found (sym c.same_value.ensures ∙ c.if-not-same_value.true))

pub loop-q-preserved : goal.loop-q-preserved
loop-q-preserved c =
    let at-loop = c.loop-q in
    let at-loop-test = c.loop-q-test in
    let at-fetch = c.fetch-y in
    let at-find = c.find-p in
    let at-same-value = c.same_value in
    at-loop.invariant ∙ kept_goes _ _ _ _ _ _ at-fetch.result at-fetch.ensures at-loop-test.true _ at-find.ensures.found (sym at-same-value.ensures ∙ c.if-not-same_value.false) _ c.item_end-q.ensures

pub returns : goal.returns
returns c = sym (c.loop-q.invariant ∙ kept-end _ _ _ _ _ _ c.loop-q-test.false)
