-- One turn of the loop is one unfolding of the definition; the measure is what is left of the first sequence, which every inner one is shorter than.
-- The loop keeps that the two whole sequences are the same exactly if what is left of both is; each way out is one law of Turns.antt about where it leaves the loop.
-- The measure of a call is to - i, how many items its first sequence has with all their members; a call inside another must have less.
use mathlib.Core.Path.{refl, sym, ◌∙◌}
use native.Mathlib.Omega.{arith}
use Rattle.convert.proofs.Turns.{all-done, all-longer, all_named, all-item, all-inner, all-next}
use Rattle.convert.proofs.+same_all.Goals as goal

pub loop-p-init : goal.loop-p-init
loop-p-init t c = (omega arith, refl)

pub returns-then-q-end : goal.returns-then-q-end
returns-then-q-end t c =
    let at-loop = c.loop-p in
    sym (at-loop.invariant.1 ∙ all-longer _ _ _ _ _ _ _ _ _ _ refl refl c.loop-p-test.true c.if-q-end.true)

pub returns-then-x-y : goal.returns-then-x-y
returns-then-x-y t c =
    let at-loop = c.loop-p in
    let at-loop-test = c.loop-p-test in
    let at-if1 = c.if-q-end in
    let at-fetch = c.fetch-x in
    let at-fetch2 = c.fetch-y in
    sym (at-loop.invariant.1 ∙ all_named _ _ _ _ _ _ _ _ at-fetch.result at-fetch2.result _ _ at-fetch.ensures at-fetch2.ensures refl refl at-loop-test.true at-if1.false c.if-x-y.true)

pub returns-then-not-same_item : goal.returns-then-not-same_item
returns-then-not-same_item t c =
    let at-loop = c.loop-p in
    let at-loop-test = c.loop-p-test in
    let at-if1 = c.if-q-end in
    let at-fetch = c.fetch-x in
    let at-fetch2 = c.fetch-y in
    let at-if2 = c.if-x-y in
    sym (at-loop.invariant.1 ∙ all-item _ _ _ _ _ _ _ _ at-fetch.result at-fetch2.result _ _ at-fetch.ensures at-fetch2.ensures refl refl at-loop-test.true at-if1.false at-if2.false (sym c.same_item.ensures ∙ c.if-not-same_item.true))

pub returns-then-not-same_all : goal.returns-then-not-same_all
returns-then-not-same_all t c =
    let at-loop = c.loop-p in
    let at-loop-test = c.loop-p-test in
    let at-if1 = c.if-q-end in
    let at-fetch = c.fetch-x in
    let at-fetch2 = c.fetch-y in
    let at-if2 = c.if-x-y in
    let at-same-item = c.same_item in
    let at-if3 = c.if-not-same_item in
    let at-item-end = c.item_end-pe in
    let at-item-end2 = c.item_end-qe in
    sym (at-loop.invariant.1 ∙ all-inner _ _ _ _ _ _ _ _ at-fetch.result at-fetch2.result _ _ at-fetch.ensures at-fetch2.ensures at-item-end.ensures at-item-end2.ensures at-loop-test.true at-if1.false at-if2.false (sym at-same-item.ensures ∙ at-if3.false) (sym c.same_all.ensures ∙ c.if-not-same_all.true))

pub loop-p-preserved : goal.loop-p-preserved
loop-p-preserved t c =
    let at-loop = c.loop-p in
    let at-loop-test = c.loop-p-test in
    let at-if1 = c.if-q-end in
    let at-fetch = c.fetch-x in
    let at-fetch2 = c.fetch-y in
    let at-if2 = c.if-x-y in
    let at-same-item = c.same_item in
    let at-if3 = c.if-not-same_item in
    let at-item-end = c.item_end-pe in
    let at-item-end2 = c.item_end-qe in
    (omega arith, at-loop.invariant.1 ∙ all-next _ _ _ _ _ _ _ _ at-fetch.result at-fetch2.result _ _ at-fetch.ensures at-fetch2.ensures at-item-end.ensures at-item-end2.ensures at-loop-test.true at-if1.false at-if2.false (sym at-same-item.ensures ∙ at-if3.false) (sym c.same_all.ensures ∙ c.if-not-same_all.false))

pub returns : goal.returns
returns t c = sym (c.loop-p.invariant.1 ∙ all-done _ _ _ _ _ _ _ _ c.loop-p-test.false)
