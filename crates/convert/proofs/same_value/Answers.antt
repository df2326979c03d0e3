-- The first items by name and words, then their members: each way out is a law of Turns.
use mathlib.Core.Path.{refl, sym, ◌∙◌}
use Rattle.convert.proofs.Turns.{value_none, value-alone, value-named, value-item, value-members}
use Rattle.convert.proofs.same_value.Goals as goal

pub returns-then-i-to : goal.returns-then-i-to
returns-then-i-to c = value_none _ _ _ _ _ _ _ _ c.if-i-to.true

pub returns-then-j-end : goal.returns-then-j-end
returns-then-j-end c = value-alone _ _ _ _ _ _ _ _ _ _ refl refl c.if-i-to.false c.if-j-end.true

pub returns-then-x-y : goal.returns-then-x-y
returns-then-x-y c =
    let at-if1 = c.if-i-to in
    let at-if2 = c.if-j-end in
    let at-fetch = c.fetch-x in
    let at-fetch2 = c.fetch-y in
    value-named _ _ _ _ _ _ _ _ at-fetch.result at-fetch2.result _ _ at-fetch.ensures at-fetch2.ensures refl refl at-if1.false at-if2.false c.if-x-y.true

pub returns-then-not-same_item : goal.returns-then-not-same_item
returns-then-not-same_item c =
    let at-if1 = c.if-i-to in
    let at-if2 = c.if-j-end in
    let at-fetch = c.fetch-x in
    let at-fetch2 = c.fetch-y in
    let at-if3 = c.if-x-y in
    value-item _ _ _ _ _ _ _ _ at-fetch.result at-fetch2.result _ _ at-fetch.ensures at-fetch2.ensures refl refl at-if1.false at-if2.false at-if3.false (sym c.same_item.ensures ∙ c.if-not-same_item.true)

pub returns : goal.returns
returns c =
    let at-if1 = c.if-i-to in
    let at-if2 = c.if-j-end in
    let at-fetch = c.fetch-x in
    let at-fetch2 = c.fetch-y in
    let at-if3 = c.if-x-y in
    let at-same-item = c.same_item in
    let at-if4 = c.if-not-same_item in
    let at-item-end = c.item_end in
    c.same_all.ensures ∙ value-members _ _ _ _ _ _ _ _ at-fetch.result at-fetch2.result _ _ at-fetch.ensures at-fetch2.ensures at-item-end.ensures c.item_end-2.ensures at-if1.false at-if2.false at-if3.false (sym at-same-item.ensures ∙ at-if4.false)
