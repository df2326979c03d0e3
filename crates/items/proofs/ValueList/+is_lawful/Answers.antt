-- `is_lawful` meets its contract: a law of Lawful for each way through the loop, at the item that the code has fetched.
use Rattle.std.proofs.Common.{refl, sym, ◌∙◌, ◌+◌, arith}
use Rattle.items.proofs.Lawful.{count-end, end_is, scalar-end, ok_end, ok-deep, ok-item, ok-inner, ok-next}
use Rattle.items.proofs.ValueList.+is_lawful.Goals as goal

pub returns-then-levels-eq0 : goal.returns-then-levels-eq0
returns-then-levels-eq0 t c = sym (c.loop-i.invariant ∙ ok-deep _ _ _ c.loop-i-test.true _ refl _ _ _ c.if-levels-eq0.true)

pub returns-then-not-is_lawful : goal.returns-then-not-is_lawful
returns-then-not-is_lawful t c =
    let end = scalar-end _ _ _ c.fetch-it.result c.fetch-it.ensures (sym c.has_members.ensures ∙ c.if-not-has_members.true) c.loop-i-test.true in
    let none_below = sym (count-end c.args.self.now.items.now (c.loop-i.i + 1) (c.loop-i.i + 1) (omega arith)) in
    let bad = sym c.is_lawful.ensures ∙ c.if-not-is_lawful.true in
    sym (c.loop-i.invariant ∙ ok-item _ _ _ c.loop-i-test.true _ end _ _ _ c.if-levels-eq0.false c.fetch-it.result c.fetch-it.ensures _ _ none_below (omega arith) bad)

pub loop-i-preserved-then-not-has_members : goal.loop-i-preserved-then-not-has_members
loop-i-preserved-then-not-has_members t c =
    let end = scalar-end _ _ _ c.fetch-it.result c.fetch-it.ensures (sym c.has_members.ensures ∙ c.if-not-has_members.true) c.loop-i-test.true in
    let none_below = sym (count-end c.args.self.now.items.now (c.loop-i.i + 1) (c.loop-i.i + 1) (omega arith)) in
    let own = sym c.is_lawful.ensures ∙ c.if-not-is_lawful.false in
    c.loop-i.invariant ∙ ok-next _ _ _ c.loop-i-test.true _ end _ _ _ c.if-levels-eq0.false c.fetch-it.result c.fetch-it.ensures _ _ none_below (omega arith) own _ refl (ok_end _ _ _ _ _ _ (omega arith))

pub returns-then-not-is_lawful-2 : goal.returns-then-not-is_lawful-2
returns-then-not-is_lawful-2 t c =
    let end = end_is _ _ _ c.fetch-it.result _ _ c.fetch-it.ensures c.span.ensures c.end_of-end.ensures in
    let bad = sym c.is_lawful-in-loop-i.ensures ∙ c.if-not-is_lawful-2.true in
    sym (c.loop-i.invariant ∙ ok-item _ _ _ c.loop-i-test.true _ end _ _ _ c.if-levels-eq0.false c.fetch-it.result c.fetch-it.ensures _ _ c.members-n.ensures refl bad)

pub loop-i-preserved-then-end-i : goal.loop-i-preserved-then-end-i
loop-i-preserved-then-end-i t c =
    let end = end_is _ _ _ c.fetch-it.result _ _ c.fetch-it.ensures c.span.ensures c.end_of-end.ensures in
    let own = sym c.is_lawful-in-loop-i.ensures ∙ c.if-not-is_lawful-2.false in
    c.loop-i.invariant ∙ ok-next _ _ _ c.loop-i-test.true _ end _ _ _ c.if-levels-eq0.false c.fetch-it.result c.fetch-it.ensures _ _ c.members-n.ensures refl own _ refl (ok_end _ _ _ _ _ _ (omega arith))

pub returns-then-not-is_lawful-3 : goal.returns-then-not-is_lawful-3
returns-then-not-is_lawful-3 t c =
    let end = end_is _ _ _ c.fetch-it.result _ _ c.fetch-it.ensures c.span.ensures c.end_of-end.ensures in
    let own = sym c.is_lawful-in-loop-i.ensures ∙ c.if-not-is_lawful-2.false in
    let bad = sym c.is_lawful-in-loop-i-2.ensures ∙ c.if-not-is_lawful-3.true in
    sym (c.loop-i.invariant ∙ ok-inner _ _ _ c.loop-i-test.true _ end _ _ _ c.if-levels-eq0.false c.fetch-it.result c.fetch-it.ensures _ _ c.members-n.ensures refl own _ c.is.ensures bad)

pub loop-i-preserved : goal.loop-i-preserved
loop-i-preserved t c =
    let end = end_is _ _ _ c.fetch-it.result _ _ c.fetch-it.ensures c.span.ensures c.end_of-end.ensures in
    let own = sym c.is_lawful-in-loop-i.ensures ∙ c.if-not-is_lawful-2.false in
    let members = sym c.is_lawful-in-loop-i-2.ensures ∙ c.if-not-is_lawful-3.false in
    c.loop-i.invariant ∙ ok-next _ _ _ c.loop-i-test.true _ end _ _ _ c.if-levels-eq0.false c.fetch-it.result c.fetch-it.ensures _ _ c.members-n.ensures refl own _ c.is.ensures members

pub returns : goal.returns
returns t c = sym (c.loop-i.invariant ∙ ok_end _ _ _ _ _ _ c.loop-i-test.false)
