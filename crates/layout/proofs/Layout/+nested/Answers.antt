-- `nested` meets its contract: a law of spans for each way through the loop, at the entries that the code has loaded.
use Rattle.std.proofs.Common.{sym, ◌∙◌, arith}
use Rattle.layout.specs.Layout.{entry_at, span_of, is_group}
use Rattle.spans.proofs.Tree.{nested-end, nested-deep, nested-span, nested-inner, nested-next, nested-single}
use Rattle.layout.proofs.Layout.+nested.Goals as goal

pub returns-then-levels-eq0 : goal.returns-then-levels-eq0
returns-then-levels-eq0 t c =
    let at = entry_at c.args.self.now.words.now in
    sym (c.loop-i.invariant.same ∙ nested-deep at span_of is_group _ _ _ c.loop-i-test.true c.if-levels-eq0.true)

pub loop-i-preserved-then-e-eq1 : goal.loop-i-preserved-then-e-eq1
loop-i-preserved-then-e-eq1 t c =
    let at = entry_at c.args.self.now.words.now in
    let single = nested-single at span_of is_group _ _ _ c.loop-i-test.true c.load_inside-e.ensures c.if-e-eq1.true _ c.if-levels-eq0.false in
    record { from = omega arith; same = c.loop-i.invariant.same ∙ single }

pub returns-then-not-span_ok : goal.returns-then-not-span_ok
returns-then-not-span_ok t c =
    let at = entry_at c.args.self.now.words.now in
    let bad = rw c.is.ensures at (sym c.span_ok.ensures ∙ c.if-not-span_ok.true) in
    sym (c.loop-i.invariant.same ∙ nested-span at span_of is_group _ _ _ _ c.loop-i-test.true c.load_inside-e.ensures c.end_of-end.ensures _ c.if-levels-eq0.false bad)

pub returns-then-not-nested : goal.returns-then-not-nested
returns-then-not-nested t c =
    let at = entry_at c.args.self.now.words.now in
    let own = rw c.is.ensures at (sym c.span_ok.ensures ∙ c.if-not-span_ok.false) in
    let bad = sym c.nested.ensures ∙ c.if-not-nested.true in
    sym (c.loop-i.invariant.same ∙ nested-inner at span_of is_group _ _ _ _ c.loop-i-test.true c.load_inside-e.ensures c.end_of-end.ensures _ c.if-levels-eq0.false own bad)

pub loop-i-preserved : goal.loop-i-preserved
loop-i-preserved t c =
    let at = entry_at c.args.self.now.words.now in
    let own = rw c.is.ensures at (sym c.span_ok.ensures ∙ c.if-not-span_ok.false) in
    let members = sym c.nested.ensures ∙ c.if-not-nested.false in
    let turn = nested-next at span_of is_group _ _ _ _ c.loop-i-test.true c.load_inside-e.ensures c.end_of-end.ensures _ c.if-levels-eq0.false own members in
    record { from = omega arith; same = c.loop-i.invariant.same ∙ turn }

pub returns : goal.returns
returns t c = sym (c.loop-i.invariant.same ∙ nested-end (entry_at c.args.self.now.words.now) span_of is_group _ _ _ c.loop-i-test.false)
