-- A cell that differs from the value at its place decides (`holds_not`), and one that does not leaves the rest to ask (`holds-go`).
use Rattle.std.proofs.Common.{◌≡◌, map, get_or, sym, ap, ◌∙◌}
use Rattle.std.proofs.lemmas.List.{length-map, get_or-map}
use Rattle.testing.proofs.Laws.{holds-start, holds-go, holds_not}
use Rattle.testing.proofs.holds.Goals as goal

pub loop-i-init : goal.loop-i-init
loop-i-init g c = holds-start (map g.T.Cell.number c.args.buffer.now) (map g.V.Cell.number c.args.values.now)

pub returns-then-number-number_at : goal.returns-then-number-number_at
returns-then-number-number_at g c =
    let b = c.args.buffer.now in
    let v = c.args.values.now in
    let i = c.loop-i.i in
    let cell : get_or (map g.T.Cell.number b) i 0 ≡ c.number.result = get_or-map g.T.Cell.number b i _ 0 c.loop-i-test.true ∙ ap g.T.Cell.number (sym c.index-buffer-i.is) ∙ sym c.number.ensures in
    holds_not (map g.T.Cell.number b) (map g.V.Cell.number v) i _ c.number_at.ensures (λ q. c.if-number-number_at.true (sym cell ∙ q)) (rw length-map c.loop-i-test.true)

pub loop-i-preserved : goal.loop-i-preserved
loop-i-preserved g c =
    let b = c.args.buffer.now in
    let v = c.args.values.now in
    let i = c.loop-i.i in
    let cell : get_or (map g.T.Cell.number b) i 0 ≡ c.number.result = get_or-map g.T.Cell.number b i _ 0 c.loop-i-test.true ∙ ap g.T.Cell.number (sym c.index-buffer-i.is) ∙ sym c.number.ensures in
    holds-go (map g.T.Cell.number b) (map g.V.Cell.number v) i _ c.number_at.ensures (cell ∙ c.if-number-number_at.false) c.loop-i.invariant
