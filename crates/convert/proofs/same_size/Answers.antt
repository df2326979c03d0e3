-- The size of the smaller scale against the other: `size_low`, `size-high`.
use mathlib.Core.Path.{◌∙◌}
use native.Mathlib.Omega.{arith}
use Rattle.convert.proofs.Laws.{size_low, size-high}
use Rattle.convert.proofs.same_size.Goals as goal

pub returns-then-k-m : goal.returns-then-k-m
returns-then-k-m c = c.is_scaled.ensures ∙ size_low _ _ _ _ c.if-k-m.true

pub returns-else-k-m : goal.returns-else-k-m
returns-else-k-m c =
    let at-args = c.args in
    c.is_scaled-else-k-m.ensures ∙ size-high at-args.x at-args.k at-args.y at-args.m (omega arith)
