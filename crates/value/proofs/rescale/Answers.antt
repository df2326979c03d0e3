-- An equal scale leaves the size, and the two others multiply or round it.
use Rattle.std.proofs.Common.{ℕ, sym, ap, ◌∙◌, arith}
use Rattle.value.specs.Number.{amount_of}
use Rattle.value.specs.Rounding.{rescaled}
use Rattle.value.proofs.Rounding.{scale_same, scale-down, scale-up}
use Rattle.value.proofs.rescale.Goals as goal

pub returns-then-from-to : goal.returns-then-from-to
returns-then-from-to c =
    let a = c.args in
    c.amount_of.ensures ∙ ap (amount_of a.negative) (sym (scale_same a.from a.size) ∙ ap (λ (k : ℕ). rescaled a.from k a.size) c.if-from-to.true)

pub returns-then-from-to-2 : goal.returns-then-from-to-2
returns-then-from-to-2 c =
    let a = c.args in c.scale_up.ensures ∙ ap (amount_of a.negative) (scale-up a.from a.to a.size c.if-from-to-2.true)

pub returns-else-from-to-2 : goal.returns-else-from-to-2
returns-else-from-to-2 c =
    let a = c.args in
    c.amount_of-else-from-to-2.ensures ∙ ap (amount_of a.negative) (c.rounded.ensures ∙ scale-down a.from a.to a.size (omega arith))
