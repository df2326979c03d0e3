-- Far apart only 0 is 0; else a rest shows that there is no such size, and without one the quotient decides.
use mathlib.Core.Path.{◌∙◌}
use Rattle.std.proofs.Common.{ne_eqb}
use native.Mathlib.Omega.{arith}
use Rattle.value.proofs.Digits.{pow-pos10}
use Rattle.value.proofs.Word.{power-is}
use Rattle.convert.proofs.Laws.{scaled-far, scaled-part, scaled-whole}
use borrow.Author.Rules.{rules}
use Rattle.convert.proofs.is_scaled.Goals as goal

pub returns-else-little-eq0 : goal.returns-else-little-eq0
returns-else-little-eq0 c = ne_eqb c.args.little 0 c.if-little-eq0.false ∙ scaled-far _ _ _ (search rules) c.if-d-gt19.true c.if-little-eq0.false

pub nonzero_rem-big : goal.nonzero_rem-big
nonzero_rem-big c =
    let d = c.args.d in
    omega (arith, c.ten_to-p.ensures, power-is d (omega arith), pow-pos10 d)

pub nonzero_div-result : goal.nonzero_div-result
nonzero_div-result c =
    let d = c.args.d in
    omega (arith, c.ten_to-p.ensures, power-is d (omega arith), pow-pos10 d)

pub returns-then-big-p-eq0 : goal.returns-then-big-p-eq0
returns-then-big-p-eq0 c = scaled-whole _ _ _ _ (c.ten_to-p.ensures ∙ power-is c.args.d (omega arith)) c.if-big-p-eq0.true

pub returns-else-big-p-eq0 : goal.returns-else-big-p-eq0
returns-else-big-p-eq0 c = ne_eqb _ 0 c.if-big-p-eq0.false ∙ scaled-part _ _ _ _ (c.ten_to-p.ensures ∙ power-is c.args.d (omega arith)) c.if-big-p-eq0.false
