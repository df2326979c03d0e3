-- judge lets a number without a minus pass exactly where the mask is lawful and has the places.
use Rattle.std.proofs.Common.{ap, not, ◌∙◌}
use Rattle.codes.proofs.Refusals.{refused, accepted}
use Rattle.fits.proofs.Steps.{mask-go, mask-stop}
use Rattle.fits.proofs.mask_fits.Goals as goal

pub returns-then-is_ok : goal.returns-then-is_ok
returns-then-is_ok c =
    let a = c.args in
    let passed = accepted c.judge.result (c.is_ok.ensures.negation ∙ ap not c.if-is_ok.true) in
    mask-go a.size _ a.mask.now c.judge.ensures passed _ c.count_of.ensures

pub returns-else-is_ok : goal.returns-else-is_ok
returns-else-is_ok c =
    let a = c.args in
    let number = refused c.judge.result (c.is_ok.ensures.negation ∙ ap not c.if-is_ok.false) in
    c.if-is_ok.false ∙ mask-stop a.size _ a.mask.now c.judge.ensures number
