-- A size is compared with half of 256^width, which the table holds for each lawful width.
use Rattle.std.proofs.Common.{◌/◌, ap, ◌∙◌, ltb}
use Rattle.binary.proofs.Integers.{half-known}
use Rattle.fits.proofs.Steps.{range-plus, range-unsigned}
use Rattle.fits.proofs.in_range.Goals as goal

pub returns-in-true-false : goal.returns-in-true-false
returns-in-true-false c =
    let a = c.args in
    let half = c.half_of-half.ensures ∙ half-known a.width c.requires in
    rw (c.in-true-false.is-0, c.in-true-false.is-1) (ap (ltb a.n.size) half ∙ range-plus a.width c.requires a.n.size)

pub returns-then-n-lt-INT_LIMIT : goal.returns-then-n-lt-INT_LIMIT
returns-then-n-lt-INT_LIMIT c =
    let a = c.args in
    let half = c.half_of-half.ensures ∙ half-known a.width c.requires in
    rw (c.in-false-false.is-0, c.in-false-false.is-1) (ap (ltb (a.n.size / 2)) half ∙ range-unsigned a.width c.requires a.n.size c.if-n-lt-INT_LIMIT.true)
