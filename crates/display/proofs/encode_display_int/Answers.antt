-- What fits is written by the place of its sign; else nothing is stored.
use Rattle.std.proofs.Common.{◌-◌, sym, ap, ◌∙◌, length, take, drop, arith}
use Rattle.ebcdic.specs.Ebcdic.{onto_page}
use Rattle.display.proofs.Writing.{lead-separate, trail-separate, separate-width, encode-not, encode-first, encode-last, encode-plain}
use Rattle.numerals.proofs.Writing.{text-length, last-left, last-piece, last-all}
use Rattle.display.proofs.encode_display_int.Goals as goal

pub returns-then-not-fits_int-clause-part_after : goal.returns-then-not-fits_int-clause-part_after
returns-then-not-fits_int-clause-part_after c =
    let a = c.args in encode-not a.page a.n.negative a.n.size a.signed a.sign a.part.now (sym c.fits_int.ensures ∙ c.if-not-fits_int.true)

pub bounds-part-0 : goal.bounds-part-0
bounds-part-0 c =
    let a = c.args in
    let k = separate-width (length a.part.now) a.n.negative a.n.size a.signed a.sign (lead-separate a.sign c.in-2.is) (sym c.fits_int.ensures ∙ c.if-not-fits_int.false) in
    let l = ap length c.zero_pad.ensures ∙ text-length (onto_page a.page) (length a.part.now) a.n.size in
    omega arith

pub returns-in-2-clause-part_after : goal.returns-in-2-clause-part_after
returns-in-2-clause-part_after c =
    let a = c.args in
    let f = sym c.fits_int.ensures ∙ c.if-not-fits_int.false in
    encode-first a.page a.n.negative a.n.size a.signed a.sign a.part.now f c.zero_pad.new.part c.sign_on.result c.in-2.is c.zero_pad.ensures c.sign_on.ensures

pub overflow_sub-last : goal.overflow_sub-last
overflow_sub-last c =
    let a = c.args in
    let k = separate-width (length a.part.now) a.n.negative a.n.size a.signed a.sign (trail-separate a.sign c.in-3.is) (sym c.fits_int.ensures ∙ c.if-not-fits_int.false) in
    omega arith

pub bounds-part-last : goal.bounds-part-last
bounds-part-last c =
    let a = c.args in
    let z = c.zero_pad-in-3 in
    let k = separate-width (length a.part.now) a.n.negative a.n.size a.signed a.sign (trail-separate a.sign c.in-3.is) (sym c.fits_int.ensures ∙ c.if-not-fits_int.false) in
    last-all a.part.now z.new.part (omega arith) (ap length z.ensures ∙ text-length (onto_page a.page) (length (take (length a.part.now - 1) a.part.now)) a.n.size)

pub returns-in-3-clause-part_after : goal.returns-in-3-clause-part_after
returns-in-3-clause-part_after c =
    let a = c.args in
    let z = c.zero_pad-in-3 in
    let f = sym c.fits_int.ensures ∙ c.if-not-fits_int.false in
    let k = separate-width (length a.part.now) a.n.negative a.n.size a.signed a.sign (trail-separate a.sign c.in-3.is) f in
    encode-last a.page a.n.negative a.n.size a.signed a.sign a.part.now f z.new.part (drop (length a.part.now - 1) a.part.now) c.sign_on-in-3.result c.in-3.is
    (last-piece (onto_page a.page) a.part.now z.new.part a.n.size z.ensures) (last-left a.part.now (omega arith)) c.sign_on-in-3.ensures

pub returns-in_default-clause-part_after : goal.returns-in_default-clause-part_after
returns-in_default-clause-part_after c =
    let a = c.args in
    let f = sym c.fits_int.ensures ∙ c.if-not-fits_int.false in
    encode-plain a.page a.n.negative a.n.size a.signed a.sign a.part.now f c.zero_pad-in_default.new.part (λ e. omega (arith, e)) (λ e. omega (arith, e)) c.zero_pad-in_default.ensures
