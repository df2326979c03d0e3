-- What fits is what `write` leaves, by place and so as the encoded field (`written-fits`); else nothing is stored.
use Rattle.std.proofs.Common.{sym, ◌∙◌, rules}
use Rattle.packed.proofs.Writing.{written-fits, written-not}
use Rattle.packed.proofs.encode.Goals as goal

pub returns-then-not-fits-clause-value : goal.returns-then-not-fits-clause-value
returns-then-not-fits-clause-value c =
    let f = sym c.fits.ensures ∙ c.if-not-fits.true in
    (rw f, written-not _ _ _ _ f)

pub returns-clause-value : goal.returns-clause-value
returns-clause-value c =
    let f = sym c.fits.ensures ∙ c.if-not-fits.false in
    let p = rw c.sign_of.ensures.0 at c.write.ensures in
    (rw f, written-fits _ _ _ _ _ f (search rules) p)
