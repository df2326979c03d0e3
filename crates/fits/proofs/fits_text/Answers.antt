-- An untrimmed text is a slice of bytes, so that `untrimmed_fits` asks only for its length.
use Rattle.std.proofs.Common.{arith}
use Rattle.fits.specs.Decide.{text_fits}
use Rattle.fits.proofs.Steps.{untrimmed-long}
use Rattle.fits.proofs.fits_text.Goals as goal

pub returns-else-trim : goal.returns-else-trim
unfolding text_fits
returns-else-trim c =
    let a = c.args in
    rw c.if-trim.false (untrimmed-long a.width a.t.now (λ k h. omega (arith, c.type_inv.t k)))
