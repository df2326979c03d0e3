-- A float that differs from itself is a NaN, which is kept by its bits.
use Rattle.std.proofs.Common.{sym, ◌∙◌}
use Rattle.fits.proofs.Steps.{float-stop}
use Rattle.fits.proofs.float_fits.Goals as goal
use Rattle.fits.proofs.float_fits.Goals.{then-is, else-is}

pub returns-else-x : goal.returns-else-x
returns-else-x c =
    let a = c.args in
    elim c.if-is.branch [
      | then-is w ↦
          rw (← c.is.ensures, w.if-is.true)
          (c.if-x.false ∙ float-stop a.bits a.width a.x c.well_formed.1.1.1.0.1 (sym w.value-is ∙ c.if-x.false))
      | else-is w ↦ rw (← c.is.ensures, w.if-is.false) c.if-x.false
    ]
