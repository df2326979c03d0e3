-- A field of eleven bytes has room for any word, one of none has no place; between them the room is that of 2 w - 1 places.
use Rattle.std.proofs.Common.{sym, ◌∙◌, arith, le-leb}
use Rattle.packed.proofs.Writing.{fits-ample}
use Rattle.packed.proofs.fits.Goals as goal

pub returns-then-width-ge11 : goal.returns-then-width-ge11
returns-then-width-ge11 c = let h = c.if-width-ge11.true in le-leb 11 c.args.width h ∙ sym (fits-ample c.args.width c.args.size h (omega arith))
