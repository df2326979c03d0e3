-- The digits above the units go in front of the last byte, and then the last byte is stored (`written`).
use Rattle.std.proofs.Common.{◌≡◌, true, sym, ◌∙◌, length, refl}
use Rattle.zoned.specs.Zoned.{fits_of}
use Rattle.value.proofs.Room.{room-some}
use Rattle.zoned.proofs.Writing.{written}
use Rattle.zoned.proofs.encode.Goals as goal

pub returns-clause-part_after : goal.returns-clause-part_after
returns-clause-part_after c =
    let a = c.args in
    let t : fits_of (length a.part.now) a.n.size ≡ true = sym c.fits.ensures ∙ c.if-not-fits.false in
    rw t
    (written a.page a.part.now c.zero_pad.new.part a.n.size c.last_digit.result a.n.negative a.signed c.onto_page.result c.last_byte-b.result
    (room-some (length a.part.now) a.n.size t) (c.zero_pad.ensures ∙ rw c.drop_digit.ensures refl) c.last_digit.ensures.0 c.last_byte-b.ensures c.onto_page.ensures)
