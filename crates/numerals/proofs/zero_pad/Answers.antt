-- A turn writes the units of the rest at the next place to the left (`written-more`).
use Rattle.std.proofs.Common.{length, arith}
use Rattle.ebcdic.specs.Ebcdic.{onto_page}
use Rattle.numerals.proofs.Writing.{written-more}
use Rattle.numerals.proofs.zero_pad.Goals as goal

pub loop-i-preserved : goal.loop-i-preserved
loop-i-preserved c =
    let a = c.args in
    let l = c.loop-i in
    written-more (onto_page a.page) l.part (length a.part.now) a.size l.i l.rest c.digit_on.result c.drop_digit-rest.result
    (omega arith) (omega arith) l.auto.part l.invariant (rw c.last_digit.ensures.0 at c.digit_on.ensures) c.drop_digit-rest.ensures
