-- A size of 64 bits has no digit from place 20 on, and below it the divisor is a power of ten.
use Rattle.value.proofs.Digits.{pow-pos10}
use Rattle.edited.proofs.Turns.{ten-is, digit-past}
use Rattle.edited.proofs.digit_byte.Goals as goal

pub returns-then-place-ge20 : goal.returns-then-place-ge20
returns-then-place-ge20 c = digit-past c.args.size c.args.place c.ranges.size.fits c.if-place-ge20.true

pub nonzero_div-size : goal.nonzero_div-size
nonzero_div-size c = rw (ten-is c.args.place c.ten_to.result c.if-place-ge20.false c.ten_to.ensures) (pow-pos10 c.args.place)
