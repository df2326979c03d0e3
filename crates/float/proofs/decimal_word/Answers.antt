use Rattle.std.proofs.Common.{ap, ◌∙◌, le-ltb, lt-ltb}
use lib.Ieee.{binary64, to_bits}
use Rattle.value.specs.Answer.{given}
use Rattle.float.proofs.decimal_word.Goals as goal

pub returns-then-scale-gt18 : goal.returns-then-scale-gt18
returns-then-scale-gt18 c = rw (lt-ltb _ _ c.if-scale-gt18.true)

pub returns : goal.returns
returns c =
    rw (le-ltb _ _ c.if-scale-gt18.false) (ap given (c.float_word.ensures ∙ ap (to_bits binary64) c.of_decimal.ensures))
