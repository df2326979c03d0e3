-- From half of 256^n on, a number less half is as far above half as its size is below it.
use Rattle.std.proofs.Common.{◌∙◌}
use Rattle.binary.proofs.Integers.{from-half}
use Rattle.binary.proofs.signed_word.Goals as goal

pub returns-else-v-half : goal.returns-else-v-half
returns-else-v-half c =
    c.signed_size-else-v-half.ensures ∙ from-half c.args.n c.args.v c.half_of-half.result c.requires.0 c.half_of-half.ensures c.requires.1 c.if-v-half.false
