-- A field whose size is to be below 10^18 is read within that bound.
use Rattle.zoned.specs.Zoned.{decode_of}
use Rattle.zoned.proofs.decode.Goals as goal

pub returns : goal.returns
unfolding decode_of
returns c = c.decode_within.ensures
