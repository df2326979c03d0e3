-- A NaN's pattern is above the infinity's.
use Rattle.std.proofs.Common.{sym}
use lib.Ieee.{binary32}
use lib.Ieee.Bits.{nan_bits_above}
use Rattle.float.proofs.is_single_nan.Goals as goal

pub returns : goal.returns
returns c = sym (nan_bits_above binary32 c.args.v)
