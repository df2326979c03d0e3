-- `value::is_nan` meets its contract: the pattern without its sign is compared with that of infinity (`nan_bits_above`).
use Rattle.std.proofs.Common.{sym}
use lib.Ieee.{binary64}
use lib.Ieee.Bits.{nan_bits_above}
use Rattle.value.proofs.is_nan.Goals as goal

pub returns : goal.returns
returns c = sym (nan_bits_above binary64 c.args.w)
