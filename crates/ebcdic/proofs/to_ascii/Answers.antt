-- `ebcdic::to_ascii` meets its contract: the code's table is the definition's, entry by entry.
use mathlib.Core.Path.{refl}
use Rattle.ebcdic.specs.Ebcdic.{to_ascii, ascii_table}
use Rattle.ebcdic.proofs.to_ascii.Goals as goal

pub returns : goal.returns
unfolding to_ascii ascii_table
returns c = refl
