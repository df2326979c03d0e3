-- `ebcdic::to_ebcdic` meets its contract: the code's table is the definition's, entry by entry.
use mathlib.Core.Path.{refl}
use Rattle.ebcdic.specs.Ebcdic.{to_ebcdic, ebcdic_table}
use Rattle.ebcdic.proofs.to_ebcdic.Goals as goal

pub returns : goal.returns
unfolding to_ebcdic ebcdic_table
returns c = refl
