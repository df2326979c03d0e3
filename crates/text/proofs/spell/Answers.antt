use mathlib.Core.Path.{◌∙◌}
use lib.ListN.{length}
use Rattle.value.specs.Digits.{digit_text}
use Rattle.text.proofs.Write.{ascii-page}
use Rattle.text.proofs.spell.Goals as goal

pub returns : goal.returns
returns c = c.zero_pad.ensures ∙ ascii-page (digit_text (length c.args.part.now) c.args.v)
