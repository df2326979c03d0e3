-- The text is judged as it stands: page 0 has each byte as it is.
use Rattle.std.proofs.Common.{ap, ◌∙◌}
use Rattle.display.specs.Display.{or_refused, whole_of}
use Rattle.numerals.specs.Numerals.{trimmed}
use Rattle.ebcdic.proofs.Laws.{page-zero}
use Rattle.display.proofs.text_whole.Goals as goal

pub returns : goal.returns
returns c =
    c.or_refused.ensures ∙ ap or_refused (c.whole_of.ensures ∙ ap whole_of (c.trim.ensures.result_value ∙ ap trimmed (page-zero c.args.text.now)))
