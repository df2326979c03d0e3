-- A number by the reader of this line (`number_is`).
use Rattle.std.proofs.Common.{◌∙◌, rules}
use Rattle.lines.specs.Lines.{number_of}
use Rattle.layout_text.proofs.Answering.{number_is}
use Rattle.layout_text.proofs.number_line.Goals as goal

pub returns : goal.returns
returns c = c.number_by.ensures number_of (λ s r k. search rules) ∙ number_is c.args.word.now c.args.text.now c.args.at
