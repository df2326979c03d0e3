-- A number by the reader of this line (`option_is`).
use Rattle.std.proofs.Common.{◌∙◌, rules}
use Rattle.layout_text.specs.Walk.{option_of}
use Rattle.layout_text.proofs.Answering.{option_is}
use Rattle.layout_text.proofs.option_line.Goals as goal

pub returns : goal.returns
returns c = c.number_by.ensures option_of (λ s r k. search rules) ∙ option_is c.args.word.now c.args.text.now c.args.at
