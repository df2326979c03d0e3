-- Only a trimmed and right-justified text starts behind the pads that `pad_start` counts.
use Rattle.text_field.proofs.Parts.{padded-start}
use Rattle.text_field.proofs.start_in.Goals as goal

pub returns : goal.returns
returns c =
    let a = c.args in
    padded-start a.e a.at c.flag.result c.flag.ensures c.if-not-flag.false c.flag-else-not-flag.result c.flag-else-not-flag.ensures c.if-not-flag-2.false
    c.low_byte-pad.result c.low_byte-pad.ensures c.requires.1 c.pad_start.result c.field-part.result.now _ c.field-part.ensures.result_value c.pad_start.ensures.0
