use Rattle.value.proofs.Items.{not-nan, is-nan}
use Rattle.value.proofs.float_word.Goals as goal

pub float_to_bits-result : goal.float_to_bits-result
float_to_bits-result c = not-nan c.args.x c.if-x.true

pub returns : goal.returns
returns c = is-nan c.args.x c.if-x.false
