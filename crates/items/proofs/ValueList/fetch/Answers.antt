-- `fetch` meets its contract: inside the sequence the item at i is its head, past it there is none.
use Rattle.std.proofs.Common.{◌∙◌}
use Rattle.items.proofs.Items.{head_in, head-out}
use Rattle.items.proofs.ValueList.fetch.Goals as goal

pub returns-then-i-to : goal.returns-then-i-to
returns-then-i-to c = c.item_at.ensures ∙ head_in _ _ _ c.if-i-to.true

pub returns-else-i-to : goal.returns-else-i-to
returns-else-i-to c = c.of_scalar.ensures ∙ head-out _ _ _ c.if-i-to.false
