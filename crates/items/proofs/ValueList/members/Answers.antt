-- `members` meets its contract: a sequence has as many items at its own level as its level has.
use Rattle.std.proofs.Common.{sym, ◌∙◌}
use Rattle.std.proofs.lemmas.Iterator.Consumers.{YieldsList-from_first, count_from_yields_List}
use Rattle.items.specs.Level.{items_left}
use Rattle.items.proofs.Lawful.{count_by_level}
use Rattle.items.proofs.ValueList.members.Goals as goal

pub returns : goal.returns
returns c =
    count_from_yields_List _ c.count.result c.count.ensures.ran (YieldsList-from_first (λ p. p) items_left _ c.level.ensures.items)
    ∙ sym (count_by_level _ _ _)
