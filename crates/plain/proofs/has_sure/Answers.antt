-- `has_sure` meets its contract: it asks each entry of the level.
use Rattle.std.proofs.Common.{sym, ◌∙◌, rules, tests}
use Rattle.std.proofs.lemmas.Iterator.Consumers.{YieldsList-from_first}
use Rattle.std.proofs.lemmas.Iterator.Search.{any_from_yields_List}
use Rattle.layout.specs.Layout.{unrepeated_leaf}
use Rattle.layout.specs.Level.{entries_left}
use Rattle.plain.proofs.Clauses.{sure-any}
use Rattle.plain.proofs.has_sure.Goals as goal

pub returns : goal.returns
returns c =
    let asked = any_from_yields_List (λ p. unrepeated_leaf p.1) _ _ c.any.result c.any.ensures.ran (YieldsList-from_first (λ p. p) entries_left _ c.level.ensures.entries) (λ p b q k. search (rules, tests)) in
    asked ∙ sym (sure-any _ _)
