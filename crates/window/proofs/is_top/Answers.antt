-- `is_top` meets its contract: it asks each place of the level.
use Rattle.std.proofs.Common.{◌∙◌, sym, eqb, rules, tests}
use Rattle.std.proofs.lemmas.Iterator.Consumers.{YieldsList-from_first}
use Rattle.std.proofs.lemmas.Iterator.Search.{any_from_yields_List}
use Rattle.layout.specs.Level.{entries_left}
use Rattle.window.proofs.Places.{top_by_level}
use Rattle.window.proofs.is_top.Goals as goal

pub returns : goal.returns
returns c =
    let asked = any_from_yields_List (λ p. eqb p.0 c.args.number) _ _ c.any.result c.any.ensures.ran (YieldsList-from_first (λ p. p) entries_left _ c.level.ensures.entries) (λ p b q k. search (rules, tests)) in
    rw c.entry_count.ensures at asked ∙ sym (top_by_level _ _)
