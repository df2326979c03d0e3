-- `find` meets its contract: it asks each item of the level, and a suffix stands at its place (`found-there`).
use Rattle.std.proofs.Common.{◌≡◌, ℕ, Option, None, Some, MatchOption, ap, sym, ◌∙◌, eqb, rules, tests}
use Rattle.std.proofs.lemmas.Iterator.Consumers.{YieldsList-from_first}
use Rattle.std.proofs.lemmas.Iterator.Search.{find_from_yields_List}
use Rattle.std.specs.Option.{option_map, option_map_or}
use Rattle.items.specs.declared.Item.{Item}
use Rattle.items.specs.Level.{items_left}
use Rattle.items.specs.Items.{values}
use Rattle.items.proofs.Items.{found-there, place-by-level}
use Rattle.items.proofs.ValueList.find.Goals as goal

chosen : (r o : Option (ℕ × Item)) (n to : ℕ) → option_map (λ p. p) r ≡ o → MatchOption r (n ≡ to) (λ p. n ≡ p.0) → n ≡ option_map_or (λ p. p.0) o to
chosen None o n to e h = h ∙ ap (λ x. option_map_or (λ p. p.0) x to) e
chosen (Some p) o n to e h = h ∙ ap (λ x. option_map_or (λ p. p.0) x to) e

pub returns-clause-place : goal.returns-clause-place
returns-clause-place c =
    let a = c.args in
    let asked = find_from_yields_List (λ p. eqb p.1.name a.name) _ _ c.find.result c.find.ensures.ran (YieldsList-from_first (λ p. p) items_left _ c.level.ensures.items) (λ p b q k. search (rules, tests)) in
    chosen c.find.result _ c.map_or.result a.to asked (search rules) ∙ place-by-level a.self.now.items.now a.name a.to a.from

pub returns-clause-found : goal.returns-clause-found
returns-clause-found c =
    let a = c.args in
    found-there a.self.now.items.now a.name a.to a.from ∙ ap (λ r. values a.self.now.items.now r a.to) (sym (returns-clause-place c))
