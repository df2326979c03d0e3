-- 19 of either value, or what both contribute pushed: `taken-small`; a lawful window's display word is at most the scale.
use Rattle.std.proofs.Common.{sym, ◌∙◌}
use Rattle.window.proofs.Laws.{lawful-shown}
use Rattle.window.proofs.Signs.{back}
use Rattle.window.proofs.Parts.{taken-small}
use Rattle.window.proofs.take_pair.Goals as goal

pub contribution-requires : goal.contribution-requires
contribution-requires c = lawful-shown _ _ _ c.requires.1.1.1

pub returns : goal.returns
returns c =
    let need = c.requires in
    taken-small _ _ _ _ need.0 need.1.0 need.1.1.0 need.1.1.1 (sym c.is_small.ensures ∙ c.if-not-is_small.false) _ c.contribution.ensures _ c.push.ensures _ _
    (back c.int_of.result c.int_of.type_inv ∙ c.int_of.ensures) (back c.int_of-2.result c.int_of-2.type_inv ∙ c.int_of-2.ensures)
