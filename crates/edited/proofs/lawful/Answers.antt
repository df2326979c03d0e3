-- The mask is lawful where what is left of it is, behind the byte before.
use Rattle.std.proofs.Common.{sym, ◌∙◌, ne_eqb, eq-eqb}
use Rattle.edited.proofs.Turns.{lawful-go, lawful-stop, lawful-end}
use Rattle.edited.proofs.lawful.Goals as goal

pub loop-c-preserved : goal.loop-c-preserved
loop-c-preserved c = c.loop-c.invariant ∙ lawful-go _ _ _ c.loop-c-test.true (sym c.may_follow.ensures ∙ c.if-not-may_follow.false)

pub returns-then-not-may_follow : goal.returns-then-not-may_follow
returns-then-not-may_follow c = sym (c.loop-c.invariant ∙ lawful-stop _ _ _ c.loop-c-test.true (sym c.may_follow.ensures ∙ c.if-not-may_follow.true))

pub returns-then-prev-ne67 : goal.returns-then-prev-ne67
returns-then-prev-ne67 c = sym (c.loop-c.invariant ∙ lawful-end _ _ _ c.loop-c-test.false ∙ rw (ne_eqb c.loop-c.prev 67 c.if-prev-ne67.true))

pub returns-else-prev-ne67 : goal.returns-else-prev-ne67
returns-else-prev-ne67 c = sym (c.loop-c.invariant ∙ lawful-end _ _ _ c.loop-c-test.false ∙ rw (eq-eqb c.loop-c.prev 67 c.if-prev-ne67.false))
