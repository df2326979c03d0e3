use Rattle.std.proofs.Common.{ℕ, ◌^◌, ◌<◌, subst, ne_eqb}
use Rattle.float.specs.Field.{word_for}
use Rattle.float.proofs.word_for.Goals as goal

pub half_word-requires : goal.half_word-requires
half_word-requires c = subst (λ (k : ℕ). c.args.v < 2 ^ k) c.in-16.is c.requires

pub wide_word-requires : goal.wide_word-requires
wide_word-requires c = subst (λ (k : ℕ). c.args.v < 2 ^ k) c.in-32.is c.requires

pub returns-in-16 : goal.returns-in-16
unfolding word_for
returns-in-16 c = rw c.in-16.is c.half_word.ensures

pub returns-in-32 : goal.returns-in-32
unfolding word_for
returns-in-32 c = rw c.in-32.is c.wide_word.ensures

pub returns-in_default : goal.returns-in_default
unfolding word_for
returns-in_default c = rw (ne_eqb _ _ c.in_default.in_default-own.rest.0.1, ne_eqb _ _ c.in_default.in_default-own.rest.1)
