-- `float::pattern_for` meets its contract: `round` and `to_bits` at binary32 are the narrow format of 24 digits (`single-narrowed`), and at any other number both tests of `pattern_for` fail.
use Rattle.std.proofs.Common.{sym, ◌∙◌, ne_eqb}
use lib.Ieee.{binary64, of_bits}
use Rattle.float.proofs.Narrow.{single-narrowed}
use Rattle.float.specs.Field.{pattern_for}
use Rattle.float.proofs.pattern_for.Goals as goal

pub returns-in-16 : goal.returns-in-16
unfolding pattern_for
returns-in-16 c = rw c.in-16.is c.narrow_word.ensures

pub returns-in-32 : goal.returns-in-32
unfolding pattern_for
returns-in-32 c = rw c.in-32.is (c.narrow_word-in-32.ensures ∙ sym (single-narrowed (of_bits binary64 c.args.w)))

pub returns-in_default : goal.returns-in_default
unfolding pattern_for
returns-in_default c = rw (ne_eqb _ _ c.in_default.in_default-own.rest.0.1, ne_eqb _ _ c.in_default.in_default-own.rest.1)
