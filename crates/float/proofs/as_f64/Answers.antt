use Rattle.std.proofs.Common.{sym, ap, ◌∙◌, inl, inr}
use lib.Ieee.{binary64, to_bits}
use Rattle.value.specs.Answer.{given}
use Rattle.float.specs.Convert.{floated_of}
use Rattle.float.proofs.as_f64.Goals as goal

pub returns-in-Null : goal.returns-in-Null
unfolding floated_of
returns-in-Null c = sym (ap floated_of c.in-Null.is)

pub returns-in-Text : goal.returns-in-Text
unfolding floated_of
returns-in-Text c = elim c.in-Text.is [ inl e ↦ sym (ap floated_of e.2) | inr e ↦ sym (ap floated_of e.1) ]

pub returns-in-Int : goal.returns-in-Int
unfolding floated_of
returns-in-Int c =
    ap given (c.float_word.ensures ∙ ap (to_bits binary64) c.nearest_float.ensures) ∙ sym (ap floated_of c.in-Int.is)

pub returns-in-Decimal : goal.returns-in-Decimal
unfolding floated_of
returns-in-Decimal c = c.decimal_word.ensures ∙ sym (ap floated_of c.in-Decimal.is)

pub returns-in-Float : goal.returns-in-Float
unfolding floated_of
returns-in-Float c = ap given c.float_word-in-Float.ensures ∙ sym (ap floated_of c.in-Float.is)

pub returns-in-FloatBits : goal.returns-in-FloatBits
unfolding floated_of
returns-in-FloatBits c = sym (ap floated_of c.in-FloatBits.is)
