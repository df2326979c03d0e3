use Rattle.std.proofs.Common.{◌∙◌, inl, inr}
use Rattle.float.specs.Convert.{decimal_for}
use Rattle.float.proofs.Scalars.{decimal-at}
use Rattle.float.proofs.as_decimal.Goals as goal

pub returns-in-Null : goal.returns-in-Null
unfolding decimal_for
returns-in-Null c = c.signed_size.ensures ∙ decimal-at _ _ c.args.scale c.in-Null.is

pub returns-in-Text : goal.returns-in-Text
unfolding decimal_for
returns-in-Text c =
    elim c.in-Text.is [
      | inl e ↦ decimal-at _ _ c.args.scale e.2
      | inr f ↦ elim f [ inl e ↦ decimal-at _ _ c.args.scale e.1 | inr e ↦ decimal-at _ _ c.args.scale e.1 ]
    ]

pub returns-in-Int : goal.returns-in-Int
unfolding decimal_for
returns-in-Int c = c.rescale.ensures ∙ decimal-at _ _ c.args.scale c.in-Int.is

pub returns-in-Decimal : goal.returns-in-Decimal
unfolding decimal_for
returns-in-Decimal c = c.rescale-in-Decimal.ensures ∙ decimal-at _ _ c.args.scale c.in-Decimal.is

pub returns-in-Float : goal.returns-in-Float
unfolding decimal_for
returns-in-Float c = c.to_decimal.ensures ∙ decimal-at _ _ c.args.scale c.in-Float.is
