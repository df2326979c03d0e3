-- A Decimal that has the scale is answered at once, which is what bringing it to that scale gives.
use Rattle.std.proofs.Common.{◌∙◌, eqb-true, sym}
use Rattle.value.specs.Scalar.{scalar_of}
use Rattle.value.specs.Word.{minus_in, size_in}
use Rattle.float.proofs.Scalars.{decimal-same}
use Rattle.encode_scalar.proofs.decimal_item.Goals as goal

pub returns-then-item-scale : goal.returns-then-item-scale
unfolding scalar_of
returns-then-item-scale c =
    let item = c.args.item in
    let tag = eqb-true item.tag 3 (sym c.is.ensures ∙ c.if-is.true) in
    let same = decimal-same (minus_in item.a) (size_in item.a) item.b c.args.scale c.if-item-scale.true in
    rw tag (c.amount_of.ensures ∙ rw (c.is_minus.ensures, c.size_of.ensures) same)
