-- What fits is written over the whole part; what does not fit leaves it.
use Rattle.std.proofs.Common.{sym, ap, ◌∙◌, length}
use Rattle.value.specs.Answer.{answered}
use Rattle.encode_scalar.specs.Encode.{decimal_fit, decimal_bytes, decimal_judged, decimal_written, part_after}
use Rattle.encode_scalar.proofs.Parts.{fitted, decimal-length}
use Rattle.encode_scalar.proofs.write_decimal.Goals as goal

pub returns-clause-part_after : goal.returns-clause-part_after
returns-clause-part_after c =
    let a = c.args in
    let part = a.part.now in
    let w = length part in
    let n = c.in_ok-n.field-0 in
    let said = c.encode_decimal in
    let fits = decimal_fit a.p a.q a.s w n.negative n.size in
    let bytes = decimal_bytes a.p a.q a.page w n.negative n.size in
    fitted fits bytes part said.new.part said.ensures.part_after (decimal-length a.p a.q a.s a.page w n.negative n.size)
    ∙ ap (λ m. part_after (decimal_judged a.p a.q a.s w (answered m)) (decimal_written a.p a.q a.page w (answered m)) part) (sym c.in_ok-n.was)
