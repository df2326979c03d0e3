-- What is written is the pattern of the word.
use Rattle.std.proofs.Common.{◌≡◌, true, length, sym, ap, ◌∙◌}
use Rattle.binary.specs.Bytes.{bytes_of}
use Rattle.float.specs.Field.{field_ok, float_bytes}
use Rattle.float.proofs.encode_float.Goals as goal

pub returns-clause-part_after : goal.returns-clause-part_after
unfolding float_bytes
returns-clause-part_after c =
    let n = length c.args.part.now in
    let e : field_ok c.args.bits n ≡ true = sym c.field_ok.ensures ∙ c.if-not-field_ok.false in
    rw e (c.put_word.ensures ∙ ap (bytes_of c.args.order n) c.pattern_for.ensures)
