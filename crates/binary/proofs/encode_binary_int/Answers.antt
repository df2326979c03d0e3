-- What is written are the low bytes of the word.
use Rattle.std.proofs.Common.{ap, sym, ◌∙◌, ◌≡◌, true, length}
use Rattle.binary.specs.Bytes.{bytes_of}
use Rattle.binary.specs.Binary.{width_ok, integer_bytes}
use Rattle.binary.proofs.encode_binary_int.Goals as goal

pub returns-clause-part_after : goal.returns-clause-part_after
unfolding integer_bytes
returns-clause-part_after c =
    let n = length c.args.part.now in
    let ok : width_ok n ≡ true = sym c.width_ok.ensures ∙ c.if-not-width_ok.false in
    rw ok (c.put_word.ensures ∙ ap (bytes_of c.args.order n) c.word_of.ensures)
