-- The digits are kept first, and the sign is given to what they spell.
use Rattle.std.proofs.Common.{ap, ◌∙◌, false, map}
use Rattle.value.specs.Digits.{limit}
use Rattle.value.specs.Number.{with_sign}
use Rattle.ebcdic.specs.Ebcdic.{from_page}
use Rattle.numerals.specs.Numerals.{trimmed}
use Rattle.numerals.proofs.Reading.{kept-signed}
use Rattle.edited.specs.Edited.{decoded_of, negative_of}
use Rattle.edited.proofs.decode.Goals as goal

pub returns-then-signed : goal.returns-then-signed
unfolding decoded_of
returns-then-signed c =
    let ascii = map (from_page c.args.page) c.args.part.now in
    let minus = c.is_negative-negative.ensures ∙ ap negative_of c.trim.ensures.result_value in
    rw c.if-signed.true (c.with_sign.ensures ∙ (λ i. with_sign (minus i) (c.kept_digits-n.ensures i)) ∙ kept-signed limit (negative_of (trimmed ascii)) ascii)

pub returns-else-signed : goal.returns-else-signed
unfolding decoded_of
returns-else-signed c =
    let ascii = map (from_page c.args.page) c.args.part.now in
    rw c.if-signed.false (c.with_sign-else-signed.ensures ∙ ap (with_sign false) c.kept_digits-n.ensures ∙ kept-signed limit false ascii)
