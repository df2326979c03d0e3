-- The field is cut as `trimmed` does it on page 0.
use Rattle.std.proofs.Common.{◌+◌, List, ℕ, ap, ◌∙◌}
use Rattle.decode_scalar.specs.Decode.{flag}
use Rattle.lists.specs.Part.{place_in}
use Rattle.text.specs.Text.{cut, cut_from}
use Rattle.text_field.proofs.Parts.{part_bytes, part-place}
use Rattle.text_field.proofs.text_in.Goals as goal

pub returns : goal.returns
returns c =
    let a = c.args in
    let t = c.trimmed in
    let k = c.field-part in
    let pad = c.requires.1 in
    record {
      result_value = part_bytes a.e c.flag-right.result c.flag-trim.result c.low_byte-pad.result k.result.now c.flag-right.ensures c.flag-trim.ensures c.low_byte-pad.ensures pad t.result.now t.ensures.result_value
          ∙ ap (cut (flag a.e.p) (flag a.e.q) a.e.r) k.ensures.result_value;
      ref_ptr_value = part-place a.e c.flag-right.result c.flag-trim.result c.low_byte-pad.result k.result.now c.flag-right.ensures c.flag-trim.ensures c.low_byte-pad.ensures pad a.s k.result t.result a.at k.ensures.ref_ptr_value t.ensures.ref_ptr_value
          ∙ ap (λ (u : List ℕ). place_in a.s (a.at + cut_from (flag a.e.p) (flag a.e.q) a.e.r u)) k.ensures.result_value;
    }
