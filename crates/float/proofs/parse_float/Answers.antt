use Rattle.std.proofs.Common.{sym, ◌∙◌, arith}
use Rattle.float.proofs.Bytes.{word_small, read-value, read-bad}
use Rattle.float.proofs.parse_float.Goals as goal

pub word_for-requires : goal.word_for-requires
word_for-requires c =
    word_small c.args.order c.args.bits c.args.part.now (λ k h. omega (arith, c.type_inv.part k)) (sym c.field_ok.ensures ∙ c.if-not-field_ok.false) c.read_word-v.result c.read_word-v.ensures

pub returns : goal.returns
returns c =
    let at-args = c.args in
    let at-shared-slice-known = c.type_inv in
    let at-field-ok = c.field_ok in
    let at-if1 = c.if-not-field_ok in
    let at-read-word = c.read_word-v in
    read-value at-args.order at-args.bits at-args.part.now (λ k h. omega (arith, at-shared-slice-known.part k)) (sym at-field-ok.ensures ∙ at-if1.false) at-read-word.result at-read-word.ensures c.word_for.result c.float_scalar.result c.word_for.ensures c.float_scalar.ensures

pub returns-then-not-field_ok : goal.returns-then-not-field_ok
returns-then-not-field_ok c = read-bad c.args.order c.args.bits c.args.part.now (sym c.field_ok.ensures ∙ c.if-not-field_ok.true)
