-- A word of at most eight bytes is read whole.
use Rattle.std.proofs.Common.{ap, sym, ◌∙◌, ◌≡◌, true, false, length, arith}
use Rattle.binary.specs.Bytes.{word_in}
use Rattle.binary.specs.Binary.{width_ok, signed_word, unsigned_word, integer_of}
use Rattle.binary.proofs.Words.{word_below}
use Rattle.binary.proofs.Integers.{word-is}
use Rattle.binary.proofs.parse_binary_int.Goals as goal

pub returns-then-not-width_ok : goal.returns-then-not-width_ok
unfolding integer_of
returns-then-not-width_ok c =
    let no : width_ok (length c.args.part.now) ≡ false = sym c.width_ok.ensures ∙ c.if-not-width_ok.true in
    rw no

pub signed_word-requires : goal.signed_word-requires
signed_word-requires c =
    let s = c.args.part.now in
    let ok : width_ok (length s) ≡ true = sym c.width_ok.ensures ∙ c.if-not-width_ok.false in
    let e : c.read_word-v.result ≡ word_in c.args.order s = c.read_word-v.ensures ∙ word-is c.args.order s (λ k h. omega (arith, c.type_inv.part k)) ok in
    (ok, rw e (word_below c.args.order s (λ k h. omega (arith, c.type_inv.part k))))

pub returns-then-signed : goal.returns-then-signed
unfolding integer_of
returns-then-signed c =
    let s = c.args.part.now in
    let ok : width_ok (length s) ≡ true = sym c.width_ok.ensures ∙ c.if-not-width_ok.false in
    let e : c.read_word-v.result ≡ word_in c.args.order s = c.read_word-v.ensures ∙ word-is c.args.order s (λ k h. omega (arith, c.type_inv.part k)) ok in
    rw (ok, c.if-signed.true) (c.signed_word.ensures ∙ ap (signed_word (length s)) e)

pub returns-else-signed : goal.returns-else-signed
unfolding integer_of
returns-else-signed c =
    let s = c.args.part.now in
    let ok : width_ok (length s) ≡ true = sym c.width_ok.ensures ∙ c.if-not-width_ok.false in
    let e : c.read_word-v.result ≡ word_in c.args.order s = c.read_word-v.ensures ∙ word-is c.args.order s (λ k h. omega (arith, c.type_inv.part k)) ok in
    rw (ok, c.if-signed.false) (c.number_in.ensures ∙ ap unsigned_word e)
