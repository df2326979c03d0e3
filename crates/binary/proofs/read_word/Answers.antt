-- Bytes folded from the left are a number whose first byte is the most significant, and from the right one whose last byte is.
use Rattle.std.proofs.Common.{◌≡◌, rules, eq-eqb, ne_eqb, ◌∙◌, reverse}
use Rattle.std.specs.List.{fold}
use Rattle.binary.specs.Bytes.{word_in}
use Rattle.binary.proofs.Words.{more, fold-big, fold-little}
use Rattle.binary.proofs.read_word.Goals as goal

pub returns-then-order-eq0 : goal.returns-then-order-eq0
unfolding word_in
returns-then-order-eq0 c =
    let e : c.fold.result ≡ fold more 0 c.args.part.now = search rules in
    rw (eq-eqb c.args.order 0 c.if-order-eq0.true) (e ∙ fold-big c.args.part.now)

pub returns-else-order-eq0 : goal.returns-else-order-eq0
unfolding word_in
returns-else-order-eq0 c =
    let e : c.fold-else-order-eq0.result ≡ fold more 0 (reverse c.args.part.now) = search rules in
    rw (ne_eqb c.args.order 0 c.if-order-eq0.false) (e ∙ fold-little c.args.part.now)
