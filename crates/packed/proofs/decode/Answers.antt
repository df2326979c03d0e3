-- The bytes are those in front and the last one; the laws of one turn and of the end are in Reading.
use Rattle.std.proofs.Common.{◌≡◌, ◌-◌, refl, sym, ◌∙◌, length, arith}
use Rattle.value.specs.Digits.{limit}
use Rattle.value.specs.Number.{read_in, unlawful}
use Rattle.value.proofs.Answers.{read-capped}
use Rattle.value.proofs.Field.{split-front, split-last, read-two}
use Rattle.packed.specs.Packed.{nibbles, decode_of}
use Rattle.packed.proofs.Reading.{read_all, bad-empty, bad-high, bad-low, bad_last, bad-sign}
use Rattle.packed.proofs.decode.Goals as goal
use Rattle.packed.proofs.decode.Goals.{then-high-ge10-via-then-high-ge10, then-high-ge10-via-else-high-ge10+then-low-ge10}
use Rattle.packed.proofs.decode.Goals.{then-digit-ge10-via-then-digit-ge10, then-digit-ge10-via-else-digit-ge10+then-sign-lt10}

pub returns-in_default : goal.returns-in_default
unfolding decode_of
returns-in_default c = sym (bad-empty (read_in limit) unlawful _ c.in_default.ensures.cases)

pub returns-then-high-ge10 : goal.returns-then-high-ge10
unfolding decode_of
returns-then-high-ge10 c =
    let a = c.args in
    let s = c.in-Some in
    let i = c.loop-b.b-index in
    let e = split-front a.part.now s.front.now s.last.now i s.ensures.cases.0 c.loop-b-test.true in
    elim c.then-high-ge10.branch [
      | then-high-ge10-via-then-high-ge10 w ↦ sym (bad-high (read_in limit) unlawful a.part.now i (omega (arith, s.ensures.cases.1)) (rw e w.if-high-ge10.true))
      | then-high-ge10-via-else-high-ge10+then-low-ge10 w ↦ sym (bad-low (read_in limit) unlawful a.part.now i (omega (arith, s.ensures.cases.1)) (rw e w.if-low-ge10.true))
    ]

pub loop-b-preserved : goal.loop-b-preserved
loop-b-preserved c =
    let a = c.args in
    let s = c.in-Some in
    let l = c.loop-b in
    let e = split-front a.part.now s.front.now s.last.now l.b-index s.ensures.cases.0 c.loop-b-test.true in
    read-two limit nibbles a.part.now l.b-index l.size (omega (arith, s.ensures.cases.1)) l.invariant _ _ _ _ (rw e refl) c.if-high-ge10.false c.if-low-ge10.false refl c.push_pair-size.ensures

pub returns-then-digit-ge10 : goal.returns-then-digit-ge10
unfolding decode_of
returns-then-digit-ge10 c =
    let a = c.args in
    let s = c.in-Some in
    let e = split-last a.part.now s.front.now s.last.now s.ensures.cases.0 in
    elim c.then-digit-ge10.branch [
      | then-digit-ge10-via-then-digit-ge10 w ↦ sym (bad_last (read_in limit) unlawful a.part.now (rw e w.if-digit-ge10.true))
      | then-digit-ge10-via-else-digit-ge10+then-sign-lt10 w ↦ sym (bad-sign (read_in limit) unlawful a.part.now (rw e w.if-sign-lt10.true))
    ]

pub returns : goal.returns
unfolding decode_of
returns c =
    let a = c.args in
    let s = c.in-Some in
    let i : c.loop-b.b-index ≡ length a.part.now - 1 = omega (arith, s.ensures.cases.1) in
    let e = split-last a.part.now s.front.now s.last.now s.ensures.cases.0 in
    c.number_in.ensures
    ∙ rw (c.is_negative.ensures, ← e)
    (read_all (read_in limit) unlawful a.part.now limit (read-capped limit) _ _ (omega (arith, s.ensures.cases.1)) (rw i at c.loop-b.invariant) (rw e c.if-digit-ge10.false) (rw e c.if-sign-lt10.false) (rw e c.push_digit-total.ensures))
