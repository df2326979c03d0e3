-- The count is that of the digits so far, each of which is lawful.
use Rattle.std.proofs.Common.{ℕ, ◌+◌, sym, ◌∙◌, subst}
use Rattle.hex_field.proofs.Laws.{Judged, judged-skip, judged-more, judged-bad, judged-odd, judged-long, judged-fine}
use Rattle.hex_field.proofs.judge_hex.Goals as goal
use Rattle.hex_field.proofs.judge_hex.Goals.{then-not-is_blank+else-not-is_hex, else-not-is_blank}

pub loop-x-preserved : goal.loop-x-preserved
loop-x-preserved c =
    let l = c.loop-x in
    let s = c.args.text.now in
    let P : ℕ → Type 0 = λ n. Judged s (l.x-index + 1) n in
    elim c.if-not-is_blank.branch [
      | then-not-is_blank+else-not-is_hex w ↦
          subst P (sym w.n-is) (judged-more s l.x-index l.n c.loop-x-test.true (sym c.is_blank.ensures ∙ w.if-not-is_blank.true) (sym w.is_hex.ensures ∙ w.if-not-is_hex.false) l.invariant)
      | else-not-is_blank w ↦
          subst P (sym w.n-is) (judged-skip s l.x-index l.n c.loop-x-test.true (sym c.is_blank.ensures ∙ w.if-not-is_blank.false) l.invariant)
    ]

pub returns-then-not-is_hex : goal.returns-then-not-is_hex
returns-then-not-is_hex c =
    let l = c.loop-x in
    judged-bad c.args.width c.args.text.now l.x-index l.n c.loop-x-test.true (sym c.is_blank.ensures ∙ c.if-not-is_blank.true) (sym c.is_hex.ensures ∙ c.if-not-is_hex.true) l.invariant

pub returns-then-n-eq1 : goal.returns-then-n-eq1
returns-then-n-eq1 c =
    let l = c.loop-x in judged-odd c.args.width c.args.text.now l.x-index l.n c.loop-x-test.false l.invariant c.if-n-eq1.true

pub returns-then-width-n : goal.returns-then-width-n
returns-then-width-n c =
    let l = c.loop-x in
    judged-long c.args.width c.args.text.now l.x-index l.n c.loop-x-test.false l.invariant c.if-n-eq1.false c.if-width-n.true

pub returns-else-width-n : goal.returns-else-width-n
returns-else-width-n c =
    let l = c.loop-x in
    judged-fine c.args.width c.args.text.now l.x-index l.n c.loop-x-test.false l.invariant c.if-n-eq1.false c.if-width-n.false
