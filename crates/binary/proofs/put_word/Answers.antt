-- In each turn one more byte stands at its end of the part, and the rest of the word is left.
use Rattle.std.proofs.Common.{ℕ, ◌+◌, ◌%◌, ◌/◌, sym, subst, length, arith, slice_set}
use Rattle.binary.proofs.Words.{Turn, turn-big, turn-little, turn-all}
use Rattle.binary.proofs.put_word.Goals as goal
use Rattle.binary.proofs.put_word.Goals.{then-order-eq0, else-order-eq0}

pub loop-k-preserved : goal.loop-k-preserved
loop-k-preserved c =
    let l = c.loop-k in
    let n = length c.args.part.now in
    let P : ℕ → Type 0 = λ i. Turn (slice_set l.part i (l.rest % 256)) n c.args.order c.args.w (l.k + 1) (l.rest / 256) in
    elim c.if-order-eq0.branch [
      | then-order-eq0 w ↦
          subst P (sym w.i-is) (turn-big l.part n c.args.order c.args.w l.k l.rest (omega arith) l.auto.part w.if-order-eq0.true l.invariant)
      | else-order-eq0 w ↦
          subst P (sym w.i-is) (turn-little l.part n c.args.order c.args.w l.k l.rest (omega arith) l.auto.part w.if-order-eq0.false l.invariant)
    ]

pub returns : goal.returns
returns c =
    let l = c.loop-k in
    turn-all l.part (length c.args.part.now) c.args.order c.args.w l.k l.rest l.auto.part (omega arith) l.invariant
