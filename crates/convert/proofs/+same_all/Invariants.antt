-- One turn of the loop is one unfolding of the definition; the measure is what is left of the first sequence, which every inner one is shorter than.
-- The loop keeps that the two whole sequences are the same exactly if what is left of both is; each way out is one law of Turns.antt about where it leaves the loop.
-- The measure of a call is to - i, how many items its first sequence has with all their members; a call inside another must have less.
use mathlib.Core.Path.{◌≡◌}
use Rattle.std.proofs.Common.{ℕ, Bool, ◌-◌, ◌≤◌}
use Rattle.items.specs.Items.{values}
use Rattle.convert.specs.Same.{same_all}
use Rattle.convert.proofs.+same_all.Given as goal

abbrev pub invariant-loop-p : goal.invariant-loop-p
invariant-loop-p l =
    let kept : ℕ → ℕ → Bool = λ i j. same_all l.old.text.now l.new.text.now (values l.old.items.now i l.to) (values l.new.items.now j l.end) in
    (l.i ≤ l.p) × (kept l.i l.j ≡ kept l.p l.q)

abbrev pub decreases-loop-p : goal.decreases-loop-p
decreases-loop-p l = l.to - l.p

abbrev pub decreases-same_all : goal.decreases-same_all
decreases-same_all l = l.to - l.i
