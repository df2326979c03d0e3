-- The falling number is three for each entry, lo up to hi; of a table's elements and of a sequence's entries, those that are left fall.
use Prim.Native.Nat.{◌+◌, ◌-◌, ◌*◌}
use Rattle.items.specs.Items.{values}
use Rattle.fitting.proofs.Turns.{field_in, FieldInv, SeqInv}
use Rattle.fitting.proofs.+fit_field_fit_one_fit_seq.Given as goal

abbrev pub decreases-fit_field : goal.decreases-fit_field
decreases-fit_field l = 3 * (l.hi - l.lo) + 2

abbrev pub invariant-fit_field-loop-k : goal.invariant-fit_field-loop-k
invariant-fit_field-loop-k l =
    let w = l.layout.words.now in
    let m = l.layout.masks.now in
    let t = l.list.text.now in
    let v = l.list.items.now in
    FieldInv (field_in w m t l.e l.lo l.hi (values v l.j l.to) l.initial.counts l.told) w m t v l.initial.counts l.e l.lo l.hi l.end l.counts l.k l.at

abbrev pub decreases-fit_field-loop-k : goal.decreases-fit_field-loop-k
decreases-fit_field-loop-k l = l.end - l.k

abbrev pub decreases-fit_one : goal.decreases-fit_one
decreases-fit_one l = 3 * (l.hi - l.lo) + 1

abbrev pub decreases-fit_seq : goal.decreases-fit_seq
decreases-fit_seq l = 3 * (l.hi - l.lo)

abbrev pub invariant-fit_seq-loop-i : goal.invariant-fit_seq-loop-i
invariant-fit_seq-loop-i l =
    SeqInv l.layout.words.now l.layout.masks.now l.list.text.now l.list.items.now l.initial.counts l.lo l.hi l.from l.to l.told l.counts l.i l.j l.at

abbrev pub decreases-fit_seq-loop-i : goal.decreases-fit_seq-loop-i
decreases-fit_seq-loop-i l = l.hi - l.i
