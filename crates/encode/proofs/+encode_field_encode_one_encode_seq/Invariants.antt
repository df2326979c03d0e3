-- A sequence writes fields, a field writes elements, a group element writes a sequence: the falling number is three for each entry, lo up to hi.
-- Of an entry's elements, what all come to is what those that are left come to, in the buffer as it is; of a sequence's entries likewise, which fall.
use Prim.Native.Nat.{◌+◌, ◌-◌, ◌*◌}
use Rattle.items.specs.Items.{values}
use Rattle.encode_leaf.specs.Laying.{elements}
use Rattle.encode_leaf.proofs.Elements.{ElementsInv}
use Rattle.encode.proofs.Turns.{group_in, SeqInv}
use Rattle.encode.proofs.+encode_field_encode_one_encode_seq.Given as goal

abbrev pub decreases-encode_field : goal.decreases-encode_field
decreases-encode_field l = 3 * (l.hi - l.lo) + 2

abbrev pub invariant-encode_field-loop-done : goal.invariant-encode_field-loop-done
invariant-encode_field-loop-done l =
    let f = group_in l.layout.masks.now l.list.text.now l.layout.page l.layout.words.now l.initial.rec l.lo l.hi in
    let v = l.list.items.now in
    ElementsInv (elements f l.run.n (values v l.run.from l.end) l.at 0 0 l.initial.rec) f v l.initial.rec l.end l.rec l.j (l.run.n - l.done) l.place l.taken l.past

abbrev pub decreases-encode_one : goal.decreases-encode_one
decreases-encode_one l = 3 * (l.hi - l.lo) + 1

abbrev pub decreases-encode_seq : goal.decreases-encode_seq
decreases-encode_seq l = 3 * (l.hi - l.lo)

abbrev pub invariant-encode_seq-loop-i : goal.invariant-encode_seq-loop-i
invariant-encode_seq-loop-i l =
    SeqInv l.layout.masks.now l.list.text.now l.layout.page l.layout.words.now l.list.items.now l.initial.rec l.lo l.hi l.from l.to l.base l.rec l.i l.shift l.taken l.past l.f

abbrev pub decreases-encode_seq-loop-i : goal.decreases-encode_seq-loop-i
decreases-encode_seq-loop-i l = l.hi - l.i
