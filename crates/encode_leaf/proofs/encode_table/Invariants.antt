-- The invariant: the elements that are left, in the buffer as it is now, come to what all come to, and leave the buffer that all leave.
use Rattle.std.proofs.Common.{◌-◌}
use Rattle.items.specs.Items.{values}
use Rattle.encode_leaf.specs.Laying.{leaves, elements}
use Rattle.encode_leaf.specs.Machine.{buffer_behind, codec, room_in}
use Rattle.encode_leaf.proofs.Elements.{BufferInv, ElementsInv}
use Rattle.encode_leaf.proofs.encode_table.Given as goal

abbrev pub invariant-loop-done : goal.invariant-loop-done
invariant-loop-done l =
    let f = leaves (codec l.layout.masks.now l.layout.page l.list.text.now) (room_in l.initial.record) l.e in
    let v = l.list.items.now in
    ElementsInv (elements f l.run.n (values v l.run.from l.run.end) l.at 0 0 l.initial.record) f v l.initial.record l.run.end l.record l.j (l.run.n - l.done) l.place l.taken l.past
    × BufferInv (buffer_behind f l.run.n (values v l.run.from l.run.end) l.at l.initial.record) f v l.run.end l.record l.j (l.run.n - l.done) l.place
