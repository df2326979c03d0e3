-- The falling number of each function: three for each of its entries, lo up to hi, and one for each byte left of the record behind its position.
-- A loop's invariant: what the whole comes to is what is left of it, behind what was read; in the loop over a group's elements no more bytes are left than at first.
use Rattle.std.proofs.Common.{◌+◌, ◌-◌, ◌*◌, ◌≤◌, length, cond}
use Rattle.layout.specs.Layout.{part}
use Rattle.walks.specs.Reading.{one, seq}
use Rattle.positions.specs.Positions.{sat_sum}
use Rattle.decode_leaf.specs.Machine.{kept}
use Rattle.decode.proofs.Turns.{TurnsInv, SeqInv}
use Rattle.decode.proofs.+decode_field_decode_one_decode_seq.Given as goal

abbrev pub decreases-decode_field : goal.decreases-decode_field
decreases-decode_field l = 3 * (l.hi - l.lo) + (length l.record.now - l.at) + 2

abbrev pub decreases-decode_one : goal.decreases-decode_one
decreases-decode_one l = 3 * (l.hi - l.lo) + (length l.record.now - l.at) + 1

abbrev pub decreases-decode_seq : goal.decreases-decode_seq
decreases-decode_seq l = 3 * (l.hi - l.lo) + (length l.record.now - l.base)

abbrev pub invariant-decode_field-loop-k : goal.invariant-decode_field-loop-k
invariant-decode_field-loop-k l = record {
  turns : TurnsInv l.once (λ m. one (kept l.layout.words.now l.layout.page m l.deps) l.record l.e (λ b x s. seq sat_sum (kept l.layout.words.now l.layout.page m l.deps) l.record (part l.layout.words.now l.lo l.hi) b 0 x s) (cond l.once l.e.name 65536) l.once)
      l.initial.items l.initial.text l.initial.counts l.n l.at l.told l.head l.items l.text l.counts l.k l.all.used l.all.members l.place l.all.taken l.all.told;
  left : length l.record - l.place ≤ length l.record - l.at;
}

abbrev pub invariant-decode_seq-loop-i : goal.invariant-decode_seq-loop-i
invariant-decode_seq-loop-i l = SeqInv (λ m. kept l.layout.words.now l.layout.page m l.deps) l.record l.layout.words.now l.initial.items l.initial.text l.initial.counts l.lo l.hi l.base l.told
    l.items l.text l.counts l.i l.all.used l.all.members l.shift l.all.taken l.all.told

abbrev pub decreases-decode_seq-loop-i : goal.decreases-decode_seq-loop-i
decreases-decode_seq-loop-i l = l.hi - l.i
