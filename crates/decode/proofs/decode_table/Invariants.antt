-- The invariant, whether or not some table depends on a count: what all elements come to is what the elements that are left come to, behind those read.
use Rattle.std.proofs.Common.{Bool, false}
use Rattle.decode_leaf.specs.Machine.{kept, leaf_at}
use Rattle.decode.proofs.Turns.{TurnsInv}
use Rattle.decode.proofs.decode_table.Given as goal

abbrev pub invariant-loop-k : goal.invariant-loop-k
invariant-loop-k l = (deps : Bool) → TurnsInv false (λ m. leaf_at (kept l.layout.words.now l.layout.page m deps) l.record l.e 65536 false) l.initial.items l.initial.text l.counts l.n l.at l.told l.head
    l.items l.text l.counts l.k l.all.used l.all.members l.place l.all.taken l.all.told
