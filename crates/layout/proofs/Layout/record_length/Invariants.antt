-- The entries that are left, taken from `far` on, give the record length.
use Rattle.std.proofs.Common.{◌≡◌, ◌+◌, max}
use Rattle.std.specs.List.{fold}
use Rattle.layout.specs.Level.{entries_left}
use Rattle.layout.specs.Layout.{reserved_width, record_length}
use Rattle.layout.proofs.Layout.record_length.Given as goal

abbrev pub invariant-loop-e : goal.invariant-loop-e
invariant-loop-e l = record_length l.self.words.now ≡ fold (λ n p. max n (p.1.offset + reserved_width p.1)) l.far (entries_left l.e-iterator)
