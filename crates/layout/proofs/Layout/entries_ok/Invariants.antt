-- The entries before `i` are lawful.
use Rattle.std.proofs.Common.{◌≡◌, true, length}
use Rattle.layout.specs.Layout.{entry_at, entry_ok, all_below}
use Rattle.layout.proofs.Layout.entries_ok.Given as goal

abbrev pub invariant-loop-i : goal.invariant-loop-i
invariant-loop-i l = all_below (λ j. entry_ok (entry_at l.self.words.now j) (length l.self.masks.now)) l.i ≡ true
