-- So many items stand before the entries that are left.
use Rattle.std.proofs.Common.{◌≡◌, ◌+◌, ◌≤◌, length}
use Rattle.layout.specs.Layout.{entries, entry_count}
use Rattle.layout.specs.Level.{entries_left}
use Rattle.window.specs.Pair.{items_before}
use Rattle.window.proofs.Places.{count-to}
use Rattle.window.proofs.items_before.Given as goal

abbrev pub invariant-loop-i : goal.invariant-loop-i
invariant-loop-i l = record {
  few : l.before + length (entries_left l.i-iterator) ≤ entry_count l.layout.words.now;
  items : items_before (entries l.layout.words.now) l.number ≡ l.before + count-to l.number (entries_left l.i-iterator);
}
