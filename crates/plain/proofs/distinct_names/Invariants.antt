-- The names from `i` on decide.
use Rattle.std.proofs.Common.{◌≡◌, ◌-◌}
use Rattle.layout.specs.Layout.{entry_count, entries}
use Rattle.walks.specs.Plain.{names_of, distinct}
use Rattle.plain.specs.Ways.{names_from}
use Rattle.plain.proofs.distinct_names.Given as goal

abbrev pub invariant-loop-i : goal.invariant-loop-i
invariant-loop-i l = distinct (names_of (entries l.layout.words.now)) ≡ distinct (names_from l.layout.words.now l.i (entry_count l.layout.words.now - l.i))
