-- The name is looked for from `j` on with the same result.
use Rattle.std.proofs.Common.{◌≡◌, ◌-◌}
use Rattle.layout.specs.Layout.{entry_count}
use Rattle.walks.specs.Plain.{is_in}
use Rattle.plain.specs.Ways.{names_from}
use Rattle.plain.proofs.named_from.Given as goal

abbrev pub invariant-loop-j : goal.invariant-loop-j
invariant-loop-j l =
    is_in l.name (names_from l.layout.words.now l.i (entry_count l.layout.words.now - l.i)) ≡ is_in l.name (names_from l.layout.words.now l.j (entry_count l.layout.words.now - l.j))
