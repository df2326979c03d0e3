-- All names are supplied if those of the entries that are left are; a name from `next` on is a name of the list.
use Rattle.std.proofs.Common.{◌≡◌}
use Rattle.layout.specs.Layout.{entries}
use Rattle.layout.specs.Level.{entries_left}
use Rattle.items.specs.Items.{item_count, values}
use Rattle.walks.specs.Records.{supplied}
use Rattle.encode.proofs.Asking.{Within, all-supplied}
use Rattle.encode.proofs.supplies.Given as goal

abbrev pub invariant-loop-e : goal.invariant-loop-e
invariant-loop-e l =
    let v = l.list.items.now in
    (supplied (entries l.layout.words.now) (values v 0 (item_count v)) ≡ all-supplied (entries_left l.e-iterator) (values v 0 l.to))
    × Within (values v l.next l.to) (values v 0 l.to)
