-- The items from `i` on decide; the levels fall from call to call.
use Rattle.std.proofs.Common.{◌≡◌, ◌-◌, length}
use Rattle.items.specs.Items.{values, list_ok}
use Rattle.items.proofs.ValueList.+is_lawful.Given as goal

abbrev pub decreases-is_lawful : goal.decreases-is_lawful
decreases-is_lawful l = l.levels

abbrev pub invariant-loop-i : goal.invariant-loop-i
invariant-loop-i l = list_ok (length l.self.text.now) l.in_list l.levels (values l.self.items.now l.lo l.hi) ≡ list_ok (length l.self.text.now) l.in_list l.levels (values l.self.items.now l.i l.hi)

abbrev pub decreases-loop-i : goal.decreases-loop-i
decreases-loop-i l = l.hi - l.i
