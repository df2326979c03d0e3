-- The entries passed are well nested, so those left decide; a call looks one level deeper.
use mathlib.Core.Path.{◌≡◌}
use Prim.Native.Nat.{◌-◌, ◌≤◌}
use Rattle.layout_text.specs.Walk.{nested_in}
use Rattle.layout_text.proofs.+nested.Given as goal

abbrev pub decreases-nested : goal.decreases-nested
decreases-nested l = l.levels

abbrev pub invariant-loop-i : goal.invariant-loop-i
invariant-loop-i l = (l.lo ≤ l.i) × (nested_in l.spans l.groups l.levels l.lo l.hi ≡ nested_in l.spans l.groups l.levels l.i l.hi)

abbrev pub decreases-loop-i : goal.decreases-loop-i
decreases-loop-i l = l.hi - l.i
