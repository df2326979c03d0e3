-- The entries from `i` on decide; the levels fall from call to call.
use Rattle.std.proofs.Common.{◌≡◌, ◌-◌, ◌≤◌}
use Rattle.layout.specs.Layout.{span_of, is_group, part}
use Rattle.spans.specs.Tree as spans
use Rattle.layout.proofs.Layout.+nested.Given as goal

abbrev pub decreases-nested : goal.decreases-nested
decreases-nested l = l.levels

abbrev pub invariant-loop-i : goal.invariant-loop-i
invariant-loop-i l = record {
  from : l.lo ≤ l.i;
  same : spans.nested span_of is_group l.levels (part l.self.words.now l.lo l.hi) ≡ spans.nested span_of is_group l.levels (part l.self.words.now l.i l.hi);
}

abbrev pub decreases-loop-i : goal.decreases-loop-i
decreases-loop-i l = l.hi - l.i
