-- The loop keeps the test over the whole list equal to that over what is left of it: `kept_goes`, `kept-stops`, `kept-end`.
use Rattle.std.proofs.Common.{◌≡◌, ◌-◌}
use Rattle.items.specs.Items.{values}
use Rattle.convert.specs.Same.{all_kept}
use Rattle.convert.specs.Calls.{listed}
use Rattle.convert.proofs.all_kept.Given as goal

abbrev pub invariant-loop-q : goal.invariant-loop-q
invariant-loop-q l =
    let old = l.old in
    let new = l.new in
    all_kept old.text.now new.text.now (listed old.items.now) (listed new.items.now) ≡ all_kept old.text.now new.text.now (values old.items.now 0 l.to) (values new.items.now l.q l.end)

abbrev pub decreases-loop-q : goal.decreases-loop-q
decreases-loop-q l = l.end - l.q
