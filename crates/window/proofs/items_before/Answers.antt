-- Each turn takes the first entry off those that are left.
use Rattle.std.proofs.Common.{ap, length, arith}
use Rattle.window.proofs.Places.{items-few, count-to, count-more, count-stop}
use Rattle.window.proofs.items_before.Goals as goal

pub loop-i-preserved : goal.loop-i-preserved
loop-i-preserved c =
    let shorter = ap length c.in-Some.ensures.steps in
    let more = count-more c.args.number c.in-Some.i c.in-Some.e _ _ c.in-Some.ensures.steps (omega (arith, c.if-number-i.false)) in
    record {
      few = omega (arith, c.loop-i.invariant.few, shorter, c.items_for-before.ensures, items-few c.in-Some.e);
      items = omega (arith, c.loop-i.invariant.items, more, c.items_for-before.ensures);
    }

pub returns-in-None : goal.returns-in-None
unfolding count-to
returns-in-None c =
    let none_left = ap (count-to c.args.number) c.in-None.ensures.steps.0 in
    omega (arith, c.loop-i.invariant.items, none_left)

pub returns-then-number-i : goal.returns-then-number-i
returns-then-number-i c =
    let passed = count-stop c.args.number c.in-Some.i c.in-Some.e _ _ c.in-Some.ensures.steps c.if-number-i.true in
    omega (arith, c.loop-i.invariant.items, passed)
