use Prim.Native.Nat.{◌≤◌}
use native.Mathlib.Omega.{arith}
use lib.ListN.{length}
use Rattle.text.specs.Shown.{minus_text, whole_text}
use Rattle.text.proofs.Showing.{length_more, front-more, minus-short, whole-short}
use Rattle.text.proofs.show_int.Goals as goal

pub put_whole-requires : goal.put_whole-requires
put_whole-requires c =
    let a = c.args in
    omega (arith, minus-short a.negative a.size _ c.put_minus-at.ensures.value)

pub returns : goal.returns
returns c =
    let a = c.args in
    let m = minus_text a.negative a.size in
    let w = whole_text a.size in
    let at = c.put_minus-at.result in
    let b : at ≤ 1 = minus-short a.negative a.size at c.put_minus-at.ensures.value in
    let k : length w ≤ 20 = whole-short a.size (omega arith) in record {
      value = (length_more m w at c.put_whole.result c.put_minus-at.ensures.value c.put_whole.ensures.value, omega (arith, c.put_whole.ensures.value));
      out_after = front-more m w a.out.now c.put_minus-at.new.out c.put_whole.new.out at c.put_minus-at.ensures.value c.put_minus-at.ensures.out_after c.put_whole.ensures.out_after;
    }
