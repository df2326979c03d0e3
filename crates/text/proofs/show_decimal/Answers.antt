use mathlib.Core.Path.{◌≡◌, ap, ◌∙◌}
use mathlib.Core.List.{List, ◌∷◌, ◌++◌}
use Prim.Native.Nat.{ℕ, ◌+◌, ◌≤◌}
use native.Mathlib.Omega.{arith}
use lib.ListN.{length}
use Prim.Native.Nat.{◌/◌}
use Rattle.text.specs.Text.{front}
use Rattle.value.specs.Digits.{digit_text}
use Rattle.text.specs.Shown.{minus_text, whole_text}
use Rattle.value.proofs.Digits.{length-digit_text}
use Rattle.text.proofs.Showing.{length_more, front-more, minus-short, ten-pos, parts-short, decimal-int, decimal-parts}
use Rattle.text.proofs.show_decimal.Goals as goal

pub returns-then-scale-eq0 : goal.returns-then-scale-eq0
returns-then-scale-eq0 c =
    let a = c.args in
    let e = decimal-int a.negative a.size a.scale c.if-scale-eq0.true in
    record {
      value = (c.show_int.ensures.value.0 ∙ ap length e, c.show_int.ensures.value.1);
      out_after = c.show_int.ensures.out_after ∙ ap (λ (t : List ℕ). front t a.out.now) e;
    }

pub nonzero_div-size : goal.nonzero_div-size
nonzero_div-size c = ten-pos c.args.scale _ c.requires c.ten_to-p.ensures

pub put_whole-point-requires : goal.put_whole-point-requires
put_whole-point-requires c =
    let a = c.args in
    omega (arith, minus-short a.negative a.size _ c.put_minus-at.ensures.value)

pub put_fraction-requires : goal.put_fraction-requires
put_fraction-requires c =
    let at-args = c.args in
    let at_pre = c.requires in
    let at-put-minus = c.put_minus-at in
    let at-ten-to = c.ten_to-p in
    let at-put-whole = c.put_whole-point in
    let a = at-args in
    omega (arith, minus-short a.negative a.size _ at-put-minus.ensures.value, at-put-whole.auto.out, at-put-whole.ensures.value, parts-short a.size a.scale at-ten-to.result (omega arith) at_pre at-ten-to.ensures)

pub returns : goal.returns
returns c =
    let at-args = c.args in
    let at_pre = c.requires in
    let at-if1 = c.if-scale-eq0 in
    let at-put-minus = c.put_minus-at in
    let at-ten-to = c.ten_to-p in
    let at-put-whole = c.put_whole-point in
    let at-put-fraction = c.put_fraction in
    let a = at-args in
    let m = minus_text a.negative a.size in
    let w = whole_text (a.size / at-ten-to.result) in
    let f = digit_text a.scale a.size in
    let at = at-put-minus.result in
    let point = at-put-whole.result in
    let b : at ≤ 1 = minus-short a.negative a.size at at-put-minus.ensures.value in
    let k : length w + a.scale ≤ 20 = parts-short a.size a.scale at-ten-to.result (omega arith) at_pre at-ten-to.ensures in
    let l : point ≡ length (m ++ w) = length_more m w at point at-put-minus.ensures.value at-put-whole.ensures.value in
    let g : length f ≡ a.scale = length-digit_text a.scale a.size in
    let e = decimal-parts a.negative a.size a.scale at-ten-to.result at-if1.false at_pre at-ten-to.ensures in record {
      value = (length_more (m ++ w) (46 ∷ f) point at-put-fraction.result l at-put-fraction.ensures.value ∙ ap length e, omega (arith, at-put-whole.ensures.value, at-put-fraction.ensures.value));
      out_after = front-more (m ++ w) (46 ∷ f) a.out.now at-put-whole.new.out at-put-fraction.new.out point l
          (front-more m w a.out.now at-put-minus.new.out at-put-whole.new.out at at-put-minus.ensures.value at-put-minus.ensures.out_after at-put-whole.ensures.out_after)
          at-put-fraction.ensures.out_after
          ∙ ap (λ (t : List ℕ). front t a.out.now) e;
    }
