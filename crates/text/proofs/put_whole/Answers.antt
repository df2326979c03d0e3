use mathlib.Core.Path.{sym, ap, ◌∙◌}
use Prim.Native.Nat.{ℕ, ◌+◌, ◌≤◌}
use native.Mathlib.Omega.{arith}
use Rattle.value.specs.Digits.{digit_text}
use Rattle.text.specs.Shown.{digit_count, placed}
use Rattle.value.proofs.Digits.{length-digit_text}
use Rattle.text.proofs.Count.{count_word}
use Rattle.text.proofs.Places.{digits-placed}
use Rattle.text.proofs.put_whole.Goals as goal

pub overflow_add-end : goal.overflow_add-end
overflow_add-end c = omega (arith, count_word _ c.args.size c.digit_count-n.ensures (omega arith))

pub slice_bounds-spell-end : goal.slice_bounds-spell-end
slice_bounds-spell-end c = omega (arith, count_word _ c.args.size c.digit_count-n.ensures (omega arith))

pub returns : goal.returns
returns c =
    let a = c.args in
    let n = c.digit_count-n in
    let b : n.result ≤ 20 = count_word n.result a.size n.ensures (omega arith) in record {
      value = ap (λ (k : ℕ). a.at + k) (n.ensures ∙ sym (length-digit_text (digit_count a.size) a.size));
      out_after = digits-placed a.at n.result a.size a.out.now c.spell.new.part (omega arith) c.spell.ensures ∙ ap (λ (k : ℕ). placed a.at (digit_text k a.size) a.out.now) n.ensures;
    }
