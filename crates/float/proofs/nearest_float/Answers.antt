use Rattle.std.proofs.Common.{◌≡◌, ℕ, Bool, true, false, sym, ap, ◌∙◌}
use lib.Ieee.{binary64, neg, of_int, of_bits}
use Rattle.value.specs.Digits.{signed_of}
use Rattle.float.proofs.Values.{neg-int}
use Rattle.float.proofs.nearest_float.Goals as goal

zero-size : (negative : Bool) (n : ℕ) → n ≡ 0 → of_bits binary64 0 ≡ of_int binary64 (signed_of negative n)
unfolding of_int of_bits
zero-size true n e = rw e
zero-size false n e = rw e

pub returns-then-size-eq0 : goal.returns-then-size-eq0
returns-then-size-eq0 c = zero-size c.args.negative c.args.size c.if-size-eq0.true

pub returns-then-negative : goal.returns-then-negative
returns-then-negative c =
    ap neg c.nearest_u64_to_f64-x.ensures ∙ neg-int binary64 c.args.size c.if-size-eq0.false ∙ ap (λ (s : Bool). of_int binary64 (signed_of s c.args.size)) (sym c.if-negative.true)

pub returns-else-negative : goal.returns-else-negative
returns-else-negative c =
    c.nearest_u64_to_f64-x.ensures ∙ ap (λ (s : Bool). of_int binary64 (signed_of s c.args.size)) (sym c.if-negative.false)
