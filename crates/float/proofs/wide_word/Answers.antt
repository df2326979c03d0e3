-- A pattern that is no NaN is read as its number, which is none at 64 bits.
use Rattle.std.proofs.Common.{◌≡◌, Bool, true, false, not, T, sym, ap, ◌∙◌, subst, ltb-true}
use lib.Ieee.{binary32, binary64, is_nan, to_bits, nan_bits}
use lib.Ieee.Bits.{nan_bits_is, nan_bits_above}
use Rattle.value.proofs.Nans.{is-nan}
use Rattle.float.proofs.wide_word.Goals as goal

pub returns-then-is_single_nan : goal.returns-then-is_single_nan
unfolding to_bits
returns-then-is_single_nan c =
    let v = c.args.v in
    let n : nan_bits binary32 v ≡ true = sym c.is_single_nan.ensures ∙ c.if-is_single_nan.true in
    sym (ap (to_bits binary64) (is-nan binary32 v (ltb-true _ _ (sym (nan_bits_above binary32 v) ∙ n))))

pub float_to_bits-result : goal.float_to_bits-result
float_to_bits-result c =
    let v = c.args.v in
    let n : nan_bits binary32 v ≡ false = sym c.is_single_nan.ensures ∙ c.if-is_single_nan.false in
    let e : is_nan c.from.result ≡ false = ap is_nan c.from.ensures ∙ sym (nan_bits_is binary32 v) ∙ n in
    subst (λ (b : Bool). T (not b)) (sym e) tt
