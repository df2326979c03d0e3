-- The pattern that is written is that of the width, and each test is the definition's.
use Rattle.std.proofs.Common.{◌≡◌, ℕ, ◌<◌, ◌^◌, true, false, sym, ◌∙◌, subst, arith, lt-ltb, ne_eqb}
use lib.Ieee.{binary32, nan_bits}
use Rattle.float.specs.Narrow.{half_pattern}
use Rattle.float.specs.Single.{single_pattern}
use Rattle.float.specs.Field.{nan_half, pattern_for, exact_in}
use Rattle.float.proofs.Back.{half_lt, single-lt}
use Rattle.float.proofs.exact.Goals as goal

half_of : (bits w : ℕ) {v : ℕ} → bits ≡ 16 → v ≡ pattern_for bits w → v ≡ half_pattern w
unfolding pattern_for
half_of bits w e p = rw e at p

single_of : (bits w : ℕ) {v : ℕ} → bits ≡ 32 → v ≡ pattern_for bits w → v ≡ single_pattern w
unfolding pattern_for
single_of bits w e p = rw e at p

pub half_word-requires : goal.half_word-requires
half_word-requires c = subst (λ (h : ℕ). h < 65536) (sym (half_of c.args.bits c.args.w c.in-16.is c.pattern_for-v.ensures)) (half_lt c.args.w)

pub wide_word-requires : goal.wide_word-requires
wide_word-requires c = subst (λ (v : ℕ). v < 4294967296) (sym (single_of c.args.bits c.args.w c.in-32.is c.pattern_for-v.ensures)) (single-lt c.args.w)

pub returns-then-not-is_half_nan : goal.returns-then-not-is_half_nan
unfolding exact_in
returns-then-not-is_half_nan c =
    let e : c.pattern_for-v.result ≡ half_pattern c.args.w = half_of c.args.bits c.args.w c.in-16.is c.pattern_for-v.ensures in
    let n : nan_half c.pattern_for-v.result ≡ false = sym c.is_half_nan.ensures ∙ c.if-not-is_half_nan.true in
    rw (c.in-16.is, ← e, n, c.half_word.ensures)

pub returns-else-not-is_half_nan : goal.returns-else-not-is_half_nan
unfolding exact_in
returns-else-not-is_half_nan c =
    let e : c.pattern_for-v.result ≡ half_pattern c.args.w = half_of c.args.bits c.args.w c.in-16.is c.pattern_for-v.ensures in
    let n : nan_half c.pattern_for-v.result ≡ true = sym c.is_half_nan.ensures ∙ c.if-not-is_half_nan.false in
    rw (c.in-16.is, ← e, n, c.if-not-is_half_nan.false)

pub returns-then-not-is_single_nan : goal.returns-then-not-is_single_nan
unfolding exact_in
returns-then-not-is_single_nan c =
    let e : c.pattern_for-v.result ≡ single_pattern c.args.w = single_of c.args.bits c.args.w c.in-32.is c.pattern_for-v.ensures in
    let n : nan_bits binary32 c.pattern_for-v.result ≡ false = sym c.is_single_nan.ensures ∙ c.if-not-is_single_nan.true in
    rw (c.in-32.is, ← e, n, c.wide_word.ensures)

pub returns-else-not-is_single_nan : goal.returns-else-not-is_single_nan
unfolding exact_in
returns-else-not-is_single_nan c =
    let e : c.pattern_for-v.result ≡ single_pattern c.args.w = single_of c.args.bits c.args.w c.in-32.is c.pattern_for-v.ensures in
    let n : nan_bits binary32 c.pattern_for-v.result ≡ true = sym c.is_single_nan.ensures ∙ c.if-not-is_single_nan.false in
    rw (c.in-32.is, ← e, n, c.if-not-is_single_nan.false)

pub returns-in-64 : goal.returns-in-64
unfolding exact_in
returns-in-64 c = rw c.in-64.is (sym (lt-ltb c.args.w (2 ^ 64) (omega (arith, c.ranges.w))))

pub returns-in_default : goal.returns-in_default
unfolding exact_in
returns-in_default c =
    rw (ne_eqb _ _ c.in_default.in_default-own.rest.0.0.1, ne_eqb _ _ c.in_default.in_default-own.rest.0.1, ne_eqb _ _ c.in_default.in_default-own.rest.1)
