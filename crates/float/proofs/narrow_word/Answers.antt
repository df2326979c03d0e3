-- `float::narrow_word` meets its contract: above the infinity's word is a NaN (`word-nan`), and any other word has its sign and its size (`word-pattern`).
use Rattle.std.proofs.Common.{◌≡◌, ℕ, ◌+◌, ◌-◌, ◌*◌, ◌/◌, ◌%◌, ◌^◌, ◌<◌, ◌≤◌, Bool, true, false, leb, sym, ap, ◌∙◌, le_trans, le_of_eq, zero-add, add-one, arith, le-leb}
use lib.Ieee.{binary64, of_bits}
use borrow.Author.Tests.{lt-leb}
use Rattle.float.specs.Narrow.{NarrowFormat, infinity_at, sign_at, pattern_of}
use Rattle.float.proofs.Narrow.{size_at, word-nan, word-pattern, size-le-infinity, weight-le, nan-weight}
use Rattle.float.proofs.narrow_word.Goals as goal

-- no NaN: the sign's weight, and the size, n being what a call answered for it
signed : (p low ones w : ℕ) (s : Bool) {n : ℕ} → NarrowFormat p low ones → w % 2 ^ 63 ≤ 0x7FF0_0000_0000_0000 → n ≡ size_at p low ones (w % 2 ^ 63 / 2 ^ 52) (w % 2 ^ 52)
    → leb (2 ^ 63) w ≡ s → sign_at p ones s + n ≡ pattern_of p low ones (of_bits binary64 w)
signed p low ones w s {n} F l q e =
    ap (λ (b : Bool). sign_at p ones b + n) (sym e)
    ∙ ap (λ (n : ℕ). sign_at p ones (leb (2 ^ 63) w) + n) q
    ∙ sym (word-pattern p low ones w F l)

size_room : (p low ones x t : ℕ) {h n : ℕ} → 1 < p → ones ≤ 255 → h ≡ 2 ^ (p - 1) → h ≤ 2 ^ 23 → n ≡ size_at p low ones x t → n ≤ 2 ^ 31
size_room p low ones x t P O e l q =
    le_trans (le_of_eq q)
    (le_trans (size-le-infinity p (infinity_at p ones) _ (2 ^ 1074))
    (le_trans (le_of_eq (ap (λ (h : ℕ). ones * h) (sym e))) (weight-le p ones P O e l ones (omega arith))))

pub overflow_mul-result : goal.overflow_mul-result
overflow_mul-result c =
    let r = weight-le c.args.f.p c.args.f.ones (omega arith) (omega arith) c.leading-h.ensures.0 c.leading-h.ensures.1 c.args.f.ones (omega arith) in omega arith

pub overflow_add-result : goal.overflow_add-result
overflow_add-result c =
    let h = c.leading-h.ensures in
    let r = weight-le c.args.f.p c.args.f.ones (omega arith) (omega arith) h.0 h.1 c.args.f.ones (omega arith) in
    omega (arith, h.1)

pub returns-then-size-gt9218868437227405312 : goal.returns-then-size-gt9218868437227405312
returns-then-size-gt9218868437227405312 c =
    let a = c.args in
    nan-weight a.f.p a.f.ones (omega arith) (omega arith) c.leading-h.ensures.0 c.leading-h.ensures.1 ∙ sym (word-nan a.f.p a.f.low a.f.ones a.w c.if-size-gt9218868437227405312.true)

pub returns-then-w-lt9223372036854775808 : goal.returns-then-w-lt9223372036854775808
returns-then-w-lt9223372036854775808 c =
    let a = c.args in
    sym (zero-add c.narrow_size-a.result)
    ∙ signed a.f.p a.f.low a.f.ones a.w false c.requires c.if-size-gt9218868437227405312.false c.narrow_size-a.ensures (lt-leb _ _ c.if-w-lt9223372036854775808.true)

pub overflow_mul-result-else-w-lt9223372036854775808 : goal.overflow_mul-result-else-w-lt9223372036854775808
overflow_mul-result-else-w-lt9223372036854775808 c =
    let r = weight-le c.args.f.p c.args.f.ones (omega arith) (omega arith) c.leading-h.ensures.0 c.leading-h.ensures.1 (c.args.f.ones + 1) (omega arith) in
    omega arith

pub overflow_add-result-else-w-lt9223372036854775808-2 : goal.overflow_add-result-else-w-lt9223372036854775808-2
overflow_add-result-else-w-lt9223372036854775808-2 c =
    let a = c.args in
    let h = c.leading-h.ensures in
    let r = weight-le a.f.p a.f.ones (omega arith) (omega arith) h.0 h.1 (a.f.ones + 1) (omega arith) in
    let q = size_room a.f.p a.f.low a.f.ones (a.w % 2 ^ 63 / 2 ^ 52) (a.w % 2 ^ 52) (omega arith) (omega arith) h.0 h.1 c.narrow_size-a.ensures in
    omega arith

pub returns-else-w-lt9223372036854775808 : goal.returns-else-w-lt9223372036854775808
returns-else-w-lt9223372036854775808 c =
    let a = c.args in
    let n = c.narrow_size-a.result in
    ap (λ (h : ℕ). (a.f.ones + 1) * h + n) c.leading-h.ensures.0
    ∙ ap (λ (k : ℕ). k * 2 ^ (a.f.p - 1) + n) (add-one a.f.ones)
    ∙ signed a.f.p a.f.low a.f.ones a.w true c.requires c.if-size-gt9218868437227405312.false c.narrow_size-a.ensures (le-leb _ _ c.if-w-lt9223372036854775808.false)
