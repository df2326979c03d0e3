-- `float::whole_size` meets its contract: where there is a fraction it is rounded, elsewhere the significand is shifted, and a size past the limit stops counting.
use Rattle.std.proofs.Common.{◌≡◌, ℕ, ◌+◌, ◌-◌, ◌*◌, ◌%◌, ◌^◌, ◌<◌, ◌≤◌, sym, refl, ap, ◌∙◌, le_trans, mul-le-mul, arith, lit≤, pow_mono, shl_exact}
use Rattle.value.specs.Digits.{limit, capped}
use Rattle.value.specs.Rounding.{rounded}
use Rattle.float.specs.Half.{sig}
use Rattle.float.proofs.Fields.{m-lt, m-ge}
use Rattle.float.proofs.Rounding.{size_low, size-high, cap-above}
use Rattle.float.proofs.whole_size.Goals as goal

low_sum : (x : ℕ) → (x ≡ 0 → ⊥) → x < 1075 → x - 1 + (1075 - x) ≡ 1074
low_sum x n h = omega arith

-- a size of m, which a call answered for the significand, is that of the contract
done : (x t : ℕ) {m r : ℕ} → m ≡ sig (2 ^ 52) x t → r ≡ capped (rounded (m * 2 ^ (x - 1)) (2 ^ 1074)) → r ≡ capped (rounded (sig (2 ^ 52) x t * 2 ^ (x - 1)) (2 ^ 1074))
done x t p e = e ∙ ap (λ (n : ℕ). capped (rounded (n * 2 ^ (x - 1)) (2 ^ 1074))) p

high : (m x : ℕ) → 1075 ≤ x → rounded (m * 2 ^ (x - 1)) (2 ^ 1074) ≡ m * 2 ^ (x - 1075)
high m x h = size-high m (x - 1) (x - 1075) (omega arith)

kept : (m x : ℕ) → m < 2 ^ 53 → x - 1075 ≤ 10 → m * 2 ^ (x - 1075) % 2 ^ 64 ≡ m * 2 ^ (x - 1075)
kept m x l h = shl_exact 53 (x - 1075) 64 l (omega arith)

-- a size that stops counting, from a whole number that is the contract's
large : (m x n : ℕ) → 1075 ≤ x → n ≡ m * 2 ^ (x - 1075) → limit ≤ n → limit ≡ capped (rounded (m * 2 ^ (x - 1)) (2 ^ 1074))
large m x n h e l = cap-above n l ∙ ap capped (e ∙ sym (high m x h))

pub nearest_even-requires : goal.nearest_even-requires
nearest_even-requires c = m-lt c.args.x c.args.t c.significand-m.ensures c.requires

pub returns-then-x-eq0 : goal.returns-then-x-eq0
returns-then-x-eq0 c =
    let x = c.args.x in
    let t = c.args.t in
    let m = c.significand-m.result in
    let lt = m-lt x t c.significand-m.ensures c.requires in
    done x t c.significand-m.ensures (c.nearest_even.ensures ∙ size_low m (x - 1) 1074 lt (omega arith))

pub nearest_even-requires-then-x-lt1075 : goal.nearest_even-requires-then-x-lt1075
nearest_even-requires-then-x-lt1075 c = m-lt c.args.x c.args.t c.significand-m.ensures c.requires

pub returns-then-x-lt1075 : goal.returns-then-x-lt1075
returns-then-x-lt1075 c =
    let x = c.args.x in
    let t = c.args.t in
    let m = c.significand-m.result in
    let lt = m-lt x t c.significand-m.ensures c.requires in
    done x t c.significand-m.ensures (c.nearest_even-then-x-lt1075.ensures ∙ size_low m (x - 1) (1075 - x) lt (low_sum x c.if-x-eq0.false c.if-x-lt1075.true))

pub returns-then-k-gt10 : goal.returns-then-k-gt10
returns-then-k-gt10 c =
    let x = c.args.x in
    let t = c.args.t in
    let e = c.significand-m.ensures in
    done x t e (large c.significand-m.result x _ c.if-x-lt1075.false refl (le_trans (lit≤ tt) (mul-le-mul (m-ge x t e c.if-x-eq0.false) (pow_mono c.if-k-gt10.true))))

pub returns : goal.returns
returns c =
    let x = c.args.x in
    let t = c.args.t in
    let m = c.significand-m.result in
    let e = c.significand-m.ensures in
    let q = kept m x (m-lt x t e c.requires) c.if-k-gt10.false in
    done x t e (c.min.ensures ∙ ap capped (q ∙ sym (high m x c.if-x-lt1075.false)))
