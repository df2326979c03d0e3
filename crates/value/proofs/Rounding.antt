-- How a size is brought to another scale.
use Rattle.std.proofs.Common.{◌≡◌, ℕ, zero, suc, ◌+◌, ◌-◌, ◌*◌, ◌^◌, ◌<◌, ◌≤◌, sym, ap, ◌∙◌, subst, le_trans, mul-le-mul_right, mul-lt-mul_of_pos_right, arith, lit<, pow-add, le-ltb, lt-ltb}
use native.Mathlib.Nat.{pow-le-pow_right}
use Rattle.value.specs.Digits.{limit}
use Rattle.value.specs.Rounding.{rounded, rescaled}
use Rattle.value.proofs.Digits.{pow-pos10}
use Rattle.value.proofs.Nearest.{rounded-whole, rounded-none}

pub scale_same : (k size : ℕ) → rescaled k k size ≡ size
unfolding rescaled
scale_same k size =
    let z : k - k ≡ 0 = omega arith in
    rw (le-ltb k k (omega arith), z) (rounded-whole size)

pub scale-down : (from to size : ℕ) → to ≤ from → rounded size (10 ^ (from - to)) ≡ rescaled from to size
unfolding rescaled
scale-down from to size h = rw (le-ltb from to h)

-- from 10^20 on no size comes to a half
pub scale-gone : (k size : ℕ) → 19 < k → size < 2 ^ 64 → 0 ≡ rounded size (10 ^ k)
scale-gone k size h f =
    let b : 10 ^ 20 ≤ 10 ^ k = pow-le-pow_right {n = 10} (lit< tt) {i = 20} h in
    rounded-none size (10 ^ k) (omega arith)

pub scale-up : (from to size : ℕ) → from < to → size * 10 ^ (to - from) ≡ rescaled from to size
unfolding rescaled
scale-up from to size h = rw (lt-ltb from to h)

split18 : (k : ℕ) → k ≤ 18 → 10 ^ (18 - k) * 10 ^ k ≡ limit
split18 k h = let e : 18 - k + k ≡ 18 = omega arith in sym (pow-add 10 (18 - k) k) ∙ ap (λ (n : ℕ). 10 ^ n) e

pub fits-up : (k size : ℕ) → k ≤ 18 → size < 10 ^ (18 - k) → size * 10 ^ k < limit
fits-up k size h l = subst (λ (n : ℕ). size * 10 ^ k < n) (split18 k h) (mul-lt-mul_of_pos_right l (pow-pos10 k))

pub over-up : (k size : ℕ) → k ≤ 18 → 10 ^ (18 - k) ≤ size → limit ≤ size * 10 ^ k
over-up k size h l = subst (λ (n : ℕ). n ≤ size * 10 ^ k) (split18 k h) (mul-le-mul_right (10 ^ k) l)

pub over-far : (k size : ℕ) → 18 < k → 0 < size → limit ≤ size * 10 ^ k
over-far k size h s = le_trans (pow-le-pow_right {n = 10} (lit< tt) {i = 18} {j = k} (omega arith)) (one_more (10 ^ k) size s)
  where
    one_more : (p n : ℕ) → 0 < n → p ≤ n * p
    one_more p zero l = absurd (omega arith)
    one_more p (suc n) l = omega arith
