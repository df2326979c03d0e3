-- A fraction as a size, and a float's decimal by any fraction that it equals.
use Rattle.std.proofs.Common.{◌≡◌, ℕ, ◌+◌, ◌*◌, ◌^◌, ◌<◌, ◌≤◌, Bool, pos, sym, ap, ◌∙◌, lt_of_lt_of_le, zero-lt-suc, mul_assoc, mul-le-mul_left, mul-one, arith, pow_pos, pow-add, le-ltb, lt-ltb}
use lib.Ieee.{Float, nan, inf, fin, binary64, up, down, mul, of_int}
use lib.Ieee.Fits.{down_pos}
use lib.Ieee.Exact.{HasValue}
use Rattle.value.specs.Answer.{Answer}
use Rattle.value.specs.Digits.{limit, capped}
use Rattle.value.specs.declared.Whole.{Whole}
use Rattle.value.specs.Number.{no_number, amount_of}
use Rattle.value.specs.Rounding.{rounded}
use Rattle.value.proofs.Nearest.{nearest-rounded, rounded-whole}
use Rattle.float.specs.Decimal.{decimal_of, to_decimal, ProductNearest}
use Rattle.float.proofs.Rule.{rounded-same, rounded-le}

pub decimal-value : (y : Float) (s : Bool) (a c : ℕ) → 0 < c → HasValue y s a c → decimal_of y ≡ amount_of s (rounded a c)
unfolding decimal_of
decimal-value nan s a c C v = absurd v
decimal-value (inf t) s a c C v = absurd v
decimal-value (fin t m e) s a c C v =
    ap (λ (z : Bool). amount_of z (rounded (m * up e) (down e))) v.0
    ∙ ap (amount_of s) (rounded-same (m * up e) (down e) a c (down_pos e) C v.1)

pub product-nearest : ProductNearest
product-nearest y s a c q C v k = decimal-value y s a c C v ∙ ap (amount_of s) (nearest-rounded a c q C k)

-- ---- the size of m * 2 ^ j, in units of 2 ^ -1074: m / 2 ^ k rounded where j + k is 1074, and m * 2 ^ k where j is k + 1074
small : (n : ℕ) → n ≤ 2 ^ 53 → n ≡ capped n
small n h = omega arith

pub size_low : (m j k : ℕ) → m < 2 ^ 53 → j + k ≡ 1074 → rounded m (2 ^ k) ≡ capped (rounded (m * 2 ^ j) (2 ^ 1074))
size_low m j k h e =
    let p : 2 ^ j * 2 ^ k ≡ 2 ^ 1074 = sym (pow-add 2 j k) ∙ ap (λ (i : ℕ). 2 ^ i) e in
    let q : m * 2 ^ j * 2 ^ k ≡ m * 2 ^ 1074 = mul_assoc m (2 ^ j) (2 ^ k) ∙ ap (λ (i : ℕ). m * i) p in
    small (rounded m (2 ^ k)) (rounded-le m (2 ^ k) (2 ^ 53) (pow_pos k) (lt_of_lt_of_le (one m h) (mul-le-mul_left (2 ^ 53) (pow_pos k))))
    ∙ ap capped (sym (rounded-same (m * 2 ^ j) (2 ^ 1074) m (2 ^ k) (pow_pos 1074) (pow_pos k) q))
  where
    one : (m : ℕ) → m < 2 ^ 53 → m < 2 ^ 53 * 1
    one m h = omega arith

pub size-high : (m j k : ℕ) → j ≡ k + 1074 → rounded (m * 2 ^ j) (2 ^ 1074) ≡ m * 2 ^ k
size-high m j k e =
    rounded-same (m * 2 ^ j) (2 ^ 1074) (m * 2 ^ k) 1 (pow_pos 1074) (zero-lt-suc 0)
    (mul-one (m * 2 ^ j) ∙ ap (λ (i : ℕ). m * 2 ^ i) e ∙ ap (λ (i : ℕ). m * i) (pow-add 2 k 1074) ∙ sym (mul_assoc m (2 ^ k) (2 ^ 1074)))
    ∙ rounded-whole (m * 2 ^ k)

-- ---- a size that stops counting
pub cap-above : (n : ℕ) → limit ≤ n → limit ≡ capped n
cap-above n h = omega arith

-- ---- the scale
pub scale-good : (x : Float) (k : ℕ) → k ≤ 18 → {r : Answer Whole} → r ≡ decimal_of (mul binary64 x (of_int binary64 (pos (10 ^ k)))) → r ≡ to_decimal x k
unfolding to_decimal
scale-good x k h e = rw (le-ltb 18 k h) e

pub scale-bad : (x : Float) (k : ℕ) → 18 < k → no_number ≡ to_decimal x k
unfolding to_decimal
scale-bad x k h = rw (lt-ltb 18 k h)
