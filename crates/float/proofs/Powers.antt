-- A table of floats, its rule tested by antt at each entry; and the product of a small whole number and a power of two, which rounds nothing.
use Rattle.std.proofs.Common.{◌≡◌, ℕ, zero, suc, ◌+◌, ◌-◌, ◌*◌, ◌^◌, ◌<◌, ◌≤◌, Bool, true, false, ◌&&◌, T, List, [], ◌∷◌, length, get_or, pos, sym, ap, ◌∙◌, subst, le_trans, lt_of_lt_of_le, le_of_suc-le-suc, not-suc-le-zero, add-zero, le_of_lt, add-suc, zero-lt-suc, mul_assoc, suc-add, one-mul, zero-add, arith, lit≤, pow_pos, pow_mono, pow-add, shl_lt}
use lib.Ieee.{Float, nan, binary64, round, of_int, mul}
use lib.Ieee.Fits.{and_l, and_r}
use lib.Ieee.Exact.{HasValue, round_exact}
use lib.Ieee.Back.{round_whole}
use Rattle.float.proofs.Values.{mul-value, has_value, has-value}

abbrev pub every : (ℕ → Float → Bool) → ℕ → List Float → Bool
every f i [] = true
every f i (x ∷ xs) = f i x && every f (suc i) xs

from : (f : ℕ → Float → Bool) (xs : List Float) (i : ℕ) → T (every f i xs) → (k : ℕ) → k < length xs → T (f (i + k) (get_or xs k nan))
from f [] i t k h = absurd (not-suc-le-zero h)
from f (x ∷ xs) i t zero h = subst (λ (m : ℕ). T (f m x)) (sym (add-zero i)) (and_l (f i x) (every f (suc i) xs) t)
from f (x ∷ xs) i t (suc k) h =
    subst (λ (m : ℕ). T (f m (get_or xs k nan))) (suc-add i k ∙ sym (add-suc i k))
    (from f xs (suc i) (and_r (f i x) (every f (suc i) xs) t) k (le_of_suc-le-suc h))

pub at : (f : ℕ → Float → Bool) (xs : List Float) → T (every f 0 xs) → (k : ℕ) → k < length xs → T (f k (get_or xs k nan))
at f xs t k h = subst (λ (m : ℕ). T (f m (get_or xs k nan))) (zero-add k) (from f xs 0 t k h)

-- the same with a statement in place of a test, where each entry's proof is `refl`
abbrev pub Every : (ℕ → Float → Type 0) → ℕ → List Float → Type 0
Every P i [] = Unit
Every P i (x ∷ xs) = P i x × Every P (suc i) xs

from-Every : (P : ℕ → Float → Type 0) (xs : List Float) (i : ℕ) → Every P i xs → (k : ℕ) → k < length xs → P (i + k) (get_or xs k nan)
from-Every P [] i t k h = absurd (not-suc-le-zero h)
from-Every P (x ∷ xs) i t zero h = subst (λ (m : ℕ). P m x) (sym (add-zero i)) t.0
from-Every P (x ∷ xs) i t (suc k) h = subst (λ (m : ℕ). P m (get_or xs k nan)) (suc-add i k ∙ sym (add-suc i k)) (from-Every P xs (suc i) t.1 k (le_of_suc-le-suc h))

pub entry : (P : ℕ → Float → Type 0) (xs : List Float) → Every P 0 xs → (k : ℕ) → k < length xs → P k (get_or xs k nan)
entry P xs t k h = subst (λ (m : ℕ). P m (get_or xs k nan)) (zero-add k) (from-Every P xs 0 t k h)

-- 2 ^ (e - 25), as 2 ^ (e - 1) of 2 ^ -24
abbrev pub power : ℕ → Float → Bool
power e x = has_value x (2 ^ (e - 1)) (2 ^ 24)

room : (e : ℕ) → e < 31 → 11 + (e - 1 + 1050) ≤ 1074 + 1024
room e h = omega arith

whole : (m : ℕ) → m < 2048 → HasValue (of_int binary64 (pos m)) false m 1
unfolding of_int
whole m h = round_whole binary64 false m (le_trans (le_of_lt h) (lit≤ tt))

-- the one argument of exactness: in units of 2 ^ -1074 a half is m times a power of two, and m has at most 11 digits
pub half-exact : (s : Bool) (m e : ℕ) → m < 2048 → e < 31 → HasValue (round binary64 s (m * 2 ^ (e - 1)) (2 ^ 24)) s (m * 2 ^ (e - 1)) (2 ^ 24)
half-exact s m e h k =
    round_exact binary64 s (m * 2 ^ (e - 1)) (2 ^ 24) m (e - 1 + 1050) (pow_pos 24) (lt_of_lt_of_le h (lit≤ tt))
    (lt_of_lt_of_le (shl_lt 11 (e - 1 + 1050) h) (pow_mono (room e k)))
    (mul_assoc m (2 ^ (e - 1)) (2 ^ 1074) ∙ ap (λ (x : ℕ). m * x) (split (e - 1)) ∙ sym (mul_assoc m (2 ^ (e - 1 + 1050)) (2 ^ 24)))
  where
    split : (j : ℕ) → 2 ^ j * 2 ^ 1074 ≡ 2 ^ (j + 1050) * 2 ^ 24
    split j = sym (mul_assoc (2 ^ j) (2 ^ 1050) (2 ^ 24)) ∙ ap (λ (x : ℕ). x * 2 ^ 24) (sym (pow-add 2 j 1050))

pub product-exact : (m e : ℕ) (p : Float) → m < 2048 → e < 31 → T (power e p) → HasValue (mul binary64 (of_int binary64 (pos m)) p) false (m * 2 ^ (e - 1)) (2 ^ 24)
product-exact m e p h k t =
    subst (λ (x : Float). HasValue x false (m * 2 ^ (e - 1)) (2 ^ 24))
    (sym
    (mul-value binary64 (of_int binary64 (pos m)) p false false m 1 (2 ^ (e - 1)) (2 ^ 24) (zero-lt-suc 0) (pow_pos 24) (whole m h) (has-value p (2 ^ (e - 1)) (2 ^ 24) t)
    ∙ ap (λ (c : ℕ). round binary64 false (m * 2 ^ (e - 1)) c) (one-mul (2 ^ 24))))
    (half-exact false m e h k)
