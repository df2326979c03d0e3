-- An f64 in a narrow format: `narrowed` sees only a fraction's value; binary32's `round` and `to_bits` are `narrowed` at 24 digits; and of an f64's fields it is the rounding that the code does.
use Rattle.std.proofs.Common.{◌≡◌, ℕ, zero, suc, ◌+◌, ◌-◌, ◌*◌, ◌/◌, ◌%◌, ◌^◌, ◌<◌, ◌≤◌, min, Bool, true, false, cond, ltb, leb, sym, refl, ap, ◌∙◌, subst, inl, inr, le_trans, le_of_eq, lt_of_lt_of_le, lt_of_le_of_lt, add_assoc, lt_irrefl, mul-le-mul_right, zero-lt-suc, mul_assoc, suc-mul, mul_comm, div-lt_iff_lt-mul, add-mul, mul-le-mul, le_antisymm, eq-or-lt_of_le, mul-lt-mul_of_pos_right, mul-pos, one-mul, lt_of_not-le, le-div_iff_mul-le, mul-one, mul_right_comm, div-one, mul-div_cancel, arith, lit<, lit≤, pow_pos, pow_mono, pow-add, shl_lt, ltb-false, ltb-true, lt-ltb, eq-eqb, ne_eqb}
use native.Mathlib.Nat.{eq_of_mul-eq-mul_right, pow-succ', min-eq_left, min-eq_right, min-le_right}
use native.Mathlib.Decide.{dec_lt}
use lib.Ieee.{Float, nan, inf, fin, binary32, binary64, up, down, size, odd, units, round, of_bits, to_bits}
use lib.Ieee.Digits.{size-lt, size-le}
use lib.Ieee.Fits.{down_pos, round_is}
use lib.Ieee.Exact.{HasValue, odd_sign}
use lib.Ieee.Nearest.{div_same}
use Rattle.value.specs.Rounding.{rounded}
use Rattle.float.specs.Half.{sig}
use Rattle.float.specs.Single.{narrow}
use Rattle.float.specs.Narrow.{NarrowFormat, units_of, narrowed, infinity_at, nan_at, sign_at, pattern_of, PatternNearest, SingleNarrowed}
use Rattle.float.proofs.Rule.{rounded-closest, rounded-same, rounded-le, rounded-ge}
use Rattle.float.proofs.Units.{fields-units}
use Rattle.float.proofs.Nearest.{twice, same_units, kept-le, kept-ge, nearest-narrowed}
use Rattle.float.proofs.Fields.{pattern-value, pattern-top}
use Rattle.float.proofs.Values.{bits_at, bits_of_value}

-- ---- a fraction's value alone counts
pub narrowed-same : (p i a b c d : ℕ) → 0 < b → 0 < d → a * d ≡ c * b → narrowed p i a b ≡ narrowed p i c d
unfolding narrowed
narrowed-same p i a b c d B D e =
    let k = size (c / d) - p in
    let f : a * (d * 2 ^ k) ≡ c * (b * 2 ^ k) = sym (mul_assoc a d (2 ^ k)) ∙ ap (λ (z : ℕ). z * 2 ^ k) e ∙ mul_assoc c b (2 ^ k) in
    ap (λ (z : ℕ). min ((size z - p) * 2 ^ (p - 1) + rounded a (b * 2 ^ (size z - p))) i) (div_same a b c d B D e)
    ∙ ap (λ (z : ℕ). min (k * 2 ^ (p - 1) + z) i) (rounded-same a (b * 2 ^ k) c (d * 2 ^ k) (mul-pos B (pow_pos k)) (mul-pos D (pow_pos k)) f)

pub of-value : (p low ones : ℕ) (y : Float) (s : Bool) (a c : ℕ) → 0 < c → HasValue y s a c → pattern_of p low ones y ≡ sign_at p ones s + narrowed p (infinity_at p ones) (a * 2 ^ low) c
unfolding pattern_of
of-value p low ones nan s a c C v = absurd v
of-value p low ones (inf t) s a c C v = absurd v
of-value p low ones (fin t m e) s a c C v =
    let n = m * up e * 2 ^ low in
    let f : n * c ≡ a * 2 ^ low * down e = mul_right_comm (m * up e) (2 ^ low) c ∙ ap (λ (z : ℕ). z * 2 ^ low) v.1 ∙ mul_right_comm a (down e) (2 ^ low) in
    ap (λ (z : Bool). sign_at p ones z + narrowed p (infinity_at p ones) n (down e)) v.0
    ∙ ap (λ (z : ℕ). sign_at p ones s + z) (narrowed-same p (infinity_at p ones) n (down e) (a * 2 ^ low) c (down_pos e) C f)

pub pattern-nearest : PatternNearest
pattern-nearest p low ones y s a c b P C v x = of-value p low ones y s a c C v ∙ ap (λ (z : ℕ). sign_at p ones s + z) (nearest-narrowed p (infinity_at p ones) (a * 2 ^ low) c b P C x)

-- what a pattern stands for has that pattern
pub own-pattern : (p i b d : ℕ) → 1 < p → 0 < d → b ≤ i → narrowed p i (units_of p b * d) d ≡ b
own-pattern p i b d P D l =
    nearest-narrowed p i (units_of p b * d) d b P D
    (record {
      within = l;
      least = λ c k. omega arith;
      even = λ c k x t. let e : units_of p c * d ≡ units_of p b * d = omega arith in absurd (x (same_units p c b (eq_of_mul-eq-mul_right d D (units_of p c) (units_of p b) e)));
    })

pub value-kept : (p low ones : ℕ) (y : Float) (s : Bool) (e t : ℕ) → 1 < p → e < ones → t < 2 ^ (p - 1) → HasValue y s (sig (2 ^ (p - 1)) e t * 2 ^ (e - 1)) (2 ^ low)
    → pattern_of p low ones y ≡ sign_at p ones s + (e * 2 ^ (p - 1) + t)
value-kept p low ones y s e t P E l v =
    let b = e * 2 ^ (p - 1) + t in
    let i = infinity_at p ones in
    let m : suc e * 2 ^ (p - 1) ≤ i = mul-le-mul_right (2 ^ (p - 1)) E in
    of-value p low ones y s _ (2 ^ low) (pow_pos low) v
    ∙ ap (λ (n : ℕ). sign_at p ones s + narrowed p i (n * 2 ^ low) (2 ^ low)) (sym (fields-units p e t l))
    ∙ ap (λ (n : ℕ). sign_at p ones s + n) (own-pattern p i b (2 ^ low) P (pow_pos low) (omega (arith, suc-mul e (2 ^ (p - 1)))))

-- ---- a number's digits
size_exact : (a n : ℕ) → 2 ^ a ≤ n → n < 2 ^ suc a → size n ≡ suc a
size_exact a n lo hi = le_antisymm (size-le n (suc a) hi) (lt_of_not-le (λ (g : size n ≤ a). lt_irrefl n (lt_of_lt_of_le (size-lt n) (le_trans (pow_mono g) lo))))

past-24 : (k : ℕ) → suc (23 + k) - 24 ≡ k
past-24 k = omega arith

-- ---- the bits of q * 2 ^ k smallest values of binary32, below the infinity
sized : (q k : ℕ) → 2 ^ 23 ≤ q → q < 2 ^ 24 → size (q * 2 ^ k) - 24 ≡ k
sized q k lo hi =
    ap (λ (z : ℕ). z - 24)
    (size_exact (23 + k) (q * 2 ^ k) (le_trans (le_of_eq (pow-add 2 23 k)) (mul-le-mul_right (2 ^ k) lo)) (subst (λ (z : ℕ). q * 2 ^ k < 2 ^ z) (more k) (shl_lt 24 k hi)))
    ∙ past-24 k
  where
    more : (k : ℕ) → 24 + k ≡ suc (23 + k)
    more k = omega arith

bits-normal : (s : Bool) (q k : ℕ) → 2 ^ 23 ≤ q → q < 2 ^ 24 → bits_at binary32 s (q * 2 ^ k) ≡ cond s (2 ^ 31) 0 + (k * 2 ^ 23 + q)
bits-normal s q k lo hi =
    ap (λ (d : ℕ). cond s (2 ^ 31) 0 + d * 2 ^ 23 + q * 2 ^ k / 2 ^ d) (sized q k lo hi)
    ∙ ap (λ (z : ℕ). cond s (2 ^ 31) 0 + k * 2 ^ 23 + z) (mul-div_cancel q (pow_pos k))
    ∙ add_assoc (cond s (2 ^ 31) 0) (k * 2 ^ 23) q

bits-low : (s : Bool) (q : ℕ) → q < 2 ^ 23 → bits_at binary32 s (q * 2 ^ 0) ≡ cond s (2 ^ 31) 0 + (0 * 2 ^ 23 + q)
bits-low s q h =
    ap (bits_at binary32 s) (mul-one q)
    ∙ ap (λ (d : ℕ). cond s (2 ^ 31) 0 + d * 2 ^ 23 + q / 2 ^ d) (none (size q) (size-le q 23 h))
    ∙ ap (λ (z : ℕ). cond s (2 ^ 31) 0 + 0 * 2 ^ 23 + z) (div-one q)
    ∙ add_assoc (cond s (2 ^ 31) 0) (0 * 2 ^ 23) q
  where
    none : (z : ℕ) → z ≤ 23 → z - 24 ≡ 0
    none z h = omega arith

-- the bits of `units`, by the number of units alone
bits_under : Bool → ℕ → Bool → ℕ
bits_under s n true = bits_at binary32 s n
bits_under s n false = cond s (2 ^ 31) 0 + 255 * 2 ^ 23

inf_bits : (s : Bool) → to_bits binary32 (inf s) ≡ cond s (2 ^ 31) 0 + 255 * 2 ^ 23
unfolding to_bits
inf_bits s = refl

units-bits : (s : Bool) (q k : ℕ) → to_bits binary32 (units binary32 s q k) ≡ bits_under s (q * 2 ^ k) (ltb (q * 2 ^ k) (2 ^ 277))
unfolding units bits_under
units-bits s q k = go (ltb (q * 2 ^ k) (2 ^ 277))
  where
    go : (b : Bool) → to_bits binary32 (cond b (odd 25 s q k 149) (inf s)) ≡ bits_under s (q * 2 ^ k) b
    go true = bits_of_value binary32 (odd 25 s q k 149) s (q * 2 ^ k) (2 ^ 149) (pow_pos 149) (odd_sign 25 s q k 149) ∙ ap (bits_at binary32 s) (mul-div_cancel (q * 2 ^ k) (pow_pos 149))
    go false = inf_bits s

pow_lt_back : (i p : ℕ) → 2 ^ i < 2 ^ p → i < p
pow_lt_back i p h = lt_of_not-le (λ (g : p ≤ i). lt_irrefl (2 ^ i) (lt_of_lt_of_le h (pow_mono g)))

-- the pattern of q * 2 ^ k units: k * 2 ^ 23 + q, and the infinity's from there on
abbrev pattern : Bool → ℕ → ℕ → ℕ
pattern s q k = cond s (2 ^ 31) 0 + min (k * 2 ^ 23 + q) (255 * 2 ^ 23)

units-normal : (s : Bool) (q k : ℕ) → 2 ^ 23 ≤ q → q < 2 ^ 24 → bits_under s (q * 2 ^ k) (ltb (q * 2 ^ k) (2 ^ 277)) ≡ pattern s q k
unfolding bits_under
units-normal s q k lo hi = go (ltb (q * 2 ^ k) (2 ^ 277)) refl
  where
    at_least : 2 ^ (23 + k) ≤ q * 2 ^ k
    at_least = le_trans (le_of_eq (pow-add 2 23 k)) (mul-le-mul_right (2 ^ k) lo)

    fits : 23 + k < 277 → k * 2 ^ 23 + q ≡ min (k * 2 ^ 23 + q) (255 * 2 ^ 23)
    fits h = omega arith

    over : 277 < 24 + k → 255 * 2 ^ 23 ≡ min (k * 2 ^ 23 + q) (255 * 2 ^ 23)
    over h = omega arith

    go : (b : Bool) → ltb (q * 2 ^ k) (2 ^ 277) ≡ b → bits_under s (q * 2 ^ k) b ≡ pattern s q k
    go true e =
        bits-normal s q k lo hi
        ∙ ap (λ (z : ℕ). cond s (2 ^ 31) 0 + z) (fits (pow_lt_back (23 + k) 277 (lt_of_le_of_lt at_least (ltb-true (q * 2 ^ k) (2 ^ 277) e))))
    go false e =
        ap (λ (z : ℕ). cond s (2 ^ 31) 0 + z) (over (pow_lt_back 277 (24 + k) (lt_of_le_of_lt (ltb-false (q * 2 ^ k) (2 ^ 277) e) (shl_lt 24 k hi))))

units-low : (s : Bool) (q : ℕ) → q < 2 ^ 23 → bits_under s (q * 2 ^ 0) (ltb (q * 2 ^ 0) (2 ^ 277)) ≡ pattern s q 0
unfolding bits_under
units-low s q h =
    ap (bits_under s (q * 2 ^ 0)) (lt-ltb (q * 2 ^ 0) (2 ^ 277) (lt_of_le_of_lt (le_of_eq (mul-one q)) (lt_of_lt_of_le h (lit≤ tt))))
    ∙ bits-low s q h
    ∙ ap (λ (z : ℕ). cond s (2 ^ 31) 0 + z) small
  where
    small : 0 * 2 ^ 23 + q ≡ min (0 * 2 ^ 23 + q) (255 * 2 ^ 23)
    small = omega arith

-- a carry into the next power of two
units-top : (s : Bool) (k : ℕ) → bits_under s (2 ^ 24 * 2 ^ k) (ltb (2 ^ 24 * 2 ^ k) (2 ^ 277)) ≡ pattern s (2 ^ 24) k
units-top s k =
    ap (λ (n : ℕ). bits_under s n (ltb n (2 ^ 277))) (mul_assoc (2 ^ 23) 2 (2 ^ k) ∙ ap (λ (z : ℕ). 2 ^ 23 * z) (sym (pow-succ' 2 k)))
    ∙ units-normal s (2 ^ 23) (suc k) (lit≤ tt) (lit< tt)
    ∙ ap (λ (z : ℕ). cond s (2 ^ 31) 0 + min z (255 * 2 ^ 23)) (next k)
  where
    next : (k : ℕ) → suc k * 2 ^ 23 + 2 ^ 23 ≡ k * 2 ^ 23 + 2 ^ 24
    next k = omega arith

above : (s : Bool) (q k : ℕ) → 2 ^ 23 ≤ q → q ≤ 2 ^ 24 → to_bits binary32 (units binary32 s q k) ≡ pattern s q k
above s q k lo hi = units-bits s q k ∙ elim (eq-or-lt_of_le hi) [ inl e ↦ subst (λ (z : ℕ). bits_under s (z * 2 ^ k) (ltb (z * 2 ^ k) (2 ^ 277)) ≡ pattern s z k) (sym e) (units-top s k) | inr l ↦ units-normal s q k lo l ]

at_zero : (s : Bool) (q : ℕ) → q ≤ 2 ^ 24 → to_bits binary32 (units binary32 s q 0) ≡ pattern s q 0
at_zero s q hi = go (ltb q (2 ^ 23)) refl
  where
    go : (b : Bool) → ltb q (2 ^ 23) ≡ b → to_bits binary32 (units binary32 s q 0) ≡ pattern s q 0
    go true e = units-bits s q 0 ∙ units-low s q (ltb-true q (2 ^ 23) e)
    go false e = above s q 0 (ltb-false q (2 ^ 23) e) hi

-- ---- so, what `round` makes of a fraction
of-units : (s : Bool) (q k : ℕ) → (0 < k → 2 ^ 23 ≤ q) → q ≤ 2 ^ 24 → to_bits binary32 (units binary32 s q k) ≡ pattern s q k
of-units s q zero lo hi = at_zero s q hi
of-units s q (suc k) lo hi = above s q (suc k) (lo (zero-lt-suc k)) hi

of-round : (s : Bool) (a c : ℕ) → 0 < c → to_bits binary32 (round binary32 s a c) ≡ sign_at 24 255 s + narrowed 24 (255 * 2 ^ 23) (a * 2 ^ 149) c
unfolding narrowed
of-round s a c C =
    let n = a * 2 ^ 149 in
    let k = size (n / c) - 24 in
    ap (to_bits binary32) (round_is binary32 s a c)
    ∙ ap (λ (q : ℕ). to_bits binary32 (units binary32 s q k)) (sym (rounded-closest n (c * 2 ^ k) (mul-pos C (pow_pos k))))
    ∙ of-units s (rounded n (c * 2 ^ k)) k (kept-ge 24 n c (lit< tt) C) (kept-le 24 n c (lit< tt) C)

pub single-narrowed : SingleNarrowed
unfolding narrow pattern_of to_bits
single-narrowed nan = refl
single-narrowed (inf s) = refl
single-narrowed (fin s m e) = of-round s (m * up e) (down e) (down_pos e)

-- ---- the ways of the code: no digit is dropped, or j of them

join : (m a b : ℕ) → m * 2 ^ a * 2 ^ b ≡ m * 2 ^ (a + b)
join m a b = mul_assoc m (2 ^ a) (2 ^ b) ∙ ap (λ (z : ℕ). m * z) (sym (pow-add 2 a b))

narrowed_low : (p i n d : ℕ) → 0 < d → n < 2 ^ p * d → 2 ^ p ≤ i → rounded n d ≡ narrowed p i n d
unfolding narrowed
narrowed_low p i n d D h l =
    let z = size-le (n / d) p ((div-lt_iff_lt-mul D).1 h) in
    let e : size (n / d) - p ≡ 0 = omega arith in
    let r = rounded n d in
    let f : 0 * 2 ^ (p - 1) + r ≡ r = omega arith in
    sym
    (ap (λ (k : ℕ). min (k * 2 ^ (p - 1) + rounded n (d * 2 ^ k)) i) e
    ∙ ap (λ (u : ℕ). min (0 * 2 ^ (p - 1) + rounded n u) i) (mul-one d)
    ∙ ap (λ (q : ℕ). min q i) f
    ∙ min-eq_left (le_trans (rounded-le n d (2 ^ p) D h) l))

narrowed-high : (p i n d j : ℕ) → 0 < p → 0 < d → 2 ^ (p - 1) * d ≤ n → n < 2 ^ p * d → narrowed p i (n * 2 ^ j) d ≡ min (j * 2 ^ (p - 1) + rounded n d) i
unfolding narrowed
narrowed-high p i n d j P D lo hi =
    let a = p - 1 + j in
    let up : suc a ≡ p + j = omega arith in
    let x : 2 ^ a * d ≤ n * 2 ^ j = le_trans (le_of_eq (ap (λ (z : ℕ). z * d) (pow-add 2 (p - 1) j) ∙ mul_right_comm (2 ^ (p - 1)) (2 ^ j) d)) (mul-le-mul_right (2 ^ j) lo) in
    let y : n * 2 ^ j < 2 ^ suc a * d =
    lt_of_lt_of_le (mul-lt-mul_of_pos_right hi (pow_pos j)) (le_of_eq (sym (ap (λ (z : ℕ). 2 ^ z * d) up ∙ ap (λ (z : ℕ). z * d) (pow-add 2 p j) ∙ mul_right_comm (2 ^ p) (2 ^ j) d))) in
    let e : size (n * 2 ^ j / d) ≡ suc a = size_exact a (n * 2 ^ j / d) ((le-div_iff_mul-le D).1 x) ((div-lt_iff_lt-mul D).1 y) in
    let f : size (n * 2 ^ j / d) - p ≡ j = omega arith in
    let g : n * 2 ^ j * d ≡ n * (d * 2 ^ j) = mul_assoc n (2 ^ j) d ∙ ap (λ (z : ℕ). n * z) (mul_comm (2 ^ j) d) in
    ap (λ (k : ℕ). min (k * 2 ^ (p - 1) + rounded (n * 2 ^ j) (d * 2 ^ k)) i) f
    ∙ ap (λ (q : ℕ). min (j * 2 ^ (p - 1) + q) i) (rounded-same (n * 2 ^ j) (d * 2 ^ j) n d (mul-pos D (pow_pos j)) D g)

-- ---- an f64's size, m * 2 ^ x times 2 ^ -1074, in units of 2 ^ -low
module _ (p low ones m x : ℕ) (P : 1 < p) (Q : p ≤ 24) (O : 1 < ones) (M : m < 2 ^ 53) where
  abbrev rounds : ℕ
  rounds = narrowed p (infinity_at p ones) (m * 2 ^ x * 2 ^ low) (2 ^ 1074)

  -- twice the leading digit's weight
  top-le : 2 ^ p ≤ infinity_at p ones
  top-le = le_trans (le_of_eq (sym (twice p (omega arith)))) (mul-le-mul_right (2 ^ (p - 1)) O)

  pub low-way : (e : ℕ) → x + low + e ≡ 1074 → 53 ≤ p + e → rounded m (2 ^ e) ≡ rounds
  low-way e g l =
      let f : m * 2 ^ x * 2 ^ low * 2 ^ e ≡ m * 2 ^ 1074 = ap (λ (z : ℕ). z * 2 ^ e) (join m x low) ∙ join m (x + low) e ∙ ap (λ (i : ℕ). m * 2 ^ i) g in
      narrowed_low p (infinity_at p ones) m (2 ^ e) (pow_pos e) (lt_of_lt_of_le M (le_trans (pow_mono l) (le_of_eq (pow-add 2 p e)))) top-le
      ∙ sym (narrowed-same p (infinity_at p ones) (m * 2 ^ x * 2 ^ low) (2 ^ 1074) m (2 ^ e) (pow_pos 1074) (pow_pos e) f)

  module _ (j : ℕ) (L : 2 ^ 52 ≤ m) (g : x + low ≡ j + 1021 + p) where
    kept_top : m < 2 ^ p * 2 ^ (53 - p)
    kept_top = let e : p + (53 - p) ≡ 53 = omega arith in lt_of_lt_of_le M (le_of_eq (sym (sym (pow-add 2 p (53 - p)) ∙ ap (λ (i : ℕ). 2 ^ i) e)))

    kept_low : 2 ^ (p - 1) * 2 ^ (53 - p) ≤ m
    kept_low = let e : p - 1 + (53 - p) ≡ 52 = omega arith in le_trans (le_of_eq (sym (pow-add 2 (p - 1) (53 - p)) ∙ ap (λ (i : ℕ). 2 ^ i) e)) L

    high-way : rounds ≡ min (j * 2 ^ (p - 1) + rounded m (2 ^ (53 - p))) (infinity_at p ones)
    high-way =
        let i : x + low + (53 - p) ≡ j + 1074 = omega arith in
        let f : m * 2 ^ x * 2 ^ low * 2 ^ (53 - p) ≡ m * 2 ^ j * 2 ^ 1074 =
        ap (λ (z : ℕ). z * 2 ^ (53 - p)) (join m x low) ∙ join m (x + low) (53 - p) ∙ ap (λ (i : ℕ). m * 2 ^ i) i ∙ sym (join m j 1074) in
        narrowed-same p (infinity_at p ones) (m * 2 ^ x * 2 ^ low) (2 ^ 1074) (m * 2 ^ j) (2 ^ (53 - p)) (pow_pos 1074) (pow_pos (53 - p)) f
        ∙ narrowed-high p (infinity_at p ones) m (2 ^ (53 - p)) j (omega arith) (pow_pos (53 - p)) kept_low kept_top

    pub digits_le : rounded m (2 ^ (53 - p)) ≤ 2 * 2 ^ (p - 1)
    digits_le = le_trans (rounded-le m (2 ^ (53 - p)) (2 ^ p) (pow_pos (53 - p)) kept_top) (le_of_eq (sym (twice p (omega arith))))

    pub high-size : j + 1 < ones → j * 2 ^ (p - 1) + rounded m (2 ^ (53 - p)) ≡ rounds
    high-size l =
        let a : (j + 2) * 2 ^ (p - 1) ≤ ones * 2 ^ (p - 1) = mul-le-mul_right (2 ^ (p - 1)) (omega arith) in
        let b = digits_le in
        sym (high-way ∙ min-eq_left (omega (arith, add-mul j 2 (2 ^ (p - 1)))))

    pub high-over : ones ≤ j + 1 → infinity_at p ones ≡ rounds
    high-over l =
        let a : ones * 2 ^ (p - 1) ≤ (j + 1) * 2 ^ (p - 1) = mul-le-mul_right (2 ^ (p - 1)) l in
        let b = rounded-ge m (2 ^ (53 - p)) (2 ^ (p - 1)) (pow_pos (53 - p)) kept_low in
        sym (high-way ∙ min-eq_right (omega (arith, add-mul j 1 (2 ^ (p - 1)), one-mul (2 ^ (p - 1)))))

-- ---- an f64's word

-- above the infinity, a NaN
pub word-nan : (p low ones w : ℕ) → 0x7FF0_0000_0000_0000 < w % 2 ^ 63 → pattern_of p low ones (of_bits binary64 w) ≡ nan_at p ones
unfolding pattern_of
word-nan p low ones w l =
    let e : w % 2 ^ 63 / 2 ^ 52 ≡ 2047 = omega arith in
    ap (pattern_of p low ones) (pattern-top binary64 w e ∙ ap (λ (b : Bool). cond b (inf (leb (2 ^ 63) w)) nan) (ne_eqb (w % 2 ^ 52) 0 (λ z. omega arith)))

infinite : (p low ones w : ℕ) → w % 2 ^ 63 / 2 ^ 52 ≡ 2047 → w % 2 ^ 52 ≡ 0 → pattern_of p low ones (of_bits binary64 w) ≡ sign_at p ones (leb (2 ^ 63) w) + infinity_at p ones
unfolding pattern_of
infinite p low ones w e n = ap (pattern_of p low ones) (pattern-top binary64 w e ∙ ap (λ (b : Bool). cond b (inf (leb (2 ^ 63) w)) nan) (eq-eqb (w % 2 ^ 52) 0 n))

-- else its sign and its fields; the infinity's are far above what overflows
abbrev pub size_at : ℕ → ℕ → ℕ → ℕ → ℕ → ℕ
size_at p low ones x t = narrowed p (infinity_at p ones) (sig (2 ^ 52) x t * 2 ^ (x - 1) * 2 ^ low) (2 ^ 1074)

pub word-pattern : (p low ones w : ℕ) → NarrowFormat p low ones → w % 2 ^ 63 ≤ 0x7FF0_0000_0000_0000
    → pattern_of p low ones (of_bits binary64 w) ≡ sign_at p ones (leb (2 ^ 63) w) + size_at p low ones (w % 2 ^ 63 / 2 ^ 52) (w % 2 ^ 52)
word-pattern p low ones w F l = go (dec_lt (w % 2 ^ 63 / 2 ^ 52) 2047)
  where
    go : Dec (w % 2 ^ 63 / 2 ^ 52 < 2047) → pattern_of p low ones (of_bits binary64 w) ≡ sign_at p ones (leb (2 ^ 63) w) + size_at p low ones (w % 2 ^ 63 / 2 ^ 52) (w % 2 ^ 52)
    go (yes k) = of-value p low ones (of_bits binary64 w) (leb (2 ^ 63) w) _ (2 ^ 1074) (pow_pos 1074) (pattern-value binary64 w k)
    go (no k) =
        let e : w % 2 ^ 63 / 2 ^ 52 ≡ 2047 = omega arith in
        let z : w % 2 ^ 52 ≡ 0 = omega arith in
        infinite p low ones w e z
        ∙ ap (λ (n : ℕ). sign_at p ones (leb (2 ^ 63) w) + n) (high-over p low ones (2 ^ 52) 2046 (omega arith) (omega arith) (omega arith) (lit< tt) (1025 + low - p) (lit≤ tt) (omega arith) (omega arith))
        ∙ ap (λ (x : ℕ). sign_at p ones (leb (2 ^ 63) w) + size_at p low ones x 0) (sym e)
        ∙ ap (λ (t : ℕ). sign_at p ones (leb (2 ^ 63) w) + size_at p low ones (w % 2 ^ 63 / 2 ^ 52) t) (sym z)

pub size-le-infinity : (p i n d : ℕ) → narrowed p i n d ≤ i
unfolding narrowed
size-le-infinity p i n d = min-le_right _ i

-- the weights of the code, h being what a call answered for the leading digit's
module _ {h : ℕ} (p ones : ℕ) (P : 1 < p) (O : ones ≤ 255) (e : h ≡ 2 ^ (p - 1)) (l : h ≤ 2 ^ 23) where
  pub weight-le : (k : ℕ) → k ≤ 256 → k * h ≤ 2 ^ 31
  weight-le k m = mul-le-mul m l

  pub nan-weight : ones * h + h / 2 ≡ nan_at p ones
  nan-weight =
      let s : suc (p - 2) ≡ p - 1 = omega arith in
      let f : 2 ^ (p - 1) ≡ 2 * 2 ^ (p - 2) = ap (λ (i : ℕ). 2 ^ i) (sym s) ∙ pow-succ' 2 (p - 2) in
      let g : h / 2 ≡ 2 ^ (p - 2) = omega arith in
      ap (λ (z : ℕ). ones * z + h / 2) e ∙ ap (λ (z : ℕ). ones * 2 ^ (p - 1) + z) g
