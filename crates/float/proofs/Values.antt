-- Values of floats as fractions: what `neg`, `mul` and `to_bits` make of a float whose sign and size are known.
use Rattle.std.proofs.Common.{◌≡◌, ℕ, zero, suc, ◌+◌, ◌-◌, ◌*◌, ◌/◌, ◌^◌, ◌<◌, Bool, true, false, cond, not, ◌&&◌, T, eqb, ltb, pos, negsuc, sym, refl, ap, ◌∙◌, mul-pos, mul_right_comm, eqb→eq}
use native.Mathlib.Nat.{mul-mul-mul_comm}
use lib.Ieee.{Float, nan, inf, fin, Format, prec, emax, low, up, down, unlike, size, odd, units, round, neg, mul, of_int, is_nan, hid, top, to_bits}
use lib.Ieee.Fits.{down_pos, round_is}
use lib.Ieee.Exact.{HasValue}
use lib.Ieee.Nearest.{div_same}
use lib.Ieee.Scale.{round_same}
use Rattle.value.specs.Digits.{signed_of}

pub not-nan : (x : Float) (s : Bool) (a c : ℕ) → HasValue x s a c → T (not (is_nan x))
unfolding is_nan
not-nan nan s a c v = absurd v
not-nan (inf t) s a c v = absurd v
not-nan (fin t m e) s a c v = tt

pub neg_value : (x : Float) (s : Bool) (a c : ℕ) → HasValue x s a c → HasValue (neg x) (not s) a c
unfolding neg
neg_value nan s a c v = v
neg_value (inf t) s a c v = v
neg_value (fin t m e) s a c v = (ap not v.0, v.1)

-- the product, by any fractions that the factors equal
pub mul-value : (f : Format) (x y : Float) (s t : Bool) (a c b d : ℕ) → 0 < c → 0 < d → HasValue x s a c → HasValue y t b d → mul f x y ≡ round f (unlike s t) (a * b) (c * d)
unfolding mul
mul-value f nan y s t a c b d C D v w = absurd v
mul-value f (inf s') y s t a c b d C D v w = absurd v
mul-value f (fin s' m e) nan s t a c b d C D v w = absurd w
mul-value f (fin s' m e) (inf t') s t a c b d C D v w = absurd w
mul-value f (fin s' m e) (fin t' n g) s t a c b d C D v w =
    ap (λ (z : Bool). round f (unlike z t') (m * up e * (n * up g)) (down e * down g)) v.0
    ∙ ap (λ (z : Bool). round f (unlike s z) (m * up e * (n * up g)) (down e * down g)) w.0
    ∙ round_same f (unlike s t) (m * up e * (n * up g)) (down e * down g) (a * b) (c * d) (mul-pos (down_pos e) (down_pos g)) (mul-pos C D)
    (mul-mul-mul_comm (m * up e) (n * up g) c d ∙ ap (λ (z : ℕ). z * (n * up g * d)) v.1 ∙ ap (λ (z : ℕ). a * down e * z) w.1 ∙ mul-mul-mul_comm a (down e) b (down g))

-- the bits, by the size in units of the format's smallest value
abbrev pub bits_at : Format → Bool → ℕ → ℕ
bits_at f s n = cond s (top f) 0 + (size n - prec f) * hid f + n / 2 ^ (size n - prec f)

pub bits_of_value : (f : Format) (x : Float) (s : Bool) (a c : ℕ) → 0 < c → HasValue x s a c → to_bits f x ≡ bits_at f s (a * 2 ^ low f / c)
unfolding to_bits
bits_of_value f nan s a c C v = absurd v
bits_of_value f (inf t) s a c C v = absurd v
bits_of_value f (fin t m e) s a c C v =
    ap (λ (z : Bool). bits_at f z (m * up e * 2 ^ low f / down e)) v.0
    ∙ ap (bits_at f s)
    (div_same (m * up e * 2 ^ low f) (down e) (a * 2 ^ low f) c (down_pos e) C
    (mul_right_comm (m * up e) (2 ^ low f) c ∙ ap (λ (z : ℕ). z * 2 ^ low f) v.1 ∙ mul_right_comm a (down e) (2 ^ low f)))

-- two values that are equal as fractions have the same bits
pub same_bits : (f : Format) (x y : Float) (s : Bool) (a c : ℕ) → 0 < c → HasValue x s a c → HasValue y s a c → to_bits f x ≡ to_bits f y
same_bits f x y s a c C v w = bits_of_value f x s a c C v ∙ sym (bits_of_value f y s a c C w)

-- a test of a value that antt computes
abbrev pub has_value : Float → ℕ → ℕ → Bool
has_value nan a c = false
has_value (inf t) a c = false
has_value (fin t m e) a c = not t && eqb (m * up e * c) (a * down e)

pub has-value : (x : Float) (a c : ℕ) → T (has_value x a c) → HasValue x false a c
has-value nan a c t = absurd t
has-value (inf s) a c t = absurd t
has-value (fin true m e) a c t = absurd t
has-value (fin false m e) a c t = (refl, eqb→eq (m * up e * c) (a * down e) t)

-- ---- the negated float of a whole number
neg-odd : (d q k l : ℕ) → neg (odd d false q k l) ≡ odd d true q k l
unfolding neg odd
neg-odd d zero k l = refl
neg-odd d (suc q) k l = refl

neg-units : (f : Format) (q k : ℕ) → neg (units f false q k) ≡ units f true q k
unfolding units neg
neg-units f q k = go (ltb (q * 2 ^ k) (2 ^ (low f + suc (emax f))))
  where
    go : (b : Bool) → neg (cond b (odd (suc (prec f)) false q k (low f)) (inf false)) ≡ cond b (odd (suc (prec f)) true q k (low f)) (inf true)
    go true = neg-odd (suc (prec f)) q k (low f)
    go false = refl

negated : (f : Format) (n : ℕ) → neg (of_int f (pos (suc n))) ≡ of_int f (negsuc n)
unfolding of_int
negated f n = ap neg (round_is f false (suc n) 1) ∙ neg-units f _ _ ∙ sym (round_is f true (suc n) 1)

pub neg-int : (f : Format) (n : ℕ) → (n ≡ 0 → ⊥) → neg (of_int f (pos n)) ≡ of_int f (signed_of true n)
neg-int f zero h = absurd (h refl)
neg-int f (suc n) h = negated f n
