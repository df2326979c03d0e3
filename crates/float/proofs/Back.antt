-- What is written and read again is the same: patterns of 32 and 16 bits through an f64's word, and a word through a field's bytes.
use Rattle.std.proofs.Common.{◌≡◌, ℕ, ◌+◌, ◌-◌, ◌*◌, ◌/◌, ◌%◌, ◌^◌, ◌<◌, ◌≤◌, Bool, true, false, cond, not, ◌&&◌, T, eqb, ltb, leb, sym, refl, ap, ◌∙◌, subst, mod-lt, mod-eq_of_lt, mul-one, arith, lit<, pow_pos, ltb-false, ltb-true, lt-ltb, eq-eqb, ne_eqb, eqb-true, leb-false, leb-true}
use native.Mathlib.Decide.{dec_lt}
use lib.Ieee.{Float, nan, inf, fin, Format, binary32, binary64, up, down, round, is_nan, nan_bits, fits, of_bits, to_bits}
use lib.Ieee.Bits.{of_bits-to_bits, to_bits-of_bits, to_bits-lt, of_bits-fits, nan_bits_is}
use lib.Ieee.Exact.{HasValue}
use lib.Ieee.Fits.{fits_widens, round-fits, inf-fits}
use borrow.Author.Tests.{not-true}
use Rattle.lists.proofs.Logic.{both}
use Rattle.value.specs.Scalar.{float_of}
use Rattle.binary.proofs.Words.{word_back, bytes-length}
use Rattle.value.specs.Answer.{given}
use Rattle.float.specs.Half.{sig, finite16, fields16, half16, half_word}
use Rattle.float.specs.Single.{narrow, single_pattern, wide_word}
use Rattle.float.specs.Narrow.{units_of, narrowed, sign_at, pattern_of, half_pattern, HalfUnits, SingleUnits}
use Rattle.float.specs.Field.{word_for, pattern_for, float_in, float_bytes, nan_half, Exact, exact64, exact32, exact16, exact_in}
use Rattle.float.proofs.Values.{same_bits}
use Rattle.float.proofs.Fields.{pattern-value, pattern-top, sig-lt}
use Rattle.float.proofs.Powers.{half-exact}
use Rattle.float.proofs.Narrow.{value-kept, single-narrowed, size-le-infinity}

-- ---- binary32

not-nan : (f : Format) (v : ℕ) → nan_bits f v ≡ false → T (not (is_nan (of_bits f v)))
not-nan f v e = subst (λ (b : Bool). T (not b)) (sym (sym (nan_bits_is f v) ∙ e)) tt

-- the f64 of the word is the pattern's number
same_number : (v : ℕ) → of_bits binary64 (wide_word v) ≡ of_bits binary32 v
same_number v = of_bits-to_bits binary64 (of_bits binary32 v) (fits_widens (of_bits binary32 v) (of_bits-fits binary32 v))

-- the sign's weight, the field and the digits
parts-32 : (v : ℕ) → v < 2 ^ 32 → sign_at 24 255 (leb (2 ^ 31) v) + (v % 2 ^ 31 / 2 ^ 23 * 2 ^ 23 + v % 2 ^ 23) ≡ v
parts-32 v h = go (leb (2 ^ 31) v) refl
  where
    go : (s : Bool) → leb (2 ^ 31) v ≡ s → sign_at 24 255 s + (v % 2 ^ 31 / 2 ^ 23 * 2 ^ 23 + v % 2 ^ 23) ≡ v
    go true e = let l = leb-true (2 ^ 31) v e in omega arith
    go false e = let l = leb-false (2 ^ 31) v e in omega arith

pub single-units : SingleUnits
single-units v l =
    let e = v % 2 ^ 31 / 2 ^ 23 in
    let low : v % 2 ^ 31 % 2 ^ 23 ≡ v % 2 ^ 23 = omega arith in
    subst (λ (t : ℕ). HasValue (of_bits binary32 v) (leb (2 ^ 31) v) (sig (2 ^ 23) e t * 2 ^ (e - 1)) (2 ^ 149)) (sym low) (pattern-value binary32 v (omega arith))

-- below the infinity
finite-kept : (v : ℕ) → v < 2 ^ 32 → v % 2 ^ 31 / 2 ^ 23 < 255 → single_pattern (wide_word v) ≡ v
finite-kept v h k =
    ap (λ (y : Float). to_bits binary32 (narrow y)) (same_number v)
    ∙ single-narrowed (of_bits binary32 v)
    ∙ value-kept 24 149 255 (of_bits binary32 v) (leb (2 ^ 31) v) (v % 2 ^ 31 / 2 ^ 23) (v % 2 ^ 23) (lit< tt) k (mod-lt v (pow_pos 23)) (pattern-value binary32 v k)
    ∙ parts-32 v h

narrow-top : (z s : Bool) (y : Float) → y ≡ cond z (inf s) nan → narrow y ≡ y
unfolding narrow
narrow-top true s y e = ap narrow e ∙ sym e
narrow-top false s y e = ap narrow e ∙ sym e

-- every pattern that is no NaN
pub single-kept : (v : ℕ) → v < 2 ^ 32 → nan_bits binary32 v ≡ false → single_pattern (wide_word v) ≡ v
single-kept v h n = go (dec_lt (v % 2 ^ 31 / 2 ^ 23) 255)
  where
    highest : (v : ℕ) → (v % 2 ^ 31 / 2 ^ 23 < 255 → ⊥) → v % 2 ^ 31 / 2 ^ 23 ≡ 255
    highest v k = omega arith

    go : Dec (v % 2 ^ 31 / 2 ^ 23 < 255) → single_pattern (wide_word v) ≡ v
    go (yes k) = finite-kept v h k
    go (no k) =
        ap (λ (y : Float). to_bits binary32 (narrow y)) (same_number v)
        ∙ ap (to_bits binary32) (narrow-top (eqb (v % 2 ^ 23) 0) (leb (2 ^ 31) v) (of_bits binary32 v) (pattern-top binary32 v (highest v k)))
        ∙ to_bits-of_bits binary32 v h (not-nan binary32 v n)

-- ---- binary16

parts-16 : (h : ℕ) → h < 2 ^ 16 → sign_at 11 31 (leb 32768 h) + (h % 32768 / 1024 * 1024 + h % 1024) ≡ h
parts-16 h l = go (leb 32768 h) refl
  where
    go : (s : Bool) → leb 32768 h ≡ s → sign_at 11 31 s + (h % 32768 / 1024 * 1024 + h % 1024) ≡ h
    go true e = let m = leb-true 32768 h e in omega arith
    go false e = let m = leb-false 32768 h e in omega arith

pub half-units : HalfUnits
unfolding half16
half-units h l =
    let e = h % 32768 / 1024 in
    let s = leb 32768 h in
    let low : h % 32768 % 1024 ≡ h % 1024 = omega arith in
    let v : HasValue (finite16 s e (h % 1024)) s (sig 1024 e (h % 1024) * 2 ^ (e - 1)) (2 ^ 24) = (refl, simp mul-one) in
    subst (λ (y : Float). HasValue y s (units_of 11 (h % 32768)) (2 ^ 24)) (ap (λ (b : Bool). cond b (cond (eqb (h % 1024) 0) (inf s) nan) (finite16 s e (h % 1024))) (sym (ne_eqb e 31 (λ q. omega arith))))
    (subst (λ (t : ℕ). HasValue (finite16 s e (h % 1024)) s (sig 1024 e t * 2 ^ (e - 1)) (2 ^ 24)) (sym low) v)

-- a float that f64 holds, whose word is the half's and whose pattern is the half
record Read (s : Bool) (e t : ℕ) : Type 0 where
  y : Float
  holds : T (fits binary64 y)
  word : to_bits binary64 (fields16 s e t) ≡ to_bits binary64 y
  back : pattern_of 11 24 31 y ≡ sign_at 11 31 s + (e * 1024 + t)

read : (s : Bool) (e t : ℕ) → t < 1024 → e * 1024 + t ≤ 31744 → Read s e t
unfolding fields16 pattern_of
read s e t l m = go (dec_lt e 31)
  where
    a : ℕ
    a = sig 1024 e t * 2 ^ (e - 1)

    go : Dec (e < 31) → Read s e t
    go (yes k) =
        let y = round binary64 s a (2 ^ 24) in
        let v = half-exact s (sig 1024 e t) e (sig-lt 1024 e t l) k in
        record {
          y = y;
          holds = round-fits binary64 s a (2 ^ 24);
          word =
              ap (λ (b : Bool). to_bits binary64 (cond b (cond (eqb t 0) (inf s) nan) (finite16 s e t))) (ne_eqb e 31 (λ q. omega arith))
              ∙ same_bits binary64 (finite16 s e t) y s a (2 ^ 24) (pow_pos 24) (refl, simp mul-one) v;
          back = value-kept 11 24 31 y s e t (lit< tt) k l v;
        }
    go (no k) =
        let p : e ≡ 31 = omega arith in
        let q : t ≡ 0 = omega arith in
        record { y = inf s; holds = inf-fits binary64 s; word = rw (p, q); back = rw (p, q) }

half-read : (h : ℕ) → nan_half h ≡ false → Read (leb 32768 h) (h % 32768 / 1024) (h % 1024)
half-read h n = let l = ltb-false 31744 (h % 32768) n in read (leb 32768 h) (h % 32768 / 1024) (h % 1024) (omega arith) (omega arith)

half-fields : (h : ℕ) → half_word h ≡ to_bits binary64 (fields16 (leb 32768 h) (h % 32768 / 1024) (h % 1024))
unfolding half_word
half-fields h = refl

-- every half that is no NaN
pub half-kept : (h : ℕ) → h < 2 ^ 16 → nan_half h ≡ false → half_pattern (half_word h) ≡ h
half-kept h l n =
    let r = half-read h n in
    ap half_pattern (half-fields h ∙ r.word) ∙ ap (pattern_of 11 24 31) (of_bits-to_bits binary64 r.y r.holds) ∙ r.back ∙ parts-16 h l

-- ---- a field's bytes

-- what an exact word's bytes are read as
pub float-kept : (order : ℕ) {bits w : ℕ} → Exact bits w → float_in order bits (float_bytes order bits (bits / 8) w) ≡ given (float_of w)
unfolding float_in float_bytes word_for pattern_for
float-kept order (exact64 w h) = rw (bytes-length order 8 w, word_back order 8 w, mod-eq_of_lt h)
float-kept order (exact32 w v h n e) =
    rw (bytes-length order 4 (single_pattern w), word_back order 4 (single_pattern w), e, single-kept v h n, mod-eq_of_lt h)
float-kept order (exact16 w v h p e) =
    rw (bytes-length order 2 (half_pattern w), word_back order 2 (half_pattern w), e, half-kept v h p, mod-eq_of_lt h)

-- an exact word has 64 bits
wide-lt : (v : ℕ) → wide_word v < 2 ^ 64
wide-lt v = to_bits-lt binary64 (of_bits binary32 v) (fits_widens (of_bits binary32 v) (of_bits-fits binary32 v))

pub exact-lt : {bits w : ℕ} → Exact bits w → w < 2 ^ 64
exact-lt (exact64 w h) = h
exact-lt (exact32 w v h n e) = rw e (wide-lt v)
exact-lt (exact16 w h l p e) = let r = half-read h p in rw (e, half-fields h, r.word) (to_bits-lt binary64 r.y r.holds)

-- ---- the test of an exact word

narrow-fits : (x : Float) → T (fits binary32 (narrow x))
unfolding narrow fits
narrow-fits nan = tt
narrow-fits (inf s) = tt
narrow-fits (fin s m e) = round-fits binary32 s (m * up e) (down e)

pub single-lt : (w : ℕ) → single_pattern w < 2 ^ 32
single-lt w = to_bits-lt binary32 (narrow (of_bits binary64 w)) (narrow-fits (of_bits binary64 w))

pattern_lt : (y : Float) → pattern_of 11 24 31 y < 2 ^ 16
unfolding pattern_of
pattern_lt nan = lit< tt
pattern_lt (inf true) = lit< tt
pattern_lt (inf false) = lit< tt
pattern_lt (fin s m e) = go s (narrowed 11 31744 (m * up e * 2 ^ 24) (down e)) (size-le-infinity 11 31744 (m * up e * 2 ^ 24) (down e))
  where
    go : (s : Bool) (n : ℕ) → n ≤ 31744 → sign_at 11 31 s + n < 2 ^ 16
    go true n h = omega arith
    go false n h = omega arith

pub half_lt : (w : ℕ) → half_pattern w < 2 ^ 16
half_lt w = pattern_lt (of_bits binary64 w)

pub exact-true : (bits w : ℕ) → exact_in bits w ≡ true → Exact bits w
unfolding exact_in
exact-true bits w e = go (eqb bits 16) (eqb bits 32) refl refl e
  where
    go : (a b : Bool) → eqb bits 16 ≡ a → eqb bits 32 ≡ b
        → cond a (not (nan_half (half_pattern w)) && eqb (half_word (half_pattern w)) w) (cond b (not (nan_bits binary32 (single_pattern w)) && eqb (wide_word (single_pattern w)) w) (eqb bits 64 && ltb w (2 ^ 64))) ≡ true
        → Exact bits w
    go true b p q e =
        let t = both (not (nan_half (half_pattern w))) (eqb (half_word (half_pattern w)) w) e in
        rw (eqb-true bits 16 p) (exact16 w (half_pattern w) (half_lt w) (not-true (nan_half (half_pattern w)) t.0) (sym (eqb-true (half_word (half_pattern w)) w t.1)))
    go false true p q e =
        let t = both (not (nan_bits binary32 (single_pattern w))) (eqb (wide_word (single_pattern w)) w) e in
        rw (eqb-true bits 32 q) (exact32 w (single_pattern w) (single-lt w) (not-true (nan_bits binary32 (single_pattern w)) t.0) (sym (eqb-true (wide_word (single_pattern w)) w t.1)))
    go false false p q e =
        let t = both (eqb bits 64) (ltb w (2 ^ 64)) e in
        rw (eqb-true bits 64 t.0) (exact64 w (ltb-true w (2 ^ 64) t.1))

pub true-exact : {bits w : ℕ} → Exact bits w → exact_in bits w ≡ true
unfolding exact_in
true-exact (exact64 w h) = lt-ltb w (2 ^ 64) h
true-exact (exact32 w v h n e) = rw (e, single-kept v h n, n, eq-eqb (wide_word v) (wide_word v) refl)
true-exact (exact16 w v h p e) = rw (e, half-kept v h p, p, eq-eqb (half_word v) (half_word v) refl)
