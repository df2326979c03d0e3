-- The test passes exactly the values that fit: both directions, every kind.
use mathlib.Core.Path.{◌≡◌, refl, sym, ap, ◌∙◌, subst}
use mathlib.Core.List.{List}
use mathlib.Core.Bool.{Bool, true, false, not, ◌&&◌, cond, false≢true}
use Prim.Native.Nat.{ℕ, ◌-◌, ◌*◌, ◌/◌, ◌%◌, ◌^◌, ◌<◌}
use lib.Dec.{eqb, leb, ltb}
use lib.ListN.{length}
use lib.Ieee.{binary64, fits, is_nan, of_bits, to_bits, nan_bits}
use borrow.Author.Tests.{lt-ltb, le-leb, eq-eqb, eqb-true, ltb-true, leb-true}
use Rattle.lists.proofs.Logic.{both, and, and_right}
use Rattle.value.specs.declared.Scalar.{Scalar}
use Rattle.value.specs.declared.Scalar.TheVariants.{Null, Text, Int, Decimal, Float as FloatV, FloatBits, Bool as BoolV}
use Rattle.value.specs.Digits.{limit}
use Rattle.value.specs.Scalar.{decimal, first_of, float_of}
use Rattle.value.proofs.Items.{float-first}
use Rattle.binary.specs.Binary.{width_ok}
use Rattle.float.specs.Field.{Exact, exact_in}
use Rattle.float.proofs.Back.{exact-true, true-exact, exact-lt}
use Rattle.decode_scalar.specs.Decode.{flag, is_embedded}
use Rattle.fits.specs.Fits.{Fits, text-fits, int-fits, embedded-fits, binary-fits, float_fits, hex-fits, bool-fits, display-fits, packed-fits, zoned-fits, edited-fits}
use Rattle.fits.specs.Decide.{text_fits, hex_fits, digits_fit, int_fits, in_range, binary_fits, word_fits, sign_ok, display_fits, packed_fits, zoned_fits, decimal_fits, edited_minus_ok, mask_fits, edited_fits, fits_of}
use Rattle.fits.proofs.Tests.{text-sound, text-complete, hex-sound, hex-complete, sign-sound, sign-complete, digits-sound}
use Rattle.fits.proofs.Tests.{digits-complete, range-sound, range-complete, plain_float, float_plain, edited-sound, edited-complete}

module _ (p q r s : ℕ) (mask : List ℕ) (w : ℕ) (t : List ℕ) where
  text-so : (kind start count : ℕ) → cond (eqb kind 0) (text_fits (flag p) (flag q) (r % 256) w t) (eqb kind 4 && hex_fits w t) ≡ true → Fits p q r s mask w kind (Text start count) t
  text-so kind start count e = by (eqb kind 0) refl e
    where
      by : (b : Bool) → eqb kind 0 ≡ b → cond b (text_fits (flag p) (flag q) (r % 256) w t) (eqb kind 4 && hex_fits w t) ≡ true → Fits p q r s mask w kind (Text start count) t
      by true k e = rw (eqb-true kind 0 k) (text-fits start count t (text-sound (flag p) (flag q) (r % 256) w t e))
      by false k e = let a = both (eqb kind 4) (hex_fits w t) e in rw (eqb-true kind 4 a.0) (hex-fits start count t (hex-sound w t a.1))

  whole-so : (negative : Bool) (size : ℕ) → int_fits p q w negative size ≡ true → Fits p q r s mask w 1 (Int negative size) t
  unfolding int_fits
  whole-so negative size e =
      let a = both (ltb size (2 ^ 63)) (cond (is_embedded p q) (zoned_fits w q negative size) (digits_fit w q negative size)) e in
      by (ltb-true size (2 ^ 63) a.0) (is_embedded p q) refl a.1
    where
      by : size < 2 ^ 63 → (b : Bool) → is_embedded p q ≡ b → cond b (zoned_fits w q negative size) (digits_fit w q negative size) ≡ true → Fits p q r s mask w 1 (Int negative size) t
      by l true h e =
          let a = both (ltb 0 w) (ltb size (10 ^ w) && sign_ok q negative size) e in
          let b = both (ltb size (10 ^ w)) (sign_ok q negative size) a.1 in
          embedded-fits negative size t h (ltb-true 0 w a.0) (ltb-true size (10 ^ w) b.0) l (sign-sound q negative size b.1).1
      by l false h e = int-fits negative size t h (digits-sound w q negative size e) l

  int-so : (kind : ℕ) (negative : Bool) (size : ℕ) → cond (eqb kind 1) (int_fits p q w negative size) (eqb kind 2 && binary_fits w (flag q) negative size) ≡ true
      → Fits p q r s mask w kind (Int negative size) t
  unfolding binary_fits
  int-so kind negative size e = by (eqb kind 1) refl e
    where
      by : (b : Bool) → eqb kind 1 ≡ b → cond b (int_fits p q w negative size) (eqb kind 2 && (width_ok w && in_range w (flag q) negative size)) ≡ true → Fits p q r s mask w kind (Int negative size) t
      by true k e = rw (eqb-true kind 1 k) (whole-so negative size e)
      by false k e =
          let a = both (eqb kind 2) (width_ok w && in_range w (flag q) negative size) e in
          let b = both (width_ok w) (in_range w (flag q) negative size) a.1 in
          rw (eqb-true kind 2 a.0) (binary-fits negative size t b.0 (range-sound w (flag q) negative size b.1))

  decimal-so : (negative : Bool) (size : ℕ) → decimal_fits p q s w negative size ≡ true → Fits p q r s mask w 7 (decimal negative size r) t
  unfolding decimal_fits
  decimal-so negative size e =
      let a = both (ltb size limit) (cond (eqb p 0) (display_fits w q s negative size) (cond (eqb p 1) (packed_fits w q negative size) (eqb p 2 && zoned_fits w q negative size))) e in
      by (ltb-true size limit a.0) (eqb p 0) (eqb p 1) refl refl a.1
    where
      by : size < limit → (a b : Bool) → eqb p 0 ≡ a → eqb p 1 ≡ b → cond a (display_fits w q s negative size) (cond b (packed_fits w q negative size) (eqb p 2 && zoned_fits w q negative size)) ≡ true
          → Fits p q r s mask w 7 (decimal negative size r) t
      by l true b h k e =
          let a = both (digits_fit w q negative size) (leb s w) e in
          display-fits negative size t (eqb-true p 0 h) (digits-sound w q negative size a.0) (leb-true s w a.1) l
      by l false true h k e =
          let a = both (ltb 0 w) (ltb size (10 ^ (2 * w - 1)) && sign_ok q negative size) e in
          let b = both (ltb size (10 ^ (2 * w - 1))) (sign_ok q negative size) a.1 in
          packed-fits negative size t (eqb-true p 1 k) (ltb-true 0 w a.0) (ltb-true size (10 ^ (2 * w - 1)) b.0) l (sign-sound q negative size b.1)
      by l false false h k e =
          let c = both (eqb p 2) (zoned_fits w q negative size) e in
          let a = both (ltb 0 w) (ltb size (10 ^ w) && sign_ok q negative size) c.1 in
          let b = both (ltb size (10 ^ w)) (sign_ok q negative size) a.1 in
          zoned-fits negative size t (eqb-true p 2 c.0) (ltb-true 0 w a.0) (ltb-true size (10 ^ w) b.0) l (sign-sound q negative size b.1)

  edited-so : (negative : Bool) (size : ℕ) → edited_fits (flag p) w negative size mask ≡ true → Fits p q r s mask w 8 (decimal negative size r) t
  unfolding edited_fits
  edited-so negative size e =
      let a = both (eqb (length mask) w) (mask_fits size mask && edited_minus_ok (flag p) negative size mask) e in
      let b = both (mask_fits size mask) (edited_minus_ok (flag p) negative size mask) a.1 in
      let f = edited-sound (flag p) negative size mask b.0 b.1 in
      edited-fits negative size t (eqb-true (length mask) w a.0) f.0 f.1.0 f.1.1

  number-so : (kind : ℕ) (negative : Bool) (size : ℕ) → cond (eqb kind 7) (decimal_fits p q s w negative size) (eqb kind 8 && edited_fits (flag p) w negative size mask) ≡ true
      → Fits p q r s mask w kind (decimal negative size r) t
  number-so kind negative size e = by (eqb kind 7) refl e
    where
      by : (b : Bool) → eqb kind 7 ≡ b → cond b (decimal_fits p q s w negative size) (eqb kind 8 && edited_fits (flag p) w negative size mask) ≡ true → Fits p q r s mask w kind (decimal negative size r) t
      by true k e = rw (eqb-true kind 7 k) (decimal-so negative size e)
      by false k e = let a = both (eqb kind 8) (edited_fits (flag p) w negative size mask) e in rw (eqb-true kind 8 a.0) (edited-so negative size a.1)

  word-so : (x : ℕ) → word_fits q w x ≡ true → Fits p q r s mask w 3 (float_of x) t
  unfolding word_fits
  word-so x e =
      let a = both (exact_in q x) (eqb w (q / 8)) e in
      float_fits x t (exact-true q x a.0) (eqb-true w (q / 8) a.1)

  sound : (kind : ℕ) (v : Scalar) → fits_of p q r s mask w kind v t ≡ true → Fits p q r s mask w kind v t
  unfolding fits_of
  sound kind Null e = absurd (false≢true e)
  sound kind (Text start count) e = text-so kind start count e
  sound kind (Int negative size) e = int-so kind negative size e
  sound kind (Decimal negative size scale) e =
      let a = both (eqb scale r) (cond (eqb kind 7) (decimal_fits p q s w negative size) (eqb kind 8 && edited_fits (flag p) w negative size mask)) e in
      rw (eqb-true scale r a.0) (number-so kind negative size a.1)
  sound kind (FloatV x) e =
      let a = both (eqb kind 3) ((fits binary64 x && not (is_nan x)) && word_fits q w (to_bits binary64 x)) e in
      let b = both (fits binary64 x && not (is_nan x)) (word_fits q w (to_bits binary64 x)) a.1 in
      rw (eqb-true kind 3 a.0) (subst (λ (v : Scalar). Fits p q r s mask w 3 v t) (plain_float x b.0) (word-so (to_bits binary64 x) b.1))
  sound kind (FloatBits x) e =
      let a = both (eqb kind 3) (nan_bits binary64 x && word_fits q w x) e in
      let b = both (nan_bits binary64 x) (word_fits q w x) a.1 in
      let f : float_of x ≡ FloatBits x = rw b.0 in
      rw (eqb-true kind 3 a.0) (subst (λ (v : Scalar). Fits p q r s mask w 3 v t) f (word-so x b.1))
  sound kind (BoolV b) e =
      let a = both (eqb kind 5) (eqb w 1) e in
      rw (eqb-true kind 5 a.0) (bool-fits b t (eqb-true w 1 a.1))

pub fits-sound : {p q r s : ℕ} {mask : List ℕ} {w kind : ℕ} {v : Scalar} {t : List ℕ} → fits_of p q r s mask w kind v t ≡ true → Fits p q r s mask w kind v t
fits-sound {p} {q} {r} {s} {mask} {w} {kind} {v} {t} e = sound p q r s mask w t kind v e

-- ---- the other direction

word_test : (q w x : ℕ) → Exact q x → w ≡ q / 8 → word_fits q w x ≡ true
unfolding word_fits
word_test q w x f e = and (true-exact f) (eq-eqb w (q / 8) e)

float_test : (p q r s : ℕ) (mask : List ℕ) (w x : ℕ) (t : List ℕ) → Exact q x → w ≡ q / 8 → fits_of p q r s mask w 3 (float_of x) t ≡ true
unfolding fits_of
float_test p q r s mask w x t f e = by (nan_bits binary64 x) refl
  where
    by : (b : Bool) → nan_bits binary64 x ≡ b → fits_of p q r s mask w 3 (cond b (FloatBits x) (FloatV (of_bits binary64 x))) t ≡ true
    by true n = and n (word_test q w x f e)
    by false n =
        let k : to_bits binary64 (of_bits binary64 x) ≡ x = sym (ap (λ (b : Bool). first_of (cond b (FloatBits x) (FloatV (of_bits binary64 x)))) n) ∙ float-first x (exact-lt f) in
        and (float_plain x n) (rw k (word_test q w x f e))

pub fits-complete : {p q r s : ℕ} {mask : List ℕ} {w kind : ℕ} {v : Scalar} {t : List ℕ} → Fits p q r s mask w kind v t → fits_of p q r s mask w kind v t ≡ true
unfolding fits_of int_fits binary_fits decimal_fits edited_fits
fits-complete {p} {q} {r} {s} {mask} {w} (text-fits start count t f) = text-complete (flag p) (flag q) (r % 256) w t f
fits-complete {p} {q} (int-fits negative size t e d l) = rw (lt-ltb size (2 ^ 63) l, e) (digits-complete d)
fits-complete {p} {q} {w = w} (embedded-fits negative size t e h k l m) =
    let o = eqb-true q 1 (and_right (flag p) (eqb q 1) e) in
    rw (lt-ltb size (2 ^ 63) l, e) (and (lt-ltb 0 w h) (and (lt-ltb size (10 ^ w) k) (sign-complete q negative size (λ _. rw o, m))))
fits-complete (binary-fits negative size t ok f) = and ok (range-complete f)
fits-complete {p} {q} {r} {s} {mask} {w} (float_fits x t f e) = float_test p q r s mask w x t f e
fits-complete {w = w} (hex-fits start count t f) = hex-complete w t f
fits-complete {w = w} (bool-fits b t e) = eq-eqb w 1 e
fits-complete {r = r} {s = s} {w = w} (display-fits negative size t e d k l) = rw (eq-eqb r r refl, lt-ltb size limit l, e) (and (digits-complete d) (le-leb s w k))
fits-complete {q = q} {r = r} {w = w} (packed-fits negative size t e h k l g) =
    rw (eq-eqb r r refl, lt-ltb size limit l, e) (and (lt-ltb 0 w h) (and (lt-ltb size (10 ^ (2 * w - 1)) k) (sign-complete q negative size g)))
fits-complete {q = q} {r = r} {w = w} (zoned-fits negative size t e h k l g) =
    rw (eq-eqb r r refl, lt-ltb size limit l, e) (and (lt-ltb 0 w h) (and (lt-ltb size (10 ^ w) k) (sign-complete q negative size g)))
fits-complete {p} {r = r} {mask = mask} {w = w} (edited-fits negative size t e f l m) =
    let a = edited-complete (flag p) negative size mask f l m in
    rw (eq-eqb r r refl, eq-eqb (length mask) w e) (and a.0 a.1)
