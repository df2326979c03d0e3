-- The code's tests, one at a time, give the tests of the definition.
use mathlib.Core.Path.{◌≡◌, refl, sym, ap, ◌∙◌, subst}
use mathlib.Core.List.{List, [], ◌∷◌}
use mathlib.Core.Bool.{Bool, true, false, not, ◌&&◌, cond, and-true, false≢true, true≢false}
use Prim.Native.Nat.{ℕ, suc, ◌+◌, ◌-◌, ◌*◌, ◌/◌, ◌%◌, ◌^◌, ◌<◌, ◌≤◌}
use native.Mathlib.Omega.{arith}
use lib.Dec.{eqb, leb, ltb, T}
use lib.ListN.{length, get_or}
use lib.Ieee.{Float, nan, inf, fin, binary64, eq, ne, fits, is_nan, to_bits}
use lib.Ieee.Compare.{differs_from_itself}
use borrow.Author.Tests.{lt-ltb, le-ltb, le-leb, lt-leb, eq-eqb, ne_eqb, ltb-true, ltb-false, leb-true, leb-false, eqb-true}
use Rattle.lists.specs.Scan.{every_by}
use Rattle.lists.proofs.Logic.{and}
use Rattle.lists.proofs.Scan.{every_true}
use Rattle.value.specs.Answer.{given}
use Rattle.value.specs.Number.{number as whole-number}
use Rattle.value.specs.Digits.{limit}
use Rattle.numerals.specs.Numerals.{is_sign}
use Rattle.display.specs.Display as Display
use Rattle.binary.specs.Binary.{width_ok}
use Rattle.binary.proofs.Integers.{width_low, width-high, half_twice, half_at}
use Rattle.edited.specs.Edited.{judged, is_lawful, is_floating, count_of, positions}
use Rattle.fits.specs.Decide.{byte_ok, is_text_byte, untrimmed_fits, in_range, tells, mask_fits, word_fits}

-- ---- a test, and another where it passes

pub go : {a A x X : Bool} → a ≡ A → a ≡ true → x ≡ X → x ≡ (A && X)
go e t f = rw (← e, t) f

pub stop : {a A : Bool} (X : Bool) → a ≡ A → a ≡ false → false ≡ (A && X)
stop X e t = rw (← e, t)

pub some : (n : ℕ) → (n ≡ 0 → ⊥) → ltb 0 n ≡ true
some n h = lt-ltb 0 n (omega arith)

-- ---- Text and Hex

pub byte-fine : (x : ℕ) → (x ≡ 0 → ⊥) → x < 256 → is_text_byte x ≡ true
byte-fine x n h = and (some x n) (lt-ltb x 256 h)

pub byte-none : (x : ℕ) → x ≡ 0 → is_text_byte x ≡ false
byte-none x e = rw e

pub byte-some : (x : ℕ) → x < 256 → not (eqb x 0) ≡ is_text_byte x
byte-some x h = by (eqb x 0) refl
  where
    by : (b : Bool) → eqb x 0 ≡ b → not b ≡ is_text_byte x
    by true e = sym (byte-none x (eqb-true x 0 e))
    by false e = sym (byte-fine x (λ z. true≢false (sym (eq-eqb x 0 z) ∙ e)) h)

-- tests that agree on each element
pub every-same : (f g : ℕ → Bool) (t : List ℕ) → ((k : ℕ) → k < length t → f (get_or t k 0) ≡ g (get_or t k 0)) → every_by f t ≡ every_by g t
unfolding every_by
every-same f g [] h = refl
every-same f g (x ∷ t) h = rw (h 0 (omega arith), every-same f g t (λ k l. h (suc k) (omega arith)))

-- of bytes, only how many there are is asked
pub untrimmed-long : (w : ℕ) (t : List ℕ) → ((k : ℕ) → k < length t → get_or t k 0 < 256) → eqb (length t) w ≡ untrimmed_fits w t
untrimmed-long w t h = rw (every_true byte_ok t (λ k b. lt-ltb (get_or t k 0) 256 (h k b)), and-true)

-- twice a width, by halves
pub half_length : (n w : ℕ) → (n % 2 ≡ 1 → ⊥) → n / 2 ≡ w → eqb n (2 * w) ≡ true
half_length n w h e = eq-eqb n (2 * w) (omega arith)

pub other_length : (n w : ℕ) → (n / 2 ≡ w → ⊥) → eqb n (2 * w) ≡ false
other_length n w h = ne_eqb n (2 * w) (λ e. h (omega arith))

-- ---- Int and Binary

module _ (w : ℕ) (ok : width_ok w ≡ true) (size : ℕ) where
  twice : 2 * half_at w ≡ 256 ^ w
  twice = half_twice w (width_low w ok) (width-high w ok)

  pub range-minus : (size ≡ 0 → ⊥) → leb size (half_at w) ≡ in_range w true true size
  range-minus h = rw (some size h, ← twice) (by (leb size (half_at w)) refl)
    where
      by : (b : Bool) → leb size (half_at w) ≡ b → leb size (half_at w) ≡ leb (2 * size) (2 * half_at w)
      by true e = e ∙ sym (le-leb (2 * size) (2 * half_at w) (let k = leb-true size (half_at w) e in omega arith))
      by false e = e ∙ sym (lt-leb (2 * size) (2 * half_at w) (let k = leb-false size (half_at w) e in omega arith))

  pub range-plus : ltb size (half_at w) ≡ in_range w true false size
  range-plus = rw (← twice) (by (ltb size (half_at w)) refl)
    where
      by : (b : Bool) → ltb size (half_at w) ≡ b → ltb size (half_at w) ≡ ltb (2 * size) (2 * half_at w)
      by true e = e ∙ sym (lt-ltb (2 * size) (2 * half_at w) (let k = ltb-true size (half_at w) e in omega arith))
      by false e = e ∙ sym (le-ltb (2 * size) (2 * half_at w) (let k = ltb-false size (half_at w) e in omega arith))

  pub range-unsigned : size < 2 ^ 63 → ltb (size / 2) (half_at w) ≡ in_range w false false size
  range-unsigned h = rw (← twice) (by (ltb (size / 2) (half_at w)) refl)
    where
      by : (b : Bool) → ltb (size / 2) (half_at w) ≡ b → ltb (size / 2) (half_at w) ≡ (ltb size (2 * half_at w) && ltb size (2 ^ 63))
      by true e = e ∙ sym (and (lt-ltb size (2 * half_at w) (let k = ltb-true (size / 2) (half_at w) e in omega arith)) (lt-ltb size (2 ^ 63) h))
      by false e = e ∙ rw (le-ltb size (2 * half_at w) (let k = ltb-false (size / 2) (half_at w) e in omega arith))

-- ---- Float

number : (x : Float) → eq x x ≡ true → is_nan x ≡ false
unfolding eq is_nan
number nan e = absurd (true≢false (sym e))
number (inf s) e = refl
number (fin s m d) e = refl

no_number : (x : Float) → eq x x ≡ false → is_nan x ≡ true
unfolding ne is_nan
no_number x e = ap is_nan (differs_from_itself x (subst (λ (t : Bool). T (not t)) (sym e) tt))

pub float-stop : (bits w : ℕ) (x : Float) → fits binary64 x ≡ true → eq x x ≡ false → false ≡ ((fits binary64 x && not (is_nan x)) && word_fits bits w (to_bits binary64 x))
float-stop bits w x f e = rw (f, no_number x e)

-- ---- Edited

pub tells_none : (mask : List ℕ) → length mask ≡ 0 → false ≡ tells mask
unfolding tells
tells_none [] e = refl
tells_none (x ∷ m) e = absurd (omega arith)

module _ (mask : List ℕ) {a : Bool} (ea : a ≡ is_sign (get_or mask 0 0)) where
  pub tells_first : a ≡ true → true ≡ tells mask
  unfolding tells
  tells_first t = rw (← ea, t)

-- the three questions of a mask at once
asked : (F S P E L : Bool) → eqb (cond F 15 (cond (S && (P && E)) (cond L 0 15) 14)) 0 ≡ true → (Z : Bool) → Z ≡ (L && (not F && (Z && (P && (E && S)))))
asked true S P E L e Z = absurd (false≢true e)
asked false true true true true e true = refl
asked false true true true true e false = refl
asked false true true true false e Z = absurd (false≢true e)
asked false true true false L e Z = absurd (false≢true e)
asked false true false E L e Z = absurd (false≢true e)
asked false false P E L e Z = absurd (false≢true e)

answered : (F S P E L : Bool) → eqb (cond F 15 (cond (S && (P && E)) (cond L 0 15) 14)) 0 ≡ false → (Z : Bool) → false ≡ (L && (not F && (Z && (P && (E && S)))))
answered F S P E false e Z = refl
answered true S P E true e Z = refl
answered false S P E true e false = refl
answered false S false E true e true = refl
answered false S true false true e true = refl
answered false false true true true e true = refl
answered false true true true true e true = absurd (false≢true (sym e))

module _ (size n : ℕ) (mask : List ℕ) (e : n ≡ judged mask (given (whole-number false size))) where
  pub mask-go : n ≡ 0 → (k : ℕ) → k ≡ count_of 48 mask → eqb k 0 ≡ mask_fits size mask
  unfolding judged
  mask-go z k g =
      rw g (asked (is_floating mask) (ltb size limit) (ltb 0 (positions mask)) (ltb size (10 ^ positions mask)) (is_lawful mask) (eq-eqb _ 0 (sym e ∙ z)) (eqb (count_of 48 mask) 0))

  pub mask-stop : (n ≡ 0 → ⊥) → false ≡ mask_fits size mask
  unfolding judged
  mask-stop z =
      answered (is_floating mask) (ltb size limit) (ltb 0 (positions mask)) (ltb size (10 ^ positions mask)) (is_lawful mask) (ne_eqb _ 0 (λ q. z (e ∙ q))) (eqb (count_of 48 mask) 0)
