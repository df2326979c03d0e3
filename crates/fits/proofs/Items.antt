-- A value that fits a field has the tag of the field's kind, and the words of its item give it back.
use mathlib.Core.Path.{◌≡◌, refl, ◌∙◌, subst}
use mathlib.Core.List.{List}
use mathlib.Core.Bool.{Bool, true, false, false≢true}
use Prim.Native.Nat.{ℕ, ◌^◌, ◌<◌, ◌≤◌}
use native.Mathlib.Nat.{pow-le-pow_right}
use native.Mathlib.Omega.{arith}
use lib.Dec.{ltb, lit<}
use borrow.Author.Tests.{ltb-true, ltb-false}
use Rattle.value.specs.declared.Scalar.{Scalar}
use Rattle.value.specs.declared.Scalar.TheVariants.{Int, Decimal}
use Rattle.value.specs.Digits.{limit}
use Rattle.value.specs.Word.{word_of, minus_in, size_in}
use Rattle.value.specs.Scalar.{tag_of, first_of, second_of, float_of, scalar_of}
use Rattle.value.proofs.Word.{minus-back, size_back}
use Rattle.value.proofs.Items.{float_tag, float-first}
use Rattle.binary.specs.Binary.{width_ok}
use Rattle.binary.proofs.Integers.{width-high}
use Rattle.float.proofs.Back.{exact-lt}
use Rattle.fits.specs.Fits.{Minus, InRange, unsigned, plus, minus, Fits}
use Rattle.fits.specs.Fits.{text-fits, int-fits, embedded-fits, binary-fits, float_fits, hex-fits, bool-fits, display-fits, packed-fits, zoned-fits, edited-fits}
use Rattle.fits.proofs.Back.{minus_is, digits-minus}
use Rattle.fits.specs.Decide.{tag_for}

-- "Text for Text and Hex, Int for Int and Binary, Decimal for Decimal and Edited, Float for Float, Bool for Bool"
pub kind-scalar : {p q r s : ℕ} {mask : List ℕ} {w kind : ℕ} {v : Scalar} {t : List ℕ} → Fits p q r s mask w kind v t → tag_of v ≡ tag_for kind
kind-scalar (text-fits start count t f) = refl
kind-scalar (int-fits negative size t e d l) = refl
kind-scalar (embedded-fits negative size t e h k l m) = refl
kind-scalar (binary-fits negative size t ok f) = refl
kind-scalar (float_fits x t f e) = float_tag x
kind-scalar (hex-fits start count t f) = refl
kind-scalar (bool-fits b t e) = refl
kind-scalar (display-fits negative size t e d k l) = refl
kind-scalar (packed-fits negative size t e h k l g) = refl
kind-scalar (zoned-fits negative size t e h k l g) = refl
kind-scalar (edited-fits negative size t e f l m) = refl

-- ---- the words of a number

-- what a word holds: below 2^63, or 2^63 itself with a minus
pub data Held : Bool → ℕ → Type 0 where
  small : (negative : Bool) (size : ℕ) → Minus negative size → size < 2 ^ 63 → Held negative size
  least : Held true (2 ^ 63)

pub minus-held : {negative : Bool} {size : ℕ} → Held negative size → minus_in (word_of negative size) ≡ negative
minus-held (small negative size m h) = minus-back negative size h ∙ minus_is negative size m
minus-held least = refl

pub size-held : {negative : Bool} {size : ℕ} → Held negative size → size_in (word_of negative size) ≡ size
size-held (small negative size m h) = size_back negative size h
size-held least = refl

below-limit : (size : ℕ) → size < limit → size < 2 ^ 63
below-limit size h = omega arith

-- at most 8 bytes
range-held : {w : ℕ} {signed negative : Bool} {size : ℕ} → 256 ^ w ≤ 2 ^ 64 → InRange w signed negative size → Held negative size
range-held le (unsigned size h k) = small false size (λ e. absurd (false≢true e)) k
range-held le (plus size h) = small false size (λ e. absurd (false≢true e)) (omega arith)
range-held le (minus size z h) = at (ltb size (2 ^ 63)) refl
  where
    at : (b : Bool) → ltb size (2 ^ 63) ≡ b → Held true size
    at true e = small true size (λ q. z) (ltb-true size (2 ^ 63) e)
    at false e = let k : size ≡ 2 ^ 63 = let l = ltb-false size (2 ^ 63) e in omega arith in rw k least

width-le : (w : ℕ) → width_ok w ≡ true → 256 ^ w ≤ 2 ^ 64
width-le w ok = subst (λ (m : ℕ). 256 ^ w ≤ m) eight (pow-le-pow_right {n = 256} (lit< tt) (width-high w ok))
  where
    eight : 256 ^ 8 ≡ 2 ^ 64
    eight = refl

int-words : {negative : Bool} {size : ℕ} → Held negative size → scalar_of 2 (word_of negative size) 0 ≡ Int negative size
unfolding scalar_of
int-words h = rw (size-held h, minus-held h)

decimal-words : (scale : ℕ) {negative : Bool} {size : ℕ} → Held negative size → scalar_of 3 (word_of negative size) scale ≡ Decimal negative size scale
unfolding scalar_of
decimal-words scale h = rw (size-held h, minus-held h)

float-words : (x : ℕ) → x < 2 ^ 64 → scalar_of (tag_of (float_of x)) (first_of (float_of x)) (second_of (float_of x)) ≡ float_of x
unfolding scalar_of
float-words x h = rw (float_tag x, float-first x h)

pub item_back : {p q r s : ℕ} {mask : List ℕ} {w kind : ℕ} {v : Scalar} {t : List ℕ} → Fits p q r s mask w kind v t → scalar_of (tag_of v) (first_of v) (second_of v) ≡ v
unfolding scalar_of
item_back (text-fits start count t f) = refl
item_back (int-fits negative size t e d l) = int-words (small negative size (digits-minus d) l)
item_back (embedded-fits negative size t e h k l m) = int-words (small negative size m l)
item_back {w = w} (binary-fits negative size t ok f) = int-words (range-held (width-le w ok) f)
item_back (float_fits x t f e) = float-words x (exact-lt f)
item_back (hex-fits start count t f) = refl
item_back (bool-fits true t e) = refl
item_back (bool-fits false t e) = refl
item_back {r = r} (display-fits negative size t e d k l) = decimal-words r (small negative size (digits-minus d) (below-limit size l))
item_back {r = r} (packed-fits negative size t e h k l g) = decimal-words r (small negative size g.1 (below-limit size l))
item_back {r = r} (zoned-fits negative size t e h k l g) = decimal-words r (small negative size g.1 (below-limit size l))
item_back {r = r} (edited-fits negative size t e f l m) = decimal-words r (small negative size m (below-limit size l))
