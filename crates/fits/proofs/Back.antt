-- A value that fits a scalar field is accepted, and reading its bytes gives it back: every kind, any width, both pages. Demand 3 cites this.
use mathlib.Core.Path.{◌≡◌, refl, sym, ap, ◌∙◌}
use mathlib.Core.List.{List}
use mathlib.Core.Bool.{Bool, true, false, ◌&&◌, cond, and-false, false≢true}
use Prim.Native.Nat.{ℕ, ◌-◌, ◌*◌, ◌/◌, ◌%◌, ◌^◌, ◌<◌, ◌≤◌}
use native.Mathlib.Nat.{mod-lt}
use lib.Dec.{ltb, lit<}
use lib.Ieee.{binary64, nan_bits, of_bits}
use lib.ListN.{length}
use borrow.Author.Tests.{lt-ltb, eq-eqb}
use Rattle.lists.specs.Scan.{every_by}
use Rattle.value.specs.declared.Scalar.{Scalar}
use Rattle.value.specs.declared.Scalar.TheVariants.{Text, Int, Float as FloatV, FloatBits, Bool as BoolV}
use Rattle.value.specs.Answer.{Answer, given}
use Rattle.value.specs.Digits.{limit}
use Rattle.value.specs.declared.Whole.{Whole}
use Rattle.value.specs.Number.{number}
use Rattle.value.specs.Scalar.{decimal, tag_of, first_of, float_of}
use Rattle.value.proofs.Items.{float-first, float_tag}
use Rattle.value.proofs.Rounding.{scale_same}
use Rattle.value.proofs.Room.{room_fits}
use Rattle.text.specs.Text as Text
use Rattle.text.proofs.Back as TextBack
use Rattle.display.specs.Display as Display
use Rattle.display.proofs.Back as DisplayBack
use Rattle.binary.specs.Binary.{width_ok, integer_of, integer_bytes, bool_of}
use Rattle.binary.proofs.Back as BinaryBack
use Rattle.float.specs.Convert.{floated_of, decimal_for}
use Rattle.float.specs.Field.{Exact, exact64, exact32, exact16, field_ok}
use Rattle.float.proofs.Back as FloatBack
use Rattle.hex_field.specs.Hex as Hex
use Rattle.hex_field.proofs.Back as HexBack
use Rattle.packed.specs.Packed as Packed
use Rattle.packed.proofs.Writing as PackedWriting
use Rattle.packed.proofs.Round as PackedRound
use Rattle.zoned.specs.Zoned as Zoned
use Rattle.zoned.proofs.Back as ZonedBack
use Rattle.edited.specs.Fits as EditedFits
use Rattle.edited.proofs.Round as EditedRound
use Rattle.decode_scalar.specs.Decode.{value, text, says, flag, is_embedded, int_says, decimal_says}
use Rattle.encode_scalar.specs.Encode.{number_judged, number_bytes, judged_of, bytes_of}
use Rattle.fits.specs.Fits.{Minus, Digits, plain, separate, InRange, unsigned, plus, minus, Fits, text-fits}
use Rattle.fits.specs.Fits.{int-fits, embedded-fits, binary-fits, float_fits, hex-fits, bool-fits, display-fits, packed-fits, zoned-fits, edited-fits, said_of}
use Rattle.fits.proofs.Embedded.{embedded-back}

-- a value is accepted, and what is written for it says it
pub record Kept (kind p q r s : ℕ) (mask : List ℕ) (page w : ℕ) (v : Scalar) (t : List ℕ) : Type 0 where
  pub accepted : judged_of kind p q r s mask w (tag_of v) v t ≡ 0
  pub said : says kind p q r page (bytes_of kind p q r mask page w v t) ≡ said_of v t

-- a sign that only a number other than 0 has
pub minus_is : (negative : Bool) (size : ℕ) → Minus negative size → (ltb 0 size && negative) ≡ negative
minus_is true size m = rw (lt-ltb 0 size (m refl))
minus_is false size m = and-false (ltb 0 size)

pub digits-minus : {w sign : ℕ} {negative : Bool} {size : ℕ} → Digits w sign negative size → Minus negative size
digits-minus (plain size s h k) = λ e. absurd (false≢true e)
digits-minus (separate negative size s h k m) = m

pub digits-fit : {w sign : ℕ} {negative : Bool} {size : ℕ} (signed : Bool) → Digits w sign negative size → Display.int_fits w negative size signed sign ≡ true
digits-fit {w} {sign} signed (plain size s h k) = DisplayBack.fits-plain w false size signed sign s refl h k
digits-fit {w} {sign} signed (separate negative size s h k m) = DisplayBack.fits-separate w negative size signed sign s h k

digits-plain : {w sign : ℕ} {negative : Bool} {size : ℕ} → Digits w sign negative size → Display.is_separate sign ≡ false → negative ≡ false
digits-plain (plain size s h k) e = refl
digits-plain (separate negative size s h k m) e = absurd (false≢true (sym e ∙ s))

-- a decimal of the entry's scale stays as it is
pub same_scale : (negative : Bool) (size r : ℕ) → size < limit → Minus negative size → decimal_for (decimal negative size r) r ≡ given (number negative size)
unfolding decimal_for
same_scale negative size r l m = rw (scale_same r size, lt-ltb size limit l, minus_is negative size m)

signed-minus : (q : ℕ) (negative : Bool) → (negative ≡ true → flag q ≡ true) → (flag q && negative) ≡ negative
signed-minus q true h = rw (h refl)
signed-minus q false h = and-false (flag q)

module _ (p q r s : ℕ) (mask : List ℕ) (page w : ℕ) (t : List ℕ) where
  text-kept : (start count : ℕ) → Text.Fits (flag p) (flag q) (r % 256) w t → Kept 0 p q r s mask page w (Text start count) t
  unfolding judged_of bytes_of says
  text-kept start count f =
      record {
        accepted = TextBack.text-accepted (flag p) (flag q) (r % 256) start count w t f;
        said = ap text (TextBack.read_back page (flag p) (flag q) (r % 256) w t (mod-lt r (lit< tt)) f);
      }

  int-kept : (negative : Bool) (size : ℕ) → is_embedded p q ≡ false → Digits w q negative size → size < 2 ^ 63 → Kept 1 p q r s mask page w (Int negative size) t
  unfolding judged_of number_judged bytes_of number_bytes says
  int-kept negative size e d l =
      let m = minus_is negative size (digits-minus d) in
      record {
        accepted = rw (m, e, digits-fit (flag p) d);
        said = rw (m, e) (ap int_says (DisplayBack.int-back page w negative size (flag p) q (digits-fit (flag p) d) (digits-plain d) l ∙ ap (λ (n : Bool). given (number n size)) m));
      }

  embedded-kept : (negative : Bool) (size : ℕ) → is_embedded p q ≡ true → 0 < w → size < 10 ^ w → size < 2 ^ 63 → Minus negative size → Kept 1 p q r s mask page w (Int negative size) t
  unfolding judged_of number_judged bytes_of number_bytes says
  embedded-kept negative size e h k l g =
      let m = minus_is negative size g in
      let f : Zoned.fits_of w size ≡ true = room_fits w size h k in
      record {
        accepted = rw (m, e, lt-ltb size (2 ^ 63) l, f);
        said = rw (m, e) (ap int_says (embedded-back w negative size f page l ∙ ap (λ (n : Bool). given (number n size)) m));
      }

  binary-kept : (negative : Bool) (size : ℕ) → width_ok w ≡ true → InRange w (flag q) negative size → Kept 2 p q r s mask page w (Int negative size) t
  unfolding judged_of number_judged bytes_of number_bytes says
  binary-kept negative size ok f =
      let m = minus_is negative size (range-minus f) in
      record { accepted = rw ok; said = rw m (ap int_says (range_back f)) }
    where
      range-minus : {b n : Bool} {v : ℕ} → InRange w b n v → Minus n v
      range-minus (unsigned v h k) = λ e. absurd (false≢true e)
      range-minus (plus v h) = λ e. absurd (false≢true e)
      range-minus (minus v z h) = λ e. z

      range_back : {b n : Bool} {v : ℕ} → InRange w b n v → integer_of p b (integer_bytes p w n v) ≡ given (number n v)
      range_back (unsigned v h k) = BinaryBack.unsigned_back p w ok v h k
      range_back (plus v h) = BinaryBack.plus-back p w ok v h
      range_back (minus v z h) = BinaryBack.minus-back p w ok v z h

  hex-kept : (start count : ℕ) → Hex.Fits w t → Kept 4 p q r s mask page w (Text start count) t
  unfolding judged_of number_judged bytes_of number_bytes says
  hex-kept start count f = record { accepted = HexBack.hex-fits w t f; said = ap text (HexBack.hex-back p w t f) }

  bool-kept : (b : Bool) → w ≡ 1 → Kept 5 p q r s mask page w (BoolV b) t
  unfolding judged_of bytes_of says bool_of every_by
  bool-kept true e = record { accepted = refl; said = refl }
  bool-kept false e = record { accepted = refl; said = refl }

  edited-kept : (negative : Bool) (size : ℕ) → length mask ≡ w → EditedFits.Fits (flag p) negative size mask → size < limit → Minus negative size
      → Kept 8 p q r s mask page w (decimal negative size r) t
  unfolding judged_of number_judged bytes_of number_bytes says
  edited-kept negative size e f l m =
      let n = same_scale negative size r l m in
      record {
        accepted = rw (n, EditedRound.fits-judged (flag p) negative size mask f l, eq-eqb w (length mask) (sym e));
        said = rw n (ap (decimal_says r) (EditedRound.decoded (flag p) negative size mask f page l ∙ ap (λ (b : Bool). given (number b size)) (minus_is negative size m)));
      }

  decimal-said : (negative : Bool) (size : ℕ) (n : Answer Whole) → n ≡ given (number negative size) → decimal_says r n ≡ value (decimal negative size r)
  decimal-said negative size n e = ap (decimal_says r) e

  display-kept : (negative : Bool) (size : ℕ) → p ≡ 0 → Digits w q negative size → s ≤ w → size < limit → Kept 7 p q r s mask page w (decimal negative size r) t
  unfolding judged_of number_judged bytes_of number_bytes says
  display-kept negative size e d k l =
      let m = minus_is negative size (digits-minus d) in
      let n = same_scale negative size r l (digits-minus d) in
      let f = digits-fit (Display.has_sign q) d in
      record {
        accepted = rw (n, e, DisplayBack.fits-decimal w s negative size q k f);
        said = rw (n, e) (decimal-said negative size _ (DisplayBack.decoded page w negative size (Display.has_sign q) q f (digits-plain d) l ∙ ap (λ (b : Bool). given (number b size)) m));
      }

  packed-kept : (negative : Bool) (size : ℕ) → p ≡ 1 → 0 < w → size < 10 ^ (2 * w - 1) → size < limit → (negative ≡ true → flag q ≡ true) → Minus negative size
      → Kept 7 p q r s mask page w (decimal negative size r) t
  unfolding judged_of number_judged bytes_of number_bytes says
  packed-kept negative size e h k l g m =
      let n = same_scale negative size r l m in
      let f : Packed.fits_of w size ≡ true = PackedWriting.fits_below w size h k in
      let b : (ltb 0 size && (flag q && negative)) ≡ negative = rw (signed-minus q negative g) (minus_is negative size m) in
      record {
        accepted = rw (n, e, f);
        said = rw (n, e) (decimal-said negative size _ (PackedRound.decoded w negative size (flag q) f l ∙ ap (λ (x : Bool). given (number x size)) b));
      }

  zoned-kept : (negative : Bool) (size : ℕ) → p ≡ 2 → 0 < w → size < 10 ^ w → size < limit → (negative ≡ true → flag q ≡ true) → Minus negative size
      → Kept 7 p q r s mask page w (decimal negative size r) t
  unfolding judged_of number_judged bytes_of number_bytes says
  zoned-kept negative size e h k l g m =
      let n = same_scale negative size r l m in
      let f : Zoned.fits_of w size ≡ true = room_fits w size h k in
      let b : (ltb 0 size && (flag q && negative)) ≡ negative = rw (signed-minus q negative g) (minus_is negative size m) in
      record {
        accepted = rw (n, e, f);
        said = rw (n, e) (decimal-said negative size _ (ZonedBack.decoded page w negative size (flag q) f l ∙ ap (λ (x : Bool). given (number x size)) b));
      }

  -- a float's scalar is its word again
  pub floated : (x : ℕ) → x < 2 ^ 64 → floated_of (float_of x) ≡ given x
  unfolding floated_of
  floated x h = by (nan_bits binary64 x) refl
    where
      by : (b : Bool) → nan_bits binary64 x ≡ b → floated_of (cond b (FloatBits x) (FloatV (of_bits binary64 x))) ≡ given x
      by true e = refl
      by false e = ap given (sym (ap (λ b. first_of (cond b (FloatBits x) (FloatV (of_bits binary64 x)))) e) ∙ float-first x h)

  float-said : (x : ℕ) → said_of (float_of x) t ≡ value (float_of x)
  float-said x = by (nan_bits binary64 x)
    where
      by : (b : Bool) → said_of (cond b (FloatBits x) (FloatV (of_bits binary64 x))) t ≡ value (cond b (FloatBits x) (FloatV (of_bits binary64 x)))
      by true = refl
      by false = refl

  exact-width : {bits x : ℕ} → Exact bits x → w ≡ bits / 8 → field_ok bits w ≡ true
  exact-width (exact64 x h) e = rw e
  exact-width (exact32 x v h n f) e = rw e
  exact-width (exact16 x v h n f) e = rw e

  float-kept : (x : ℕ) → Exact q x → w ≡ q / 8 → Kept 3 p q r s mask page w (float_of x) t
  unfolding judged_of number_judged bytes_of number_bytes says
  float-kept x f e =
      let g = floated x (FloatBack.exact-lt f) in
      record {
        accepted = rw (float_tag x, g, exact-width f e);
        said = rw (g, e, FloatBack.float-kept p f) (sym (float-said x));
      }

-- every kind
pub field-kept : (p q r s : ℕ) (mask : List ℕ) (page w : ℕ) {kind : ℕ} {v : Scalar} {t : List ℕ} → Fits p q r s mask w kind v t → Kept kind p q r s mask page w v t
field-kept p q r s mask page w (text-fits start count t f) = text-kept p q r s mask page w t start count f
field-kept p q r s mask page w (int-fits negative size t e d l) = int-kept p q r s mask page w t negative size e d l
field-kept p q r s mask page w (embedded-fits negative size t e h k l m) = embedded-kept p q r s mask page w t negative size e h k l m
field-kept p q r s mask page w (binary-fits negative size t ok f) = binary-kept p q r s mask page w t negative size ok f
field-kept p q r s mask page w (float_fits x t f e) = float-kept p q r s mask page w t x f e
field-kept p q r s mask page w (hex-fits start count t f) = hex-kept p q r s mask page w t start count f
field-kept p q r s mask page w (bool-fits b t e) = bool-kept p q r s mask page w t b e
field-kept p q r s mask page w (display-fits negative size t e d k l) = display-kept p q r s mask page w t negative size e d k l
field-kept p q r s mask page w (packed-fits negative size t e h k l g) = packed-kept p q r s mask page w t negative size e h k l g.0 g.1
field-kept p q r s mask page w (zoned-fits negative size t e h k l g) = zoned-kept p q r s mask page w t negative size e h k l g.0 g.1
field-kept p q r s mask page w (edited-fits negative size t e f l m) = edited-kept p q r s mask page w t negative size e f l m
