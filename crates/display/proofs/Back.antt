-- What is written into an Int or a Display field is read back, over any width and on either page.
use mathlib.Core.Path.{◌≡◌, refl, sym, ◌∙◌, ap}
use mathlib.Core.List.{List, [], ◌∷◌, ◌++◌, map}
use mathlib.Core.Bool.{Bool, true, false, ◌&&◌, not, cond}
use Prim.Native.Nat.{ℕ, zero, suc, ◌-◌, ◌^◌, ◌<◌, ◌≤◌}
use native.Mathlib.Nat.{not-suc-le-zero}
use native.Mathlib.Omega.{arith}
use lib.Dec.{leb, eqb}
use lib.ListN.{length, get_or, length-append}
use borrow.Author.Tests.{lt-ltb, le-leb, ne_eqb}
use Rattle.value.specs.Digits.{digit_text, limit, room_for}
use Rattle.value.specs.Number.{some, read_in, unlawful}
use Rattle.value.proofs.Digits.{length-digit_text, value-of-digits}
use Rattle.value.proofs.Answers.{number_in-fits}
use Rattle.value.proofs.Field.{last_snoc, front-snoc}
use Rattle.value.proofs.Room.{room-some, room-below}
use Rattle.lists.proofs.Lists.{get_d_map}
use Rattle.lists.proofs.Logic.{and_right}
use Rattle.ebcdic.specs.Ebcdic.{from_page, onto_page}
use Rattle.ebcdic.proofs.Laws.{bytes_back, onto-byte}
use Rattle.numerals.specs.Numerals.{is_sign, sign_byte}
use Rattle.numerals.proofs.Text.{Inked, inked-cons, inked-snoc, inked-digit_text, trimmed-inked, all_digits, digits-back, kept_read, a-sign, a-minus}
use Rattle.display.specs.Display.{is_separate, sign_at, rest_of, digits_in, whole_of, int_in, int_of, decimal_by, decimal_of, int_fits, int_bytes, has_sign, decimal_fits}

sign_low : (negative : Bool) → 43 ≤ sign_byte negative
sign_low true = omega arith
sign_low false = omega arith

sign_high : (negative : Bool) → sign_byte negative ≤ 57
sign_high true = omega arith
sign_high false = omega arith

inked-bytes : (w : ℕ) (negative : Bool) (size sign : ℕ) → Inked (int_bytes w negative size sign)
unfolding int_bytes
inked-bytes w negative size sign = by (eqb sign 2) (eqb sign 3)
  where
    by : (a b : Bool) → Inked (cond a (sign_byte negative ∷ digit_text (w - 1) size) (cond b (digit_text (w - 1) size ++ (sign_byte negative ∷ [])) (digit_text w size)))
    by true b = inked-cons (sign_byte negative) (digit_text (w - 1) size) (sign_low negative) (sign_high negative) (inked-digit_text (w - 1) size)
    by false true = inked-snoc (sign_byte negative) (digit_text (w - 1) size) (sign_low negative) (sign_high negative) (inked-digit_text (w - 1) size)
    by false false = inked-digit_text w size

-- ---- a text of digits alone

first-digit : (w size : ℕ) → 0 < w → 48 ≤ get_or (digit_text w size) 0 0
first-digit zero size h = absurd (not-suc-le-zero h)
first-digit (suc w) size h = omega arith

digits-read : (bound : ℕ) (negative : Bool) (w size : ℕ) → 0 < w → size < 10 ^ w → size < bound → digits_in bound negative (digit_text w size) ≡ some negative size
unfolding digits_in
digits-read bound negative w size h k b =
    rw (length-digit_text w size, lt-ltb 0 w h, all_digits w size, digits-back w size, value-of-digits w size k) (number_in-fits 9 bound negative size b)

whole-read : (w size : ℕ) → 0 < w → size < 10 ^ w → size < 2 ^ 63 → whole_of (digit_text w size) ≡ some false size
unfolding whole_of
whole-read w size h k b =
    let f = first-digit w size h in
    rw (ne_eqb (get_or (digit_text w size) 0 0) 45 (omega arith), ne_eqb (get_or (digit_text w size) 0 0) 43 (omega arith)) (digits-read (2 ^ 63) false w size h k b)

-- ---- the parts of a written field

-- the places of the digits
abbrev pub places_of : ℕ → ℕ → ℕ
places_of sign w = cond (is_separate sign) (w - 1) w

record Parts (w : ℕ) (negative : Bool) (size sign : ℕ) (t : List ℕ) : Type 0 where
  taken : is_sign (sign_at sign t) ≡ is_separate sign
  minus : eqb (sign_at sign t) 45 ≡ (is_separate sign && negative)
  rest : rest_of sign t ≡ digit_text (places_of sign w) size

parts : (w : ℕ) (negative : Bool) (size sign : ℕ) → Parts w negative size sign (int_bytes w negative size sign)
unfolding int_bytes sign_at rest_of
parts w negative size sign = by (eqb sign 2) (eqb sign 3) refl refl
  where
    by : (a b : Bool) → eqb sign 2 ≡ a → eqb sign 3 ≡ b → Parts w negative size sign (int_bytes w negative size sign)
    by true b ea eb = record {
      taken = rw ea (a-sign negative);
      minus = rw ea (a-minus negative);
      rest = rw (ea, a-sign negative);
    }
    by false true ea eb = record {
      taken = rw (ea, eb, last_snoc (digit_text (w - 1) size) (sign_byte negative)) (a-sign negative);
      minus = rw (ea, eb, last_snoc (digit_text (w - 1) size) (sign_byte negative)) (a-minus negative);
      rest = rw (ea, eb, last_snoc (digit_text (w - 1) size) (sign_byte negative), a-sign negative) (front-snoc (digit_text (w - 1) size) (sign_byte negative));
    }
    by false false ea eb = record {
      taken = rw (ea, eb);
      minus = rw (ea, eb);
      rest = rw (ea, eb);
    }

-- ---- a number that a field holds: 0 to 10^w - 1, or beside a separate sign (from width 2) up to 10^(w - 1) - 1 either way

pub fits-plain : (w : ℕ) (negative : Bool) (size : ℕ) (signed : Bool) (sign : ℕ) → is_separate sign ≡ false → negative ≡ false → 0 < w → size < 10 ^ w
    → int_fits w negative size signed sign ≡ true
unfolding int_fits
fits-plain w negative size signed sign s n h k = rw (s, n, lt-ltb 0 w h, lt-ltb size (10 ^ w) k)

pub fits-separate : (w : ℕ) (negative : Bool) (size : ℕ) (signed : Bool) (sign : ℕ) → is_separate sign ≡ true → 2 ≤ w → size < 10 ^ (w - 1)
    → int_fits w negative size signed sign ≡ true
unfolding int_fits
fits-separate w negative size signed sign s h k = rw (s, lt-ltb 0 (w - 1) (omega arith), lt-ltb size (10 ^ (w - 1)) k)

-- the digits have room
fits-room : (w : ℕ) (negative : Bool) (size : ℕ) (signed : Bool) (sign : ℕ) → int_fits w negative size signed sign ≡ true → room_for (places_of sign w) size ≡ true
unfolding int_fits
fits-room w negative size signed sign h = by (is_separate sign) h
  where
    by : (s : Bool) → cond s (room_for (w - 1) size) (not (negative && not signed) && room_for w size) ≡ true → room_for (cond s (w - 1) w) size ≡ true
    by true q = q
    by false q = and_right (not (negative && not signed)) (room_for w size) q

pub length-bytes : (w : ℕ) (negative : Bool) (size : ℕ) (signed : Bool) (sign : ℕ) → int_fits w negative size signed sign ≡ true → length (int_bytes w negative size sign) ≡ w
unfolding int_bytes
length-bytes w negative size signed sign h = by (eqb sign 2) (eqb sign 3) refl refl
  where
    some : 0 < places_of sign w
    some = room-some (places_of sign w) size (fits-room w negative size signed sign h)

    by : (a b : Bool) → eqb sign 2 ≡ a → eqb sign 3 ≡ b
        → length (cond a (sign_byte negative ∷ digit_text (w - 1) size) (cond b (digit_text (w - 1) size ++ (sign_byte negative ∷ [])) (digit_text w size))) ≡ w
    by true b ea eb =
        let k : 0 < w - 1 = rw ea at some in
        let l = length-digit_text (w - 1) size in
        omega arith
    by false true ea eb =
        let k : 0 < w - 1 = rw (ea, eb) at some in
        let l = length-digit_text (w - 1) size in
        let m = length-append (digit_text (w - 1) size) (sign_byte negative ∷ []) in
        m ∙ omega arith
    by false false ea eb = length-digit_text w size

pub bytes_below : (w : ℕ) (negative : Bool) (size sign k : ℕ) → k < length (int_bytes w negative size sign) → get_or (int_bytes w negative size sign) k 0 < 256
bytes_below w negative size sign k h = let i = (inked-bytes w negative size sign k h).1 in omega arith

-- each byte as it is written
pub written_below : (page w : ℕ) (negative : Bool) (size sign k : ℕ) → k < length (int_bytes w negative size sign) → get_or (map (onto_page page) (int_bytes w negative size sign)) k 0 < 256
written_below page w negative size sign k h =
    rw (get_d_map (onto_page page) (int_bytes w negative size sign) k h) (onto-byte page (get_or (int_bytes w negative size sign) k 0) (bytes_below w negative size sign k h))

-- ---- read back

module _ (page w : ℕ) (negative : Bool) (size : ℕ) (signed : Bool) (sign : ℕ) (fits : int_fits w negative size signed sign ≡ true) (keeps : is_separate sign ≡ false → negative ≡ false) where
  bytes : map (from_page page) (map (onto_page page) (int_bytes w negative size sign)) ≡ int_bytes w negative size sign
  bytes = bytes_back page (int_bytes w negative size sign) (bytes_below w negative size sign)

  room : room_for (places_of sign w) size ≡ true
  room = fits-room w negative size signed sign fits

  kept-minus : (is_separate sign && negative) ≡ negative
  kept-minus = by (is_separate sign) refl
    where
      by : (s : Bool) → is_separate sign ≡ s → (s && negative) ≡ negative
      by true e = refl
      by false e = sym (keeps e)

  pub int-back : size < 2 ^ 63 → int_of sign (map (from_page page) (map (onto_page page) (int_bytes w negative size sign))) ≡ some negative size
  unfolding int_of int_in
  int-back b =
      let t = int_bytes w negative size sign in
      let r = parts w negative size sign in
      let d = places_of sign w in
      let some = room-some d size room in
      rw (bytes, trimmed-inked t (inked-bytes w negative size sign), r.rest, trimmed-inked (digit_text d size) (inked-digit_text d size), length-digit_text d size, ne_eqb d 0 (omega arith), r.taken, r.minus)
      (by (is_separate sign) refl some)
    where
      by : (s : Bool) → is_separate sign ≡ s → 0 < places_of sign w
          → cond s (digits_in (2 ^ 63) (s && negative) (digit_text (places_of sign w) size)) (whole_of (digit_text (places_of sign w) size)) ≡ some negative size
      by true e h = digits-read (2 ^ 63) negative (places_of sign w) size h (room-below (places_of sign w) size room) b
      by false e h = whole-read (places_of sign w) size h (room-below (places_of sign w) size room) b ∙ ap (λ (n : Bool). some n size) (sym (keeps e))

  -- what is written is lawful and spells the size, whatever is answered for it
  pub decimal-back : {X : Type 0} (answer : Bool → ℕ → X) (bad : X) → decimal_by answer bad sign (map (from_page page) (map (onto_page page) (int_bytes w negative size sign))) ≡ answer negative size
  decimal-back answer bad =
      let t = int_bytes w negative size sign in
      let r = parts w negative size sign in
      let d = places_of sign w in
      rw (bytes, trimmed-inked t (inked-bytes w negative size sign), r.rest, r.minus, kept-minus) (kept_read (answer negative) bad d size (room-below d size room))

  -- so a size below a bound is read back within it; the limit is one
  pub within : (bound : ℕ) → size < bound → decimal_by (read_in bound) unlawful sign (map (from_page page) (map (onto_page page) (int_bytes w negative size sign))) ≡ some negative size
  within bound b = decimal-back (read_in bound) unlawful ∙ number_in-fits 9 bound negative size b

  pub decoded : size < limit → decimal_of sign (map (from_page page) (map (onto_page page) (int_bytes w negative size sign))) ≡ some negative size
  unfolding decimal_of
  decoded b = within limit b

-- ---- a Display field's number and an Int field's fit alike, but for the precision

pub decimal-fits : (w precision : ℕ) (negative : Bool) (size sign : ℕ) → decimal_fits w precision negative size sign ≡ true → int_fits w negative size (has_sign sign) sign ≡ true
unfolding decimal_fits
decimal-fits w precision negative size sign h = and_right (leb precision w) (int_fits w negative size (has_sign sign) sign) h

pub fits-decimal : (w precision : ℕ) (negative : Bool) (size sign : ℕ) → precision ≤ w → int_fits w negative size (has_sign sign) sign ≡ true → decimal_fits w precision negative size sign ≡ true
unfolding decimal_fits
fits-decimal w precision negative size sign p h = rw (le-leb precision w p) h
