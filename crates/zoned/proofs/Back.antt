-- A number that was written into a zoned field is read back, over any width and on either page.
use mathlib.Core.Path.{◌≡◌, refl, sym, ap, ◌∙◌}
use mathlib.Core.List.{List, [], ◌∷◌, ◌++◌, map}
use mathlib.Core.Bool.{Bool, true, false, ◌&&◌, cond}
use Prim.Native.Nat.{ℕ, zero, suc, ◌+◌, ◌-◌, ◌/◌, ◌^◌, ◌<◌}
use native.Mathlib.Omega.{arith}
use native.Mathlib.Decide.{dec_lt}
use lib.Dec.{lit<}
use lib.ListN.{length, get_or, length-append, get_or-append}
use lib.Seq.{get_or_at}
use borrow.Author.Tests.{le-ltb, le-leb, lt-leb, ne_eqb}
use Rattle.ebcdic.specs.Ebcdic.{from_page, onto_page}
use Rattle.ebcdic.proofs.Laws.{bytes_back}
use Rattle.value.specs.Digits.{digit_in, digit_at, digits_of, digit_text, spread, limit}
use Rattle.value.specs.Number.{some, read_in, unlawful}
use Rattle.value.specs.Field.{digits_by}
use Rattle.value.proofs.Digits.{ok-digits, value-of-digits, digit-below, digits-snoc, length-digit_text, past}
use Rattle.value.proofs.Answers.{number_in-fits}
use Rattle.value.proofs.Field.{read-lawful, last_snoc, front-snoc}
use Rattle.value.proofs.Room.{room-some, room-below}
use Rattle.numerals.proofs.Text.{inked-digit_text}
use Rattle.zoned.specs.Zoned.{digit_of, zone, last_digit, minus, any_sign, zoned_by, decode_of, overpunch, last_byte, encoded_of, fits_of}

-- ---- the last byte

plus-digit : (d : ℕ) → 0 < d → d < 10 → last_digit (0x40 + d) ≡ d
plus-digit d l h =
    let e : 0x40 + d - 0x40 ≡ d = omega arith in
    rw (past 48 57 (0x40 + d) (omega arith), le-leb 0x41 (0x40 + d) (omega arith), le-leb (0x40 + d) 0x49 (omega arith)) e

minus-digit : (d : ℕ) → 0 < d → d < 10 → last_digit (0x49 + d) ≡ d
minus-digit d l h =
    let e : 0x49 + d - 0x49 ≡ d = omega arith in
    rw (past 48 57 (0x49 + d) (omega arith), past 0x41 0x49 (0x49 + d) (omega arith), le-leb 0x4A (0x49 + d) (omega arith), le-leb (0x49 + d) 0x52 (omega arith)) e

plain-digit : (d : ℕ) → d < 10 → digit_of (48 + d) ≡ d
plain-digit d h = let e : 48 + d - 0x30 ≡ d = omega arith in rw (le-ltb (48 + d) 0x30 (omega arith)) e

over-digit : (d : ℕ) (negative : Bool) → d < 10 → last_digit (overpunch d negative) ≡ d
over-digit zero true h = refl
over-digit zero false h = refl
over-digit (suc d) true h = rw (ne_eqb (suc d) 0 (omega arith)) (minus-digit (suc d) (omega arith) h)
over-digit (suc d) false h = rw (ne_eqb (suc d) 0 (omega arith)) (plus-digit (suc d) (omega arith) h)

over-minus : (d : ℕ) (negative : Bool) → d < 10 → minus (overpunch d negative) ≡ negative
over-minus zero true h = refl
over-minus zero false h = refl
over-minus (suc d) true h =
    rw (ne_eqb (suc d) 0 (omega arith), le-leb 0x4A (0x49 + suc d) (omega arith), le-leb (0x49 + suc d) 0x52 (omega arith))
over-minus (suc d) false h =
    rw (ne_eqb (suc d) 0 (omega arith), lt-leb 0x4A (0x40 + suc d) (omega arith), ne_eqb (0x40 + suc d) 0x7D (omega arith))

last-digit : (d : ℕ) (negative signed : Bool) → d < 10 → last_digit (cond signed (overpunch d negative) (48 + d)) ≡ d
last-digit d negative true h = over-digit d negative h
last-digit d negative false h =
    let e : digit_in (48 + d) ≡ d = omega arith in
    rw (le-leb 48 (48 + d) (omega arith), le-leb (48 + d) 57 (omega arith)) e

last-minus : (d : ℕ) (negative signed : Bool) → d < 10 → minus (cond signed (overpunch d negative) (48 + d)) ≡ (signed && negative)
last-minus d negative true h = over-minus d negative h
last-minus d negative false h = rw (lt-leb 0x4A (48 + d) (omega arith), ne_eqb (48 + d) 0x7D (omega arith))

-- ---- the digits above it

spread-digit_text : (k v : ℕ) → spread zone (digit_text k v) ≡ digits_of k v
spread-digit_text zero v = refl
spread-digit_text (suc k) v = rw (plain-digit (digit_at k v) (digit-below k v)) (ap (λ (l : List ℕ). digit_at k v ∷ l) (spread-digit_text k v))

over-byte : (d : ℕ) (negative signed : Bool) → d < 10 → cond signed (overpunch d negative) (48 + d) < 256
over-byte zero true true h = lit< tt
over-byte zero false true h = lit< tt
over-byte (suc d) true true h = rw (ne_eqb (suc d) 0 (omega arith)) (omega arith)
over-byte (suc d) false true h = rw (ne_eqb (suc d) 0 (omega arith)) (omega arith)
over-byte d negative false h = omega arith

-- ---- the field

module _ (k : ℕ) (negative : Bool) (size : ℕ) (signed : Bool) where
  abbrev front : List ℕ
  front = digit_text k (size / 10)

  abbrev b : ℕ
  b = last_byte size negative signed

  abbrev field : List ℕ
  field = front ++ (b ∷ [])

  field-length : length field ≡ suc k
  field-length = length-append front (b ∷ []) ∙ rw (length-digit_text k (size / 10)) (omega arith)

  field-digits : digits_by zone last_digit field ≡ digits_of (suc k) size
  field-digits =
      rw (front-snoc front b, last_snoc front b, spread-digit_text k (size / 10), last-digit (digit_at 0 size) negative signed (digit-below 0 size)) (digits-snoc k size)

  field-read : {X : Type 0} (answer : Bool → ℕ → X) (bad : X) → size < 10 ^ suc k → zoned_by answer bad field ≡ answer (signed && negative) size
  field-read answer bad h =
      let f = field-length in
      read-lawful zone last_digit any_sign (λ x v. answer (minus x) v) bad field (omega arith) (rw field-digits (ok-digits (suc k) size)) refl
      ∙ rw (field-digits, last_snoc front b, value-of-digits (suc k) size h, last-minus (digit_at 0 size) negative signed (digit-below 0 size))

  field-byte : (i : ℕ) → i < length field → get_or field i 0 < 256
  field-byte i h = go (dec_lt i k)
    where
      go : Dec (i < k) → get_or (front ++ (b ∷ [])) i 0 < 256
      go (yes m) =
          let l = length-digit_text k (size / 10) in
          let p = (inked-digit_text k (size / 10) i (omega arith)).1 in
          rw (get_or-append front (b ∷ []) 0 i (omega arith)) (omega arith)
      go (no m) =
          let f = field-length in
          let e : i ≡ k = omega arith in
          rw (e, get_or_at front b [] 0 k (length-digit_text k (size / 10))) (over-byte (digit_at 0 size) negative signed (digit-below 0 size))

-- a field of w bytes is such a field
module _ (w : ℕ) (negative : Bool) (size : ℕ) (signed : Bool) (some : 0 < w) where
  width : w ≡ suc (w - 1)
  width = omega arith

  pub encoded-length : length (encoded_of w negative size signed) ≡ w
  encoded-length = field-length (w - 1) negative size signed ∙ sym width

  pub encoded-byte : (i : ℕ) → i < length (encoded_of w negative size signed) → get_or (encoded_of w negative size signed) i 0 < 256
  encoded-byte i l = field-byte (w - 1) negative size signed i l

-- what is written is lawful and spells the size, whatever is answered for it: the sign where the field has one
pub zoned-back : {X : Type 0} (answer : Bool → ℕ → X) (bad : X) (page w : ℕ) (negative : Bool) (size : ℕ) (signed : Bool) → fits_of w size ≡ true
    → zoned_by answer bad (map (from_page page) (map (onto_page page) (encoded_of w negative size signed))) ≡ answer (signed && negative) size
zoned-back answer bad page w negative size signed f =
    let h = room-some w size f in
    let k : size < 10 ^ suc (w - 1) = rw (← width w negative size signed h) (room-below w size f) in
    ap (zoned_by answer bad) (bytes_back page (encoded_of w negative size signed) (encoded-byte w negative size signed h))
    ∙ field-read (w - 1) negative size signed answer bad k

-- so a size below a bound is read back within it; the limit is one
pub within : (bound page w : ℕ) (negative : Bool) (size : ℕ) (signed : Bool) → fits_of w size ≡ true → size < bound
    → zoned_by (read_in bound) unlawful (map (from_page page) (map (onto_page page) (encoded_of w negative size signed))) ≡ some (signed && negative) size
within bound page w negative size signed f l = zoned-back (read_in bound) unlawful page w negative size signed f ∙ number_in-fits 9 bound (signed && negative) size l

pub decoded : (page w : ℕ) (negative : Bool) (size : ℕ) (signed : Bool) → fits_of w size ≡ true → size < limit
    → decode_of (map (from_page page) (map (onto_page page) (encoded_of w negative size signed))) ≡ some (signed && negative) size
unfolding decode_of
decoded page w negative size signed f l = within limit page w negative size signed f l
