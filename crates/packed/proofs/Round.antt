-- What is written is read back, over any width; and a written field is the one of its length that holds its digits by place.
use mathlib.Core.Path.{◌≡◌, refl, ◌∙◌, ap, sym}
use mathlib.Core.List.{List, [], ◌∷◌, ◌++◌}
use mathlib.Core.Bool.{Bool, true, false, ◌&&◌, false≢true}
use Prim.Native.Nat.{ℕ, zero, suc, ◌+◌, ◌-◌, ◌*◌, ◌/◌, ◌%◌, ◌^◌, ◌<◌}
use native.Mathlib.Nat.{not-suc-le-zero, le_of_suc-le-suc, suc-sub-suc}
use native.Mathlib.Omega.{arith}
use native.Mathlib.Decide.{dec_lt}
use lib.Dec.{ltb, lit<}
use lib.ListN.{length, get_or, take}
use lib.Seq.{ext_get_or}
use borrow.Author.Tests.{lt-ltb}
use Rattle.value.specs.Answer.{Answer, refused, given}
use lib.IntN.{ℤ, pos}
use Rattle.value.specs.Digits.{digit_at, digits_of, spread, limit, signed_of}
use Rattle.value.specs.declared.Whole.{Whole}
use Rattle.value.specs.Number.{some, read_in, unlawful}
use Rattle.value.specs.Field.{last_of, digits_by}
use Rattle.value.proofs.Digits.{ok-digits, value-of-digits, digit-below, high_digit, low_digit}
use Rattle.value.proofs.Answers.{number_in-fits}
use Rattle.value.proofs.Field.{read-lawful}
use Rattle.value.proofs.Room.{room-below}
use Rattle.packed.specs.Packed.{nibbles, high_of, signed, is_negative, is_sign, packed_by, decode_of, pairs, sign_of, encoded_of, fits_of, ByPlace}

double : ℕ → ℕ
double zero = zero
double (suc k) = suc (suc (double k))

double-is : (k : ℕ) → double k ≡ 2 * k
unfolding double
double-is zero = refl
double-is (suc k) = let h = double-is k in omega arith

module _ (size s : ℕ) (small : s < 16) where
  -- a field of k + 1 bytes
  abbrev field : ℕ → List ℕ
  unfolding double
  field k = pairs (digits_of (suc (double k)) size ++ (s ∷ []))

  field-length : (k : ℕ) → length (field k) ≡ suc k
  unfolding double
  field-length zero = refl
  field-length (suc k) = ap suc (field-length k)

  field-sign : (k : ℕ) → get_or (field k) k 0 % 16 ≡ s
  unfolding double
  field-sign zero = low_digit (digit_at 0 size) s small
  field-sign (suc k) = field-sign k

  field-digits : (k : ℕ) → spread nibbles (take k (field k)) ++ (get_or (field k) k 0 / 16 ∷ []) ≡ digits_of (suc (double k)) size
  unfolding double
  field-digits zero = rw (high_digit (digit_at 0 size) s small)
  field-digits (suc k) =
      let h = digit-below (suc (double k)) size in
      rw (high_digit (digit_at (suc (suc (double k))) size) (digit_at (suc (double k)) size) (omega arith), low_digit (digit_at (suc (suc (double k))) size) (digit_at (suc (double k)) size) (omega arith), field-digits k)

  field_at : (k i : ℕ) → i < k → get_or (field k) i 0 ≡ digit_at (2 * (k - i)) size * 16 + digit_at (2 * (k - i) - 1) size
  unfolding double
  field_at zero i h = absurd (not-suc-le-zero h)
  field_at (suc k) zero h =
      let d = double-is k in
      let e : 2 * (suc k - 0) ≡ suc (suc (double k)) = omega arith in
      let f : 2 * (suc k - 0) - 1 ≡ suc (double k) = omega arith in
      rw (f, e)
  field_at (suc k) (suc i) h = rw suc-sub-suc (field_at k i (le_of_suc-le-suc h))

  field-last : (k : ℕ) → get_or (field k) k 0 ≡ digit_at 0 size * 16 + s
  unfolding double
  field-last zero = refl
  field-last (suc k) = field-last k

  field_in : (k : ℕ) → digits_by nibbles high_of (field k) ≡ digits_of (suc (double k)) size
  field_in k = let e : length (field k) - 1 ≡ k = omega (arith, field-length k) in rw e (field-digits k)

  field-sign-in : (k : ℕ) → last_of (field k) % 16 ≡ s
  field-sign-in k = let e : length (field k) - 1 ≡ k = omega (arith, field-length k) in rw e (field-sign k)

  field-read : {X : Type 0} (answer : Bool → ℕ → X) (bad : X) (k : ℕ) → size < 10 ^ suc (double k) → is_sign s ≡ true → packed_by answer bad (field k) ≡ answer (is_negative s) size
  field-read answer bad k h t =
      let l = field-length k in
      read-lawful nibbles high_of signed (λ b v. answer (is_negative (b % 16)) v) bad (field k) (omega arith) (rw (field_in k) (ok-digits (suc (double k)) size)) (rw (field-sign-in k) t)
      ∙ rw (field_in k, field-sign-in k, value-of-digits (suc (double k)) size h)

-- an encoded field is such a field
encoded-is : (k : ℕ) (negative : Bool) (size : ℕ) (signed : Bool) (small : sign_of signed negative < 16)
    → encoded_of (suc k) negative size signed ≡ field size (sign_of signed negative) small k
unfolding double
encoded-is k negative size signed small =
    let d = double-is k in
    let e : 2 * suc k - 1 ≡ suc (double k) = omega arith in
    rw e

sign_small : (signed negative : Bool) → sign_of signed negative < 16
sign_small true true = lit< tt
sign_small true false = lit< tt
sign_small false negative = lit< tt

sign-lawful : (signed negative : Bool) → is_sign (sign_of signed negative) ≡ true
sign-lawful true true = refl
sign-lawful true false = refl
sign-lawful false negative = refl

sign_read : (signed negative : Bool) → is_negative (sign_of signed negative) ≡ (signed && negative)
sign_read true true = refl
sign_read true false = refl
sign_read false negative = refl

-- what is written is lawful and spells the size, whatever is answered for it: the sign where the field has one
pub round : {X : Type 0} (answer : Bool → ℕ → X) (bad : X) (w : ℕ) (negative : Bool) (size : ℕ) (signed : Bool) → fits_of w size ≡ true
    → packed_by answer bad (encoded_of w negative size signed) ≡ answer (signed && negative) size
round answer bad zero negative size signed h = absurd (false≢true h)
round answer bad (suc k) negative size signed h =
    let d = double-is k in
    let e : 2 * suc k - 1 ≡ suc (double k) = omega arith in
    let f : size < 10 ^ suc (double k) = rw e at (room-below (2 * suc k - 1) size h) in
    rw (encoded-is k negative size signed (sign_small signed negative), ← sign_read signed negative)
    (field-read size (sign_of signed negative) (sign_small signed negative) answer bad k f (sign-lawful signed negative))

-- so a size below a bound is read back within it; the limit is one
pub within : (bound w : ℕ) (negative : Bool) (size : ℕ) (signed : Bool) → fits_of w size ≡ true → size < bound
    → packed_by (read_in bound) unlawful (encoded_of w negative size signed) ≡ some (signed && negative) size
within bound w negative size signed h l = round (read_in bound) unlawful w negative size signed h ∙ number_in-fits 9 bound (signed && negative) size l

pub decoded : (w : ℕ) (negative : Bool) (size : ℕ) (signed : Bool) → fits_of w size ≡ true → size < limit → decode_of (encoded_of w negative size signed) ≡ some (signed && negative) size
unfolding decode_of
decoded w negative size signed h l = within limit w negative size signed h l

-- the same in ℤ, of a field with a sign: -0 is 0
abbrev pub integer_in : Answer Whole → ℤ
integer_in (given n) = signed_of n.negative n.size
integer_in (refused question) = pos 0

zero-unsigned : (negative : Bool) (size : ℕ) → signed_of (ltb 0 size && negative) size ≡ signed_of negative size
zero-unsigned true zero = refl
zero-unsigned false zero = refl
zero-unsigned negative (suc n) = rw (lt-ltb 0 (suc n) (omega arith))

pub round-integer : (w : ℕ) (negative : Bool) (size : ℕ) → fits_of w size ≡ true → size < limit
    → integer_in (decode_of (encoded_of w negative size true)) ≡ signed_of negative size
round-integer w negative size h l = ap integer_in (decoded w negative size true h l) ∙ zero-unsigned negative size

-- a written field is as long as the field, holds its digits by place, and is made of bytes
pub encoded-length : (w : ℕ) (negative : Bool) (size : ℕ) (signed : Bool) → 0 < w → length (encoded_of w negative size signed) ≡ w
encoded-length zero negative size signed h = absurd (omega arith)
encoded-length (suc k) negative size signed h =
    ap length (encoded-is k negative size signed (sign_small signed negative)) ∙ field-length size (sign_of signed negative) (sign_small signed negative) k

pub by_place : (w : ℕ) (negative : Bool) (size : ℕ) (signed : Bool) → 0 < w → ByPlace (encoded_of w negative size signed) size (sign_of signed negative)
by_place zero negative size signed h = absurd (omega arith)
by_place (suc k) negative size signed h =
    let e : length (field size (sign_of signed negative) (sign_small signed negative) k) - 1 ≡ k = omega (arith, field-length size (sign_of signed negative) (sign_small signed negative) k) in
    rw (encoded-is k negative size signed (sign_small signed negative))
    (record {
      two = λ i to. rw e (field_at size (sign_of signed negative) (sign_small signed negative) k i (omega arith));
      last = rw e (field-last size (sign_of signed negative) (sign_small signed negative) k);
    })

-- two fields of one length that hold a size and a sign by place are the same
by-place-same : (size sign : ℕ) (a b : List ℕ) → length a ≡ length b → ByPlace a size sign → ByPlace b size sign → a ≡ b
by-place-same size sign a b e p q = ext_get_or 0 a b e (λ i to. at i to (dec_lt i (length a - 1)))
  where
    at : (i : ℕ) → i < length a → Dec (i < length a - 1) → get_or a i 0 ≡ get_or b i 0
    at i to (yes h) = p.two i h ∙ sym (rw (← e) at (q.two i (omega arith)))
    at i to (no h) =
        let z : i ≡ length a - 1 = omega arith in
        rw z (p.last ∙ sym (rw (← e) at q.last))

-- so what is written by place is the encoded field
pub by-place-encoded : (part : List ℕ) (negative : Bool) (size : ℕ) (signed : Bool) → 0 < length part → ByPlace part size (sign_of signed negative)
    → part ≡ encoded_of (length part) negative size signed
by-place-encoded part negative size signed h p =
    let e = encoded-length (length part) negative size signed h in
    by-place-same size (sign_of signed negative) part (encoded_of (length part) negative size signed) (sym e) p (by_place (length part) negative size signed h)

pub encoded-byte : (w : ℕ) (negative : Bool) (size : ℕ) (signed : Bool) (i : ℕ) → i < w → get_or (encoded_of w negative size signed) i 0 < 256
encoded-byte w negative size signed i h = go (dec_lt i (w - 1))
  where
    p : ByPlace (encoded_of w negative size signed) size (sign_of signed negative)
    p = by_place w negative size signed (omega arith)

    go : Dec (i < w - 1) → get_or (encoded_of w negative size signed) i 0 < 256
    go (yes k) =
        let e = encoded-length w negative size signed (omega arith) in
        let a = digit-below (2 * (w - 1 - i)) size in
        let b = digit-below (2 * (w - 1 - i) - 1) size in
        rw (rw e at (p.two i (omega (arith, e)))) (omega arith)
    go (no k) =
        let e = encoded-length w negative size signed (omega arith) in
        let z : i ≡ w - 1 = omega arith in
        let a = digit-below 0 size in
        let s = sign_small signed negative in
        rw (z, rw e at p.last) (omega arith)
