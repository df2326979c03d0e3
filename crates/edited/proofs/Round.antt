-- What is written is read back, over any mask and on either page; the bytes that are written; a number that fits is not refused; a size that is read is small.
use mathlib.Core.Path.{◌≡◌, refl, sym, ◌∙◌}
use mathlib.Core.Bool.{Bool, true, false, ◌&&◌, cond}
use mathlib.Core.List.{List, map}
use Prim.Native.Nat.{ℕ, ◌^◌, ◌<◌}
use native.Mathlib.Omega.{arith}
use lib.Dec.{eqb}
use lib.ListN.{length, get_or, length-map}
use borrow.Author.Tests.{lt-ltb, eqb-true}
use Rattle.lists.specs.Scan.{keep_by, every_by}
use Rattle.lists.proofs.Scan.{every_true}
use Rattle.lists.proofs.Lists.{get_d_map}
use Rattle.value.specs.Answer.{Answer, refused, given}
use Rattle.value.specs.Digits.{value_of, limit, is_digit, digit_in}
use Rattle.value.specs.declared.Whole.{Whole}
use Rattle.value.specs.Number.{number, some, read_in, unlawful}
use Rattle.value.proofs.Answers.{number_in-fits, number_in-small, Numbered}
use Rattle.ebcdic.specs.Ebcdic.{from_page, onto_page}
use Rattle.ebcdic.proofs.Laws.{bytes_back, onto-byte}
use Rattle.numerals.specs.Numerals.{is_ascii, trimmed, kept_by}
use Rattle.numerals.proofs.Reading.{kept-numbered}
use Rattle.edited.specs.Edited.{negative_of, edited_by, decoded_of, is_lawful, positions, judged, pad_of, edited, written_of}
use Rattle.edited.specs.Fits.{Fits, Tells}
use Rattle.edited.proofs.Marks.{Low, all-at, marks-of, edit-length, edited-low}
use Rattle.edited.proofs.Back.{edited-spells}
use Rattle.edited.proofs.Sign.{positive_back, negative_back}

-- ---- the bytes that are written

pub edited-length : (negative : Bool) (size : ℕ) (mask : List ℕ) → length (edited negative size mask) ≡ length mask
edited-length negative size mask = edit-length negative (pad_of mask) size 0 mask true

pub edited-ascii : (negative : Bool) (size : ℕ) (mask : List ℕ) → is_lawful mask ≡ true → (k : ℕ) → k < length (edited negative size mask) → get_or (edited negative size mask) k 0 < 128
edited-ascii negative size mask h k b = all-at Low (edited-low negative size (marks-of mask h)) k b

edited-byte : (negative : Bool) (size : ℕ) (mask : List ℕ) → is_lawful mask ≡ true → (k : ℕ) → k < length (edited negative size mask) → get_or (edited negative size mask) k 0 < 256
edited-byte negative size mask h k b = let l = edited-ascii negative size mask h k b in omega arith

pub page-length : (page : ℕ) (negative : Bool) (size : ℕ) (mask : List ℕ) → length (map (onto_page page) (edited negative size mask)) ≡ length mask
page-length page negative size mask = length-map (edited negative size mask) (onto_page page) ∙ edited-length negative size mask

pub page-byte : (page : ℕ) (negative : Bool) (size : ℕ) (mask : List ℕ) → is_lawful mask ≡ true → (k : ℕ) → k < length mask
    → get_or (map (onto_page page) (edited negative size mask)) k 0 < 256
page-byte page negative size mask h k b =
    let l : k < length (edited negative size mask) = rw (edited-length negative size mask) b in
    rw (get_d_map (onto_page page) (edited negative size mask) k l) (onto-byte page (get_or (edited negative size mask) k 0) (edited-byte negative size mask h k l))

-- ---- a number that fits

module _ (signed negative : Bool) (size : ℕ) (mask : List ℕ) (f : Fits signed negative size mask) where
  pub fits-judged : size < limit → judged mask (given (number negative size)) ≡ 0
  unfolding judged
  fits-judged l = rw (f.fixed, lt-ltb size limit l, lt-ltb 0 (positions mask) f.some, lt-ltb size (10 ^ positions mask) f.enough, f.lawful)

  sign : (signed && negative_of (trimmed (edited negative size mask))) ≡ negative
  sign = by negative signed f.has-sign f.tells
    where
      by : (n s : Bool) → (n ≡ true → s ≡ true) → (n ≡ true → Tells mask) → (s && negative_of (trimmed (edited n size mask))) ≡ n
      by true s hs ht = rw (hs refl) (negative_back size (ht refl))
      by false true hs ht = positive_back size (marks-of mask f.lawful)
      by false false hs ht = refl

  -- what is written is lawful and spells the size, whatever is answered for it
  pub round : {X : Type 0} (answer : Bool → ℕ → X) (bad : X) (page : ℕ) → edited_by answer bad signed (map (from_page page) (map (onto_page page) (edited negative size mask))) ≡ answer negative size
  unfolding kept_by
  round answer bad page =
      let l = marks-of mask f.lawful in
      let a : every_by is_ascii (edited negative size mask) ≡ true =
      every_true is_ascii (edited negative size mask) (λ k b. lt-ltb (get_or (edited negative size mask) k 0) 128 (edited-ascii negative size mask f.lawful k b)) in
      rw (bytes_back page (edited negative size mask) (edited-byte negative size mask f.lawful), sign, a, edited-spells negative size l f.no_zero f.enough)

  -- so a size below a bound is read back within it; the limit is one
  pub within : (bound page : ℕ) → size < bound → edited_by (read_in bound) unlawful signed (map (from_page page) (map (onto_page page) (edited negative size mask))) ≡ some negative size
  within bound page l = round (read_in bound) unlawful page ∙ number_in-fits 9 bound negative size l

  pub decoded : (page : ℕ) → size < limit → decoded_of signed (map (from_page page) (map (onto_page page) (edited negative size mask))) ≡ some negative size
  unfolding decoded_of
  decoded page l = within limit page l

-- ---- a part keeps its length

pub written-length : (page : ℕ) (mask : List ℕ) (n : Answer Whole) (part : List ℕ) → length (written_of page mask n part) ≡ length part
unfolding written_of
written-length page mask (given n) part = by (judged mask (given n))
  where
    wide : (b : Bool) → eqb (length part) (length mask) ≡ b
        → length (cond (eqb (cond b 0 14) 0) (map (onto_page page) (edited n.negative n.size mask)) part) ≡ length part
    wide true e = page-length page n.negative n.size mask ∙ sym (eqb-true (length part) (length mask) e)
    wide false e = refl

    by : (j : ℕ) → length (cond (eqb (cond (eqb j 0) (cond (eqb (length part) (length mask)) 0 14) j) 0) (map (onto_page page) (edited n.negative n.size mask)) part) ≡ length part
    by j = at (eqb j 0) refl
      where
        at : (t : Bool) → eqb j 0 ≡ t
            → length (cond (eqb (cond t (cond (eqb (length part) (length mask)) 0 14) j) 0) (map (onto_page page) (edited n.negative n.size mask)) part) ≡ length part
        at true e = wide (eqb (length part) (length mask)) refl
        at false e = rw e
written-length page mask (refused question) part = refl

-- ---- a size that is read is below 10^18

pub decode-small : (signed : Bool) (s : List ℕ) (n : Bool) (w : ℕ) → decoded_of signed s ≡ given (number n w) → w < limit
unfolding decoded_of kept_by
decode-small signed s n w e = by (every_by is_ascii s) e
  where
    v : ℕ
    v = value_of (map digit_in (keep_by is_digit s))

    by : (t : Bool) → cond t (read_in limit (signed && negative_of (trimmed s)) v) unlawful ≡ given (number n w) → w < limit
    by true q = number_in-small 9 limit (signed && negative_of (trimmed s)) v n w q
    by false q = let z : ◌≡◌ {A = ℕ} 0 1 = let f : ◌≡◌ {A = Answer Whole} unlawful (given (number n w)) = q in cc in absurd (omega arith)

pub decode-numbered : (signed : Bool) (s : List ℕ) → Numbered (decoded_of signed s)
unfolding decoded_of
decode-numbered signed s = kept-numbered limit (signed && negative_of (trimmed s)) s
