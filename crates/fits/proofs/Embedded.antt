-- A signed Embedded Int that was written as a zoned number is read back: its bytes are no blanks, digits and then one that is overpunched.
use mathlib.Core.Path.{◌≡◌, refl}
use mathlib.Core.List.{List, [], ◌∷◌, ◌++◌, map}
use mathlib.Core.Bool.{Bool, true, false}
use Prim.Native.Nat.{ℕ, zero, suc, ◌+◌, ◌-◌, ◌/◌, ◌^◌, ◌<◌, ◌≤◌}
use native.Mathlib.Decide.{dec_lt}
use native.Mathlib.Omega.{arith}
use lib.ListN.{length, get_or, get_or-append}
use lib.Seq.{get_or_at}
use borrow.Author.Tests.{le-leb, ne_eqb}
use Rattle.lists.proofs.Logic.{and}
use Rattle.value.specs.Digits.{digit_at, digit_text}
use Rattle.value.specs.Number.{some}
use Rattle.value.proofs.Digits.{digit-below, length-digit_text}
use Rattle.value.proofs.Field.{last_snoc, front-snoc}
use Rattle.value.proofs.Room.{room-some}
use Rattle.ebcdic.specs.Ebcdic.{from_page, onto_page}
use Rattle.ebcdic.proofs.Laws.{bytes_back}
use Rattle.numerals.proofs.Text.{inked-digit_text, trimmed-kept, all_digits}
use Rattle.zoned.specs.Zoned.{overpunch, encoded_of, fits_of}
use Rattle.zoned.proofs.Back.{encoded-length, encoded-byte, within}
use Rattle.decode_scalar.specs.Decode.{is_overpunched, is_zoned, embedded_of}
use Rattle.decode_scalar.proofs.Embedded.{over-high}

overpunched : (d : ℕ) (negative : Bool) → d < 10 → is_overpunched (overpunch d negative) ≡ true
overpunched zero true h = refl
overpunched zero false h = refl
overpunched (suc d) true h = rw (ne_eqb (suc d) 0 (omega arith), le-leb 0x41 (0x49 + suc d) (omega arith), le-leb (0x49 + suc d) 0x52 (omega arith))
overpunched (suc d) false h = rw (ne_eqb (suc d) 0 (omega arith), le-leb 0x41 (0x40 + suc d) (omega arith), le-leb (0x40 + suc d) 0x52 (omega arith))

module _ (w : ℕ) (negative : Bool) (size : ℕ) (fits : fits_of w size ≡ true) where
  abbrev front : List ℕ
  front = digit_text (w - 1) (size / 10)

  abbrev last : ℕ
  last = overpunch (digit_at 0 size) negative

  last-over : is_overpunched last ≡ true
  last-over = overpunched (digit_at 0 size) negative (digit-below 0 size)

  written-zoned : is_zoned (front ++ (last ∷ [])) ≡ true
  written-zoned = rw (front-snoc front last, last_snoc front last) (and (all_digits (w - 1) (size / 10)) last-over)

  written-high : (k : ℕ) → k < length (front ++ (last ∷ [])) → 43 ≤ get_or (front ++ (last ∷ [])) k 0
  written-high k h = go (dec_lt k (w - 1))
    where
      go : Dec (k < w - 1) → 43 ≤ get_or (front ++ (last ∷ [])) k 0
      go (yes m) =
          let n = length-digit_text (w - 1) (size / 10) in
          rw (get_or-append front (last ∷ []) 0 k (omega arith)) (inked-digit_text (w - 1) (size / 10) k (omega arith)).0
      go (no m) =
          let l = encoded-length w negative size true (room-some w size fits) in
          let e : k ≡ w - 1 = omega arith in
          let o = over-high last last-over in
          rw (e, get_or_at front last [] 0 (w - 1) (length-digit_text (w - 1) (size / 10))) (omega arith)

  pub embedded-back : (page : ℕ) → size < 2 ^ 63 → embedded_of (map (from_page page) (map (onto_page page) (encoded_of w negative size true))) ≡ some negative size
  unfolding embedded_of
  embedded-back page l =
      let b = bytes_back page (encoded_of w negative size true) (encoded-byte w negative size true (room-some w size fits)) in
      let z = within (2 ^ 63) page w negative size true fits l in
      rw (b, trimmed-kept (encoded_of w negative size true) written-high, written-zoned) (rw b at z)
