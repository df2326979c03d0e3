-- What writing a number into an Int or a Display field leaves, by the place of its sign.
use mathlib.Core.Path.{◌≡◌, sym, ◌∙◌, ap}
use mathlib.Core.List.{List, [], ◌∷◌, ◌++◌, map}
use mathlib.Core.Bool.{Bool, true, false}
use Prim.Native.Nat.{ℕ, suc, ◌-◌, ◌<◌}
use native.Mathlib.Omega.{arith}
use lib.ListN.{length, set}
use borrow.Author.Tests.{eq-eqb, ne_eqb}
use Rattle.value.specs.Digits.{digit_text}
use Rattle.value.proofs.Room.{room-some}
use Rattle.lists.proofs.Lists.{map-append}
use Rattle.ebcdic.specs.Ebcdic.{onto_page}
use Rattle.numerals.specs.Numerals.{sign_byte}
use Rattle.numerals.proofs.Writing.{text-length, set-behind}
use Rattle.display.specs.Display.{is_separate, int_fits, int_bytes, int_written}

-- a separate sign has a digit beside it
pub separate-width : (w : ℕ) (negative : Bool) (size : ℕ) (signed : Bool) (sign : ℕ) → is_separate sign ≡ true → int_fits w negative size signed sign ≡ true → 1 < w
unfolding int_fits
separate-width w negative size signed sign s h =
    let k : 0 < w - 1 = room-some (w - 1) size (rw s at h) in
    omega arith

pub lead-separate : (sign : ℕ) → sign ≡ 2 → is_separate sign ≡ true
lead-separate sign e = rw e

pub trail-separate : (sign : ℕ) → sign ≡ 3 → is_separate sign ≡ true
trail-separate sign e = rw e

-- ---- what encode leaves

set_first : (f : ℕ → ℕ) (w size x : ℕ) → 0 < w → set (map f (digit_text w size)) 0 (f x) ≡ map f (x ∷ digit_text (w - 1) size)
set_first f w size x h =
    let e : w ≡ suc (w - 1) = omega arith in
    ap (λ (n : ℕ). set (map f (digit_text n size)) 0 (f x)) e

module _ (page : ℕ) (negative : Bool) (size : ℕ) (signed : Bool) (sign : ℕ) (part : List ℕ) where
  pub encode-not : int_fits (length part) negative size signed sign ≡ false → part ≡ int_written page negative size signed sign part
  unfolding int_written
  encode-not h = rw h

  module _ (h : int_fits (length part) negative size signed sign ≡ true) where
    pub encode-first : (l : List ℕ) (b : ℕ) → sign ≡ 2 → l ≡ map (onto_page page) (digit_text (length part) size) → b ≡ onto_page page (sign_byte negative)
        → set l 0 b ≡ int_written page negative size signed sign part
    unfolding int_written int_bytes
    encode-first l b e el eb =
        let k : 1 < length part = separate-width (length part) negative size signed sign (lead-separate sign e) h in
        rw (h, eq-eqb sign 2 e, el, eb) (set_first (onto_page page) (length part) size (sign_byte negative) (omega arith))

    pub encode-last : (l zs : List ℕ) (b : ℕ) → sign ≡ 3 → l ≡ map (onto_page page) (digit_text (length part - 1) size) → length zs ≡ 1 → b ≡ onto_page page (sign_byte negative)
        → set (l ++ zs) (length part - 1) b ≡ int_written page negative size signed sign part
    unfolding int_written int_bytes
    encode-last l zs b e el z eb =
        rw (h, ne_eqb sign 2 (omega arith), eq-eqb sign 3 e, el, eb)
        (set-behind (map (onto_page page) (digit_text (length part - 1) size)) zs (onto_page page (sign_byte negative)) (length part - 1) (sym (text-length (onto_page page) (length part - 1) size)) z
        ∙ sym (map-append (onto_page page) (digit_text (length part - 1) size) (sign_byte negative ∷ [])))

    pub encode-plain : (l : List ℕ) → ¬ (sign ≡ 2) → ¬ (sign ≡ 3) → l ≡ map (onto_page page) (digit_text (length part) size) → l ≡ int_written page negative size signed sign part
    unfolding int_written int_bytes
    encode-plain l a b el = rw (h, ne_eqb sign 2 a, ne_eqb sign 3 b) el
