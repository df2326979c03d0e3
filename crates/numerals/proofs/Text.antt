-- A text of digits: it has no blanks, and its digits are kept and spell the number.
use mathlib.Core.Path.{◌≡◌, refl, ◌∙◌, ap}
use mathlib.Core.List.{List, [], ◌∷◌, ◌++◌, map}
use mathlib.Core.Bool.{Bool, true, false, and-false}
use Prim.Native.Nat.{ℕ, zero, suc, ◌-◌, ◌^◌, ◌<◌, ◌≤◌}
use native.Mathlib.Nat.{not-suc-le-zero, le_of_suc-le-suc, zero-lt-suc}
use native.Mathlib.Omega.{arith}
use lib.Dec.{eqb}
use lib.ListN.{length, get_or}
use borrow.Author.Tests.{lt-ltb, lt-leb, le-leb, ne_eqb}
use Rattle.value.specs.Digits.{digit_at, digits_of, ascii_of, digit_text, is_digit, digit_in}
use Rattle.value.proofs.Digits.{digit-below, value-of-digits}
use Rattle.lists.specs.Scan.{right_by, every_by}
use Rattle.lists.proofs.Scan.{left-kept, right_kept, keep-every}
use Rattle.numerals.specs.Numerals.{is_blank, trimmed, is_ascii, kept_by, is_sign, sign_byte}

-- ---- bytes that are no blanks: from + to 9

abbrev pub Inked : List ℕ → Type 0
Inked t = (k : ℕ) → k < length t → (43 ≤ get_or t k 0) × (get_or t k 0 ≤ 57)

pub inked-cons : (x : ℕ) (t : List ℕ) → 43 ≤ x → x ≤ 57 → Inked t → Inked (x ∷ t)
inked-cons x t a b h zero k = (a, b)
inked-cons x t a b h (suc j) k = h j (le_of_suc-le-suc k)

pub inked-snoc : (x : ℕ) (t : List ℕ) → 43 ≤ x → x ≤ 57 → Inked t → Inked (t ++ (x ∷ []))
inked-snoc x [] a b h = inked-cons x [] a b h
inked-snoc x (y ∷ t) a b h =
    inked-cons y (t ++ (x ∷ [])) (h 0 (zero-lt-suc (length t))).0 (h 0 (zero-lt-suc (length t))).1 (inked-snoc x t a b (λ j k. h (suc j) (omega arith)))

pub inked-digit_text : (w size : ℕ) → Inked (digit_text w size)
inked-digit_text zero size = λ k h. absurd (not-suc-le-zero h)
inked-digit_text (suc w) size =
    let d = digit-below w size in
    inked-cons (ascii_of (digit_at w size)) (digit_text w size) (omega arith) (omega arith) (inked-digit_text w size)

pub no-blank : (x : ℕ) → 43 ≤ x → is_blank x ≡ false
no-blank x h = rw (ne_eqb x 32 (omega arith), lt-leb x 13 (omega arith), and-false)

-- bytes from + on are trimmed away nowhere
pub trimmed-kept : (t : List ℕ) → ((k : ℕ) → k < length t → 43 ≤ get_or t k 0) → trimmed t ≡ t
trimmed-kept t h =
    ap (right_by is_blank) (left-kept is_blank t (λ k. no-blank (get_or t 0 0) (h 0 k)))
    ∙ right_kept is_blank t (λ k. no-blank (get_or t (length t - 1) 0) (h (length t - 1) (omega arith)))

pub trimmed-inked : (t : List ℕ) → Inked t → trimmed t ≡ t
trimmed-inked t h = trimmed-kept t (λ k l. (h k l).0)

-- ---- the digits of a text

digit-tests : (w size : ℕ) → (is_digit (ascii_of (digit_at w size)) ≡ true) × (is_ascii (ascii_of (digit_at w size)) ≡ true)
digit-tests w size =
    let d = digit-below w size in
    (rw (le-leb 48 (ascii_of (digit_at w size)) (omega arith), le-leb (ascii_of (digit_at w size)) 57 (omega arith)), lt-ltb (ascii_of (digit_at w size)) 128 (omega arith))

pub all_digits : (w size : ℕ) → every_by is_digit (digit_text w size) ≡ true
unfolding every_by
all_digits zero size = refl
all_digits (suc w) size = rw (digit-tests w size).0 (all_digits w size)

all_ascii : (w size : ℕ) → every_by is_ascii (digit_text w size) ≡ true
unfolding every_by
all_ascii zero size = refl
all_ascii (suc w) size = rw (digit-tests w size).1 (all_ascii w size)

pub digits-back : (w size : ℕ) → map digit_in (digit_text w size) ≡ digits_of w size
digits-back zero size = refl
digits-back (suc w) size =
    let e : digit_in (ascii_of (digit_at w size)) ≡ digit_at w size = omega arith in
    rw (e, digits-back w size)

-- so the digits that are kept spell the size, whatever is answered for it
pub kept_read : {X : Type 0} (answer : ℕ → X) (bad : X) (w size : ℕ) → size < 10 ^ w → kept_by answer bad (digit_text w size) ≡ answer size
unfolding kept_by
kept_read answer bad w size k =
    rw (all_ascii w size, keep-every is_digit (digit_text w size) (all_digits w size), digits-back w size, value-of-digits w size k)

-- ---- a sign

pub a-sign : (negative : Bool) → is_sign (sign_byte negative) ≡ true
a-sign true = refl
a-sign false = refl

pub a-minus : (negative : Bool) → eqb (sign_byte negative) 45 ≡ negative
a-minus true = refl
a-minus false = refl
