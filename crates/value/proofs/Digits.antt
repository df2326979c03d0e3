-- The laws of digits that reading and writing share, over any number of digits.
use Rattle.std.proofs.Common.{◌≡◌, ℕ, zero, suc, ◌+◌, ◌*◌, ◌/◌, ◌%◌, ◌^◌, ◌<◌, min, Bool, true, false, ◌&&◌, ltb, leb, List, [], ◌∷◌, ◌++◌, length, get_or, take, sym, refl, ap, ◌∙◌, append_assoc, append-nil, le_of_suc-le-suc, not-suc-le-zero, add_assoc, mod-lt, mod-eq_of_lt, mul_assoc, add-mul, pow-suc, zero-add, zero-mul, add-one, arith, lit<, take-suc, lt-ltb}
use mathlib.Core.Bool.{and-false}
use native.Mathlib.Nat.{pow-zero, pow-succ', div-div-eq-div-mul}
use lib.Arith.{mod-mul}
use lib.ListN.{length-map}
use borrow.Author.Tests.{lt-leb}
use Rattle.value.specs.Digits.{value_from, value_of, digits_ok, digit_at, digits_of, ascii_of, digit_text, spread}

-- a byte past a range of characters
pub past : (x y b : ℕ) → y < b → (leb x b && leb b y) ≡ false
past x y b h = rw (lt-leb b y h) (and-false (leb x b))

pub value-append : (acc : ℕ) (xs ys : List ℕ) → value_from acc (xs ++ ys) ≡ value_from (value_from acc xs) ys
value-append acc [] ys = refl
value-append acc (x ∷ xs) ys = value-append (acc * 10 + x) xs ys

and_assoc : (a b c : Bool) → ((a && b) && c) ≡ (a && (b && c))
and_assoc true b c = refl
and_assoc false b c = refl

pub ok-append : (xs ys : List ℕ) → digits_ok (xs ++ ys) ≡ (digits_ok xs && digits_ok ys)
ok-append [] ys = refl
ok-append (x ∷ xs) ys = ap (λ (t : Bool). ltb x 10 && t) (ok-append xs ys) ∙ sym (and_assoc (ltb x 10) (digits_ok xs) (digits_ok ys))

pub digit-below : (n v : ℕ) → digit_at n v < 10
digit-below n v = mod-lt (v / 10 ^ n) (lit< tt)

pub ok-digits : (n v : ℕ) → digits_ok (digits_of n v) ≡ true
ok-digits zero v = refl
ok-digits (suc n) v = rw (lt-ltb (digit_at n v) 10 (digit-below n v)) (ok-digits n v)

pub length_digits : (n v : ℕ) → length (digits_of n v) ≡ n
length_digits zero v = refl
length_digits (suc n) v = ap suc (length_digits n v)

pub length-digit_text : (n v : ℕ) → length (digit_text n v) ≡ n
length-digit_text n v = length-map (digits_of n v) ascii_of ∙ length_digits n v

pub pow-pos10 : (n : ℕ) → 0 < 10 ^ n
pow-pos10 zero = rw pow-zero (lit< tt)
pow-pos10 (suc n) = let h = pow-pos10 n in rw pow-suc (omega arith)

-- the n low digits spell the number modulo 10 ^ n
pub value-digits : (acc n v : ℕ) → value_from acc (digits_of n v) ≡ acc * 10 ^ n + v % 10 ^ n
value-digits acc zero v = omega arith
value-digits acc (suc n) v = value-digits (acc * 10 + digit_at n v) n v ∙
    rw (pow-succ' 10 n, mod-mul v {m = 10} {c = 10 ^ n} (lit< tt) (pow-pos10 n), add-mul, mul_assoc, add_assoc)

pub value-of-digits : (n v : ℕ) → v < 10 ^ n → value_of (digits_of n v) ≡ v
value-of-digits n v h = value-digits 0 n v ∙ rw (mod-eq_of_lt h) (simp (zero-mul, zero-add))

-- a size that stops counting at a cap spells the same up to the cap
cap-value : (cap v : ℕ) (ds : List ℕ) → min (value_from (min v cap) ds) cap ≡ min (value_from v ds) cap
cap-value cap v [] = omega arith
cap-value cap v (d ∷ ds) =
    let e : min (min v cap * 10 + d) cap ≡ min (v * 10 + d) cap = omega arith in
    sym (cap-value cap (min v cap * 10 + d) ds) ∙ ap (λ (n : ℕ). min (value_from n ds) cap) e ∙ cap-value cap (v * 10 + d) ds

-- so nothing is lost to an answer that does not tell sizes past the cap apart
pub cap-answer : {X : Type 0} (answer : ℕ → X) (cap : ℕ) → ((v : ℕ) → answer (min v cap) ≡ answer v) → (v : ℕ) (ds : List ℕ)
    → answer (value_from (min v cap) ds) ≡ answer (value_from v ds)
cap-answer answer cap same v ds =
    sym (same (value_from (min v cap) ds)) ∙ ap answer (cap-value cap v ds) ∙ same (value_from v ds)

-- the two digits of a byte
pub high_digit : (a b : ℕ) → b < 16 → (a * 16 + b) / 16 ≡ a
high_digit a b h = omega arith

pub low_digit : (a b : ℕ) → b < 16 → (a * 16 + b) % 16 ≡ b
low_digit a b h = omega arith

-- dividing by ten moves to the next place
pub next_place : (n v : ℕ) → v / 10 ^ n / 10 ≡ v / 10 ^ suc n
next_place n v = rw (div-div-eq-div-mul, pow-suc)

-- ---- the digits of the bytes of a part

pub spread-append : (f : ℕ → List ℕ) (xs ys : List ℕ) → spread f (xs ++ ys) ≡ spread f xs ++ spread f ys
spread-append f [] ys = refl
spread-append f (x ∷ xs) ys = ap (λ (t : List ℕ). f x ++ t) (spread-append f xs ys) ∙ sym (append_assoc (f x) (spread f xs) (spread f ys))

-- one byte more
pub spread-more : (f : ℕ → List ℕ) (l : List ℕ) (i : ℕ) → i < length l → spread f (take (i + 1) l) ≡ spread f (take i l) ++ f (get_or l i 0)
spread-more f l i h = rw (add-one, take-suc l i 0 h, spread-append) (ap (λ (t : List ℕ). spread f (take i l) ++ t) (append-nil (f (get_or l i 0))))

-- a byte whose digits are unlawful makes any longer part unlawful
pub bad-at : (f : ℕ → List ℕ) (l : List ℕ) (i k : ℕ) → i < k → i < length l → digits_ok (f (get_or l i 0)) ≡ false → digits_ok (spread f (take k l)) ≡ false
bad-at f [] i k h m e = absurd (not-suc-le-zero m)
bad-at f (x ∷ l) i zero h m e = absurd (not-suc-le-zero h)
bad-at f (x ∷ l) zero (suc k) h m e = ok-append (f x) (spread f (take k l)) ∙ rw e refl
bad-at f (x ∷ l) (suc i) (suc k) h m e =
    ok-append (f x) (spread f (take k l)) ∙ rw (bad-at f l i k (le_of_suc-le-suc h) (le_of_suc-le-suc m) e) (and-false (digits_ok (f x)))

-- the digits above the units, and the units
pub digits-snoc : (k v : ℕ) → digits_of k (v / 10) ++ (digit_at 0 v ∷ []) ≡ digits_of (suc k) v
digits-snoc zero v = refl
digits-snoc (suc k) v =
    let e : v / 10 / 10 ^ k ≡ v / 10 ^ suc k = div-div-eq-div-mul v 10 (10 ^ k) ∙ ap (λ (n : ℕ). v / n) (sym (pow-succ' 10 k)) in
    rw e (ap (λ (l : List ℕ). digit_at (suc k) v ∷ l) (digits-snoc k v))
