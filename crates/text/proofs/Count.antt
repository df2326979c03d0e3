-- The count of a number's digits is the least n from 1 on with v < 10 ^ n.
use mathlib.Core.Path.{◌≡◌, refl, sym, ap, ◌∙◌, subst}
use mathlib.Core.Bool.{true}
use Prim.Native.Nat.{ℕ, zero, suc, ◌+◌, ◌-◌, ◌*◌, ◌/◌, ◌^◌, ◌≤◌, ◌<◌}
use native.Mathlib.Nat.{not-suc-le-zero, zero-lt-suc, pow-suc, le-div_iff_mul-le, div-lt_iff_lt-mul, lt_of_lt_of_le}
use native.Mathlib.Omega.{arith}
use native.Mathlib.Decide.{dec_lt}
use borrow.Author.Tests.{lt-ltb, le-ltb}
use lib.Dec.{ltb, lit<, lit≤}
use Rattle.value.specs.Digits.{digits_of, value_of}
use Rattle.value.specs.Word.{power_ten}
use Rattle.value.proofs.Digits.{pow-pos10, value-of-digits}
use Rattle.value.proofs.Word.{power-is}
use Rattle.text.specs.Shown.{count_in, digit_count}

count-true : (steps v : ℕ) → count_in steps true v ≡ 1
count-true zero v = refl
count-true (suc steps) v = refl

-- more steps than enough change nothing
enough : (a b v : ℕ) → v ≤ a → v ≤ b → count_in a (ltb v 10) v ≡ count_in b (ltb v 10) v
enough zero b v h k = rw (lt-ltb v 10 (omega arith)) (sym (count-true b v))
enough (suc a) zero v h k = rw (lt-ltb v 10 (omega arith)) refl
enough (suc a) (suc b) v h k = go (dec_lt v 10) (enough a b (v / 10))
  where
    go : Dec (v < 10) → (v / 10 ≤ a → v / 10 ≤ b → count_in a (ltb (v / 10) 10) (v / 10) ≡ count_in b (ltb (v / 10) 10) (v / 10))
        → count_in (suc a) (ltb v 10) v ≡ count_in (suc b) (ltb v 10) v
    go (yes l) i = rw (lt-ltb v 10 l) refl
    go (no l) i = rw (le-ltb v 10 (omega arith)) (ap suc (i (omega arith) (omega arith)))

pub count_small : (v : ℕ) → v < 10 → digit_count v ≡ 1
unfolding digit_count
count_small v h = rw (lt-ltb v 10 h) (count-true v v)

pub count-more : (v : ℕ) → 10 ≤ v → digit_count v ≡ suc (digit_count (v / 10))
unfolding digit_count
count-more zero h = absurd (omega arith)
count-more (suc u) h = rw (le-ltb (suc u) 10 h) (ap suc (enough u (suc u / 10) (suc u / 10) (omega arith) (omega arith)))

tenth-below : (n v : ℕ) → v < 10 ^ suc n → v / 10 < 10 ^ n
tenth-below n v h = (div-lt_iff_lt-mul {k = 10} {x = v} {y = 10 ^ n} (lit< tt)).1 (rw pow-suc at h)

tenth-above : (n v : ℕ) → 10 ^ suc n ≤ v → 10 ^ n ≤ v / 10
tenth-above n v h = (le-div_iff_mul-le {k = 10} {x = 10 ^ n} {y = v} (lit< tt)).1 (rw pow-suc at h)

from-ten : (n v : ℕ) → 10 ^ suc n ≤ v → 10 ≤ v
from-ten n v h =
    let p : 0 < 10 ^ n = pow-pos10 n in
    let k : 10 ^ n * 10 ≤ v = rw pow-suc at h in
    omega arith

-- the least: v has no more than suc n digits, and more than n
pub count-is : (n v : ℕ) → v < 10 ^ suc n → (0 < n → 10 ^ n ≤ v) → digit_count v ≡ suc n
count-is zero v h k = count_small v h
count-is (suc n) v h k =
    let l : 10 ^ suc n ≤ v = k (zero-lt-suc n) in
    count-more v (from-ten n v l) ∙ ap suc (count-is n (v / 10) (tenth-below (suc n) v h) (λ _. tenth-above n v l))

pub count-below : (n v : ℕ) → v < 10 ^ suc n → digit_count v ≤ suc n
count-below zero v h = rw (count_small v h) (omega arith)
count-below (suc n) v h = go (dec_lt v 10) (count-below n (v / 10) (tenth-below (suc n) v h))
  where
    go : Dec (v < 10) → digit_count (v / 10) ≤ suc n → digit_count v ≤ suc (suc n)
    go (yes l) i = rw (count_small v l) (omega arith)
    go (no l) i = rw (count-more v (omega arith)) (omega arith)

pub count-pos : (v : ℕ) → 0 < digit_count v
count-pos v = go (dec_lt v 10)
  where
    go : Dec (v < 10) → 0 < digit_count v
    go (yes l) = rw (count_small v l) (omega arith)
    go (no l) = rw (count-more v (omega arith)) (zero-lt-suc (digit_count (v / 10)))

-- ---- a loop that tries n = 1, 2, ..: more than n - 1 digits so far

abbrev pub Over : ℕ → ℕ → Type 0
Over n v = 1 < n → 10 ^ (n - 1) ≤ v

found : (n v : ℕ) → 0 < n → Over n v → v < 10 ^ n → n ≡ digit_count v
found zero v h k l = absurd (not-suc-le-zero h)
found (suc n) v h k l =
    let e : suc n - 1 ≡ n = omega arith in
    sym (count-is n v l (λ q. subst (λ (m : ℕ). 10 ^ m ≤ v) e (k (omega arith))))

pub count-found : (n v p : ℕ) → 0 < n → n < 20 → Over n v → p ≡ power_ten n → v < p → n ≡ digit_count v
count-found n v p h m k e l = found n v h k (subst (λ (q : ℕ). v < q) (e ∙ power-is n m) l)

pub count_next : (n v p : ℕ) → n < 20 → p ≡ power_ten n → p ≤ v → Over (n + 1) v
count_next n v p m e l _ =
    let q : n + 1 - 1 ≡ n = omega arith in
    subst (λ (k : ℕ). 10 ^ k ≤ v) (sym q) (subst (λ (r : ℕ). r ≤ v) (e ∙ power-is n m) l)

-- a word has at most 20
pub count-last : (n v : ℕ) → n ≡ 20 → v < 2 ^ 64 → Over n v → n ≡ digit_count v
count-last n v e f k = found n v (omega arith) k (subst (λ (m : ℕ). v < 10 ^ m) (sym e) (lt_of_lt_of_le f (lit≤ tt)))

pub count_word : (n v : ℕ) → n ≡ digit_count v → v < 2 ^ 64 → n ≤ 20
count_word n v e f = subst (λ (m : ℕ). m ≤ 20) (sym e) (count-below 19 v (lt_of_lt_of_le f (lit≤ tt)))

-- ---- the digits of a count spell the number

below_self : (v : ℕ) → v < 10 ^ suc v
below_self zero = lit< tt
below_self (suc v) = let i : v < 10 ^ suc v = below_self v in rw (pow-suc 10 (suc v)) (omega arith)

holds : (n v : ℕ) → v < 10 ^ suc n → v < 10 ^ digit_count v
holds zero v h = rw (count_small v h) h
holds (suc n) v h = go (dec_lt v 10) (holds n (v / 10) (tenth-below (suc n) v h))
  where
    go : Dec (v < 10) → v / 10 < 10 ^ digit_count (v / 10) → v < 10 ^ digit_count v
    go (yes l) i = rw (count_small v l) l
    go (no l) i = rw (count-more v (omega arith), pow-suc) (omega arith)

pub whole-value : (v : ℕ) → value_of (digits_of (digit_count v) v) ≡ v
whole-value v = value-of-digits (digit_count v) v (holds v v (below_self v))
