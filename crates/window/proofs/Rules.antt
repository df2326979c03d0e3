-- What values contribute: by either rule no more than the size itself, so that a small value stays small and its word gives back sign and size.
use Rattle.std.proofs.Common.{◌≡◌, ℕ, zero, suc, ◌+◌, ◌-◌, ◌/◌, ◌%◌, ◌^◌, ◌<◌, ◌≤◌, Bool, true, false, cond, eqb, ltb, sym, refl, ap, ◌∙◌, subst, ap₂, le-div_iff_mul-le, div-le_self, div-mul-le_self, arith, lit<, ltb-true, lt-ltb, ne_eqb}
use native.Mathlib.Nat.{div-eq_of_lt, pow-le-pow_right}
use Rattle.lists.proofs.Logic.{and, and_left, and_right}
use Rattle.value.specs.Digits.{signed_of}
use Rattle.value.specs.Rounding.{Nearest, goes_up, rounded}
use Rattle.value.specs.Word.{word_of, minus_in, size_in}
use Rattle.value.proofs.Digits.{pow-pos10}
use Rattle.value.proofs.Nearest.{rounded-nearest, next-most}
use Rattle.value.proofs.Rounding.{scale-gone}
use Rattle.value.proofs.Word.{size_back, minus-back}
use Rattle.window.specs.Window.{Pair, whole_of, small, small_pair, Rule, cutting, half_even, ruled, contributed, contributed_pair}
use Rattle.window.specs.Runs.{Cut, EachContributes}

-- ---- a size by a rule

pub ruled-most : (rule : Rule) (n d : ℕ) → 0 < d → ruled rule n d ≤ n
unfolding rounded
ruled-most cutting n d h = div-le_self n d
ruled-most half_even n d h = go (goes_up (n % d) (d - n % d) (n / d)) refl
  where
    go : (b : Bool) → goes_up (n % d) (d - n % d) (n / d) ≡ b → n / d + cond b 1 0 ≤ n
    go true e = next-most n d h e
    go false e = omega (arith, div-le_self n d)

-- from 10^20 on nothing is left of a word
pub ruled-gone : (rule : Rule) (n k : ℕ) → 19 < k → n < 2 ^ 64 → 0 ≡ ruled rule n (10 ^ k)
ruled-gone cutting n k h f = let b : 10 ^ 20 ≤ 10 ^ k = pow-le-pow_right {n = 10} (lit< tt) {i = 20} h in sym (div-eq_of_lt (omega arith))
ruled-gone half_even n k h f = scale-gone k n h f

cut-is : (n d : ℕ) → 0 < d → Cut n d (n / d)
cut-is n d h = record { within = div-mul-le_self n d; greatest = λ m k. (le-div_iff_mul-le {k = d} {x = m} {y = n} h).1 k }

-- ---- what one value contributes

module _ (scale display : ℕ) (rule : Rule) (x : ℕ) where
  contributed-word : (display ≡ 0 → ⊥) → word_of (minus_in x) (ruled rule (size_in x) (10 ^ (scale - (display - 1)))) ≡ contributed scale display rule x
  unfolding contributed
  contributed-word h = rw (ne_eqb display 0 h)

-- a small value's size
small_size : (x : ℕ) → small x ≡ true → size_in x < 10 ^ 12
small_size x h = ltb-true (size_in x) (10 ^ 12) (and_right (ltb x (2 ^ 64)) (ltb (size_in x) (10 ^ 12)) h)

word_below : (minus : Bool) (s : ℕ) → s < 10 ^ 12 → word_of minus s < 2 ^ 64
word_below true zero h = omega arith
word_below true (suc n) h = rw (lt-ltb 0 (suc n) (omega arith)) (omega arith)
word_below false zero h = omega arith
word_below false (suc n) h = rw (lt-ltb 0 (suc n) (omega arith)) (omega arith)

word_small : (minus : Bool) (s : ℕ) → s < 10 ^ 12 → small (word_of minus s) ≡ true
word_small minus s h = and (lt-ltb (word_of minus s) (2 ^ 64) (word_below minus s h)) (ap (λ n. ltb n (10 ^ 12)) (size_back minus s (omega arith)) ∙ lt-ltb s (10 ^ 12) h)

word-whole : (minus : Bool) (s : ℕ) → s < 10 ^ 12 → whole_of (word_of minus s) ≡ signed_of minus s
word-whole true zero h = refl
word-whole false zero h = refl
word-whole minus (suc n) h = ap₂ signed_of (minus-back minus (suc n) (omega arith)) (size_back minus (suc n) (omega arith)) ∙ rw (lt-ltb 0 (suc n) (omega arith))

module _ (scale display : ℕ) (rule : Rule) (x : ℕ) (h : small x ≡ true) where
  abbrev size : ℕ
  size = ruled rule (size_in x) (10 ^ (scale - (display - 1)))

  size_small : size < 10 ^ 12
  size_small = omega (arith, small_size x h, ruled-most rule (size_in x) (10 ^ (scale - (display - 1))) (pow-pos10 (scale - (display - 1))))

  pub contributed-small : small (contributed scale display rule x) ≡ true
  unfolding contributed
  contributed-small = go (eqb display 0)
    where
      go : (b : Bool) → small (cond b x (word_of (minus_in x) size)) ≡ true
      go true = h
      go false = word_small (minus_in x) size size_small

  module _ (some : 0 < display) where
    is_word : contributed scale display rule x ≡ word_of (minus_in x) size
    is_word = sym (contributed-word scale display rule x (λ z. omega arith))

    size_is : size_in (contributed scale display rule x) ≡ size
    size_is = ap size_in is_word ∙ size_back (minus_in x) size (omega (arith, size_small))

    whole_is : whole_of (contributed scale display rule x) ≡ signed_of (minus_in x) (size_in (contributed scale display rule x))
    whole_is = ap whole_of is_word ∙ word-whole (minus_in x) size size_small ∙ ap (signed_of (minus_in x)) (sym size_is)

pub each-contributes : EachContributes
each-contributes scale display x some h =
    let d = 10 ^ (scale - (display - 1)) in
    let p = pow-pos10 (scale - (display - 1)) in
    record {
      cut = subst (Cut (size_in x) d) (sym (size_is scale display cutting x h some)) (cut-is (size_in x) d p);
      nearest = subst (λ q. Nearest (size_in x) d q) (sym (size_is scale display half_even x h some)) (rounded-nearest (size_in x) d p);
      signed = λ rule. whole_is scale display rule x h some;
    }

-- ---- pairs

module _ (scale display : ℕ) (rule : Rule) where
  pub contributed-pair : (p : Pair ℕ) → small_pair p ≡ true → small_pair (contributed_pair scale display rule p) ≡ true
  contributed-pair p h =
      and (contributed-small scale display rule p.first (and_left (small p.first) (small p.second) h))
      (contributed-small scale display rule p.second (and_right (small p.first) (small p.second) h))

pub pair-itself : (scale : ℕ) (rule : Rule) (p : Pair ℕ) → contributed_pair scale 0 rule p ≡ p
unfolding contributed
pair-itself scale rule p = refl
