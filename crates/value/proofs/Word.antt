-- Words and back; the table of powers of ten.
use Rattle.std.proofs.Common.{◌≡◌, ℕ, zero, suc, ◌-◌, ◌^◌, ◌<◌, ◌≤◌, Bool, true, false, cond, ◌&&◌, ltb, refl, sym, ◌∙◌, subst, arith, w64, of_z, lt-ltb, le-leb}
use native.Mathlib.Decide.{dec_lt}
use borrow.Author.Tests.{lt-leb}
use Rattle.value.specs.Digits.{signed_of}
use Rattle.value.specs.Word.{word_of, minus_in, size_in, power_ten}
use Rattle.value.proofs.Digits.{pow-pos10}

-- the word is the machine's own for the integer
pub word-machine : (negative : Bool) (size : ℕ) → word_of negative size ≡ of_z w64 (signed_of negative size)
word-machine true zero = refl
word-machine true (suc n) = rw (lt-ltb 0 (suc n) (omega arith))
word-machine false zero = refl
word-machine false (suc n) = rw (lt-ltb 0 (suc n) (omega arith))

-- a word's sign and size give the word back
pub word_back : (w : ℕ) → w < 2 ^ 64 → word_of (minus_in w) (size_in w) ≡ w
word_back w h = go (dec_lt w (2 ^ 63))
  where
    go : Dec (w < 2 ^ 63) → word_of (minus_in w) (size_in w) ≡ w
    go (yes k) = rw (lt-leb (2 ^ 63) w k) (plain (ltb 0 w))
      where
        plain : (b : Bool) → cond (b && false) (2 ^ 64 - w) w ≡ w
        plain true = refl
        plain false = refl
    go (no k) =
        let e : 2 ^ 64 - (2 ^ 64 - w) ≡ w = omega arith in
        rw (le-leb (2 ^ 63) w (omega arith), lt-ltb 0 (2 ^ 64 - w) (omega arith), e)

-- and a sign and a size of the range come back from their word
pub minus-back : (negative : Bool) (size : ℕ) → size < 2 ^ 63 → minus_in (word_of negative size) ≡ (ltb 0 size && negative)
minus-back true zero h = refl
minus-back true (suc n) h = rw (lt-ltb 0 (suc n) (omega arith)) (le-leb (2 ^ 63) (2 ^ 64 - suc n) (omega arith))
minus-back false zero h = refl
minus-back false (suc n) h = rw (lt-ltb 0 (suc n) (omega arith)) (lt-leb (2 ^ 63) (suc n) h)

pub size_back : (negative : Bool) (size : ℕ) → size < 2 ^ 63 → size_in (word_of negative size) ≡ size
size_back true zero h = refl
size_back true (suc n) h =
    let e : 2 ^ 64 - (2 ^ 64 - suc n) ≡ suc n = omega arith in
    rw (lt-ltb 0 (suc n) (omega arith), le-leb (2 ^ 63) (2 ^ 64 - suc n) (omega arith), e)
size_back false zero h = refl
size_back false (suc n) h = rw (lt-ltb 0 (suc n) (omega arith), lt-leb (2 ^ 63) (suc n) h)

-- a minus's size: all 64 bits are used
pub minus-size : (w : ℕ) → w < 2 ^ 64 → size_in w ≤ 2 ^ 63
minus-size w h = go (dec_lt w (2 ^ 63))
  where
    go : Dec (w < 2 ^ 63) → size_in w ≤ 2 ^ 63
    go (yes k) = rw (lt-leb (2 ^ 63) w k) (omega arith)
    go (no k) = rw (le-leb (2 ^ 63) w (omega arith)) (omega arith)

-- ---- powers of ten

pub power-is : (k : ℕ) → k < 20 → power_ten k ≡ 10 ^ k
power-is k h = rw (lt-ltb k 20 h)

-- a divisor from the table
pub is-power : {p k : ℕ} → p ≡ power_ten k → k ≤ 19 → p ≡ 10 ^ k
is-power {p} {k} e h = e ∙ power-is k (omega arith)

pub some-power : {p k : ℕ} → p ≡ power_ten k → k ≤ 19 → 0 < p
some-power {p} {k} e h = subst (λ (n : ℕ). 0 < n) (sym (is-power e h)) (pow-pos10 k)
