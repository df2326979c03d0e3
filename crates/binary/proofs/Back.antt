-- Reading a Binary field that was written gives its number back.
use mathlib.Core.Path.{◌≡◌, refl, sym, ap, ◌∙◌}
use mathlib.Core.Bool.{Bool, true, false, ◌&&◌, cond, and-false}
use Prim.Native.Nat.{ℕ, zero, suc, ◌+◌, ◌-◌, ◌*◌, ◌/◌, ◌%◌, ◌^◌, ◌≤◌, ◌<◌}
use native.Mathlib.Nat.{mod-eq_of_lt}
use native.Mathlib.Omega.{arith}
use lib.Arith.{digits_mod}
use lib.Pow.{pow-add}
use lib.Dec.{ltb}
use lib.ListN.{length}
use borrow.Author.Tests.{lt-ltb, le-leb, lt-leb}
use Rattle.value.specs.Answer.{given}
use Rattle.value.specs.Number.{number}
use Rattle.value.specs.Word.{word_of}
use Rattle.binary.specs.Bytes.{word_in}
use Rattle.binary.specs.Binary.{width_ok, integer_of, integer_bytes}
use Rattle.binary.proofs.Words.{word_back, bytes-length}
use Rattle.binary.proofs.Integers.{width_low, width-high, half_is, half_twice}

module _ (order n : ℕ) (ok : width_ok n ≡ true) where
  -- the number modulo 256^n is what stands in the field
  written : (negative : Bool) (size : ℕ) → word_in order (integer_bytes order n negative size) ≡ word_of negative size % 256 ^ n
  unfolding integer_bytes
  written negative size = word_back order n (word_of negative size)

  long : (negative : Bool) (size : ℕ) → length (integer_bytes order n negative size) ≡ n
  unfolding integer_bytes
  long negative size = bytes-length order n (word_of negative size)

  plain : (size : ℕ) → word_of false size ≡ size
  plain size = by (ltb 0 size)
    where
      by : (b : Bool) → cond (b && false) (2 ^ 64 - size) size ≡ size
      by true = refl
      by false = refl

  -- unsigned: below 256^n and 2^63
  pub unsigned_back : (size : ℕ) → size < 256 ^ n → size < 2 ^ 63 → integer_of order false (integer_bytes order n false size) ≡ given (number false size)
  unfolding integer_of
  unsigned_back size h l = rw (long false size, ok, written false size, plain size, mod-eq_of_lt h, lt-ltb size (2 ^ 63) l, and-false (ltb 0 size))

  -- signed: not negative and below half of 256^n, or negative and at most half of it
  pub plus-back : (size : ℕ) → 2 * size < 256 ^ n → integer_of order true (integer_bytes order n false size) ≡ given (number false size)
  unfolding integer_of
  plus-back size h =
      let t = half_twice n (width_low n ok) (width-high n ok) in
      let e = half_is n (width-high n ok) in
      let s : size < 256 ^ n = omega arith in
      rw (long false size, ok, written false size, plain size, mod-eq_of_lt s, lt-leb (256 ^ n / 2) size (rw (← e) (omega arith)), and-false (ltb 0 size))

  -- 2^64 is a multiple of 256^n
  low_part : (size : ℕ) → 0 < size → size ≤ 256 ^ n → (2 ^ 64 - size) % 256 ^ n ≡ 256 ^ n - size
  low_part size z h =
      let e : 8 - n + n ≡ 8 = omega (arith, width-high n ok) in
      split (256 ^ (8 - n)) (256 ^ n) (sym (pow-add 256 (8 - n) n) ∙ ap (λ (k : ℕ). 256 ^ k) e) h
    where
      split : (q p : ℕ) → q * p ≡ 2 ^ 64 → size ≤ p → (2 ^ 64 - size) % p ≡ p - size
      split zero p e l = absurd (omega arith)
      split (suc q) p e l =
          let m : suc q * p ≡ q * p + p = omega arith in
          let d : 2 ^ 64 - size ≡ q * p + (p - size) = omega arith in
          rw d (digits_mod q {m = p} {r = p - size} (omega arith))

  pub minus-back : (size : ℕ) → 0 < size → 2 * size ≤ 256 ^ n → integer_of order true (integer_bytes order n true size) ≡ given (number true size)
  unfolding integer_of
  minus-back size z h =
      let t = half_twice n (width_low n ok) (width-high n ok) in
      let e = half_is n (width-high n ok) in
      let m : (2 ^ 64 - size) % 256 ^ n ≡ 256 ^ n - size = low_part size z (omega arith) in
      let b : 256 ^ n - (256 ^ n - size) ≡ size = omega arith in
      rw (long true size, ok, written true size, lt-ltb 0 size z, m, le-leb (256 ^ n / 2) (256 ^ n - size) (rw (← e) (omega arith)), b, lt-ltb 0 size z)
