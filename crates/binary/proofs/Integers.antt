-- Two's complement by the width.
use mathlib.Core.Path.{◌≡◌, refl, sym, ap, ◌∙◌, subst}
use mathlib.Core.List.{List, [], ◌∷◌}
use mathlib.Core.Bool.{Bool, true, false, ◌&&◌, false≢true}
use Prim.Native.Nat.{ℕ, zero, suc, ◌+◌, ◌-◌, ◌*◌, ◌/◌, ◌%◌, ◌^◌, ◌≤◌, ◌<◌}
use native.Mathlib.Nat.{mod-eq_of_lt, lt_of_lt_of_le, pow-le-pow_right}
use native.Mathlib.Numerals.{add-one}
use native.Mathlib.Omega.{arith}
use lib.Dec.{eqb, leb, eqb→eq, lit<}
use lib.ListN.{length, get_or}
use borrow.Author.Tests.{le-leb, leb-true}
use Rattle.lists.proofs.Table.{at}
use Rattle.value.specs.Number.{some}
use Rattle.binary.specs.Binary.{half_of, width_ok, signed_word}
use Rattle.binary.proofs.Words.{word_below}
use Rattle.binary.specs.Bytes.{word_in}

pub width_low : (n : ℕ) → width_ok n ≡ true → 1 ≤ n
width_low n e = by (leb 1 n) refl e
  where
    by : (b : Bool) → leb 1 n ≡ b → (b && leb n 8) ≡ true → 1 ≤ n
    by true q r = leb-true 1 n q
    by false q r = absurd (false≢true r)

pub width-high : (n : ℕ) → width_ok n ≡ true → n ≤ 8
width-high n e = by (leb 1 n) refl e
  where
    by : (b : Bool) → leb 1 n ≡ b → (b && leb n 8) ≡ true → n ≤ 8
    by true q r = leb-true n 8 r
    by false q r = absurd (false≢true r)

halves : List ℕ
halves = 0 ∷ 0x80 ∷ 0x8000 ∷ 0x80_0000 ∷ 0x8000_0000 ∷ 0x80_0000_0000 ∷ 0x8000_0000_0000 ∷ 0x80_0000_0000_0000 ∷ 0x8000_0000_0000_0000 ∷ []

abbrev pub half_at : ℕ → ℕ
half_at n = get_or (0 ∷ 0x80 ∷ 0x8000 ∷ 0x80_0000 ∷ 0x8000_0000 ∷ 0x80_0000_0000 ∷ 0x8000_0000_0000 ∷ 0x80_0000_0000_0000 ∷ 0x8000_0000_0000_0000 ∷ []) n 0

right : ℕ → ℕ → Bool
right k x = eqb x (256 ^ k / 2)

behind : List ℕ
behind = 0x80 ∷ 0x8000 ∷ 0x80_0000 ∷ 0x8000_0000 ∷ 0x80_0000_0000 ∷ 0x8000_0000_0000 ∷ 0x80_0000_0000_0000 ∷ 0x8000_0000_0000_0000 ∷ []

even : ℕ → ℕ → Bool
even k x = eqb (2 * x) (256 ^ (k + 1))

pub half_is : (n : ℕ) → n ≤ 8 → half_at n ≡ 256 ^ n / 2
unfolding halves right
half_is n h = eqb→eq (get_or halves n 0) (256 ^ n / 2) (at right halves tt n (omega arith))

pub half-known : (n : ℕ) → width_ok n ≡ true → half_of n ≡ half_at n
half-known n ok = rw ok (sym (half_is n (width-high n ok)))

pub half_twice : (n : ℕ) → 1 ≤ n → n ≤ 8 → 2 * half_at n ≡ 256 ^ n
unfolding behind even
half_twice zero l h = absurd (omega arith)
half_twice (suc n) l h = eqb→eq (2 * get_or behind n 0) (256 ^ (n + 1)) (at even behind tt n (omega arith)) ∙ ap (λ (k : ℕ). 256 ^ k) (add-one n)

pub from-half : (n v h : ℕ) → width_ok n ≡ true → h ≡ half_of n → v < 256 ^ n → h ≤ v → some true (h - (v - h)) ≡ signed_word n v
from-half n v h ok e b l =
    let a : h ≡ half_at n = e ∙ half-known n ok in
    let t : 2 * half_at n ≡ 256 ^ n = half_twice n (width_low n ok) (width-high n ok) in
    let r : h - (v - h) ≡ 256 ^ n - v = omega arith in
    let k : 256 ^ n / 2 ≤ v = rw (a, half_is n (width-high n ok)) at l in
    rw (r, le-leb (256 ^ n / 2) v k)

-- a word of at most eight bytes is read whole
pub whole_word : (n v : ℕ) → n ≤ 8 → v < 256 ^ n → v % 2 ^ 64 ≡ v
whole_word n v h l = mod-eq_of_lt (lt_of_lt_of_le l (subst (λ (m : ℕ). 256 ^ n ≤ m) eight (pow-le-pow_right {n = 256} (lit< tt) h)))
  where
    eight : 256 ^ 8 ≡ 2 ^ 64
    eight = refl

-- what a reader of at most eight bytes finds
pub word-is : (order : ℕ) (s : List ℕ) → ((k : ℕ) → k < length s → get_or s k 0 < 256) → width_ok (length s) ≡ true → word_in order s % 2 ^ 64 ≡ word_in order s
word-is order s bytes ok = whole_word (length s) (word_in order s) (width-high (length s) ok) (word_below order s bytes)
