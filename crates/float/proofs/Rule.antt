-- The rounding rule as floats use it: it is the rounding of IEEE 754 (`closest`), so that it sees only a fraction's value, and its divisors are powers of two.
use Rattle.std.proofs.Common.{◌≡◌, ℕ, ◌+◌, ◌-◌, ◌*◌, ◌/◌, ◌%◌, ◌^◌, ◌<◌, ◌≤◌, Bool, true, false, cond, eqb, sym, refl, ap, ◌∙◌, subst, true≢false, lt_of_le_of_lt, le_of_lt, lt_irrefl, mod-lt, mod-eq_of_lt, div-lt_iff_lt-mul, one-mul, le-div_iff_mul-le, add-one, arith, lit<, pow_mono, le-ltb, lt-ltb, eq-eqb, ne_eqb, le-leb}
use Prim.Native.Nat.{compare, Ordering}
use native.Mathlib.Decide.{dec_lt}
use lib.Dec.{is_le, compare_is_eq}
use lib.Ieee.{nearest}
use lib.Ieee.Nearest.{closest, closest_same}
use borrow.Author.Tests.{lt-leb}
use Rattle.value.specs.Rounding.{goes_up, rounded}
use Rattle.value.proofs.Nearest.{rounded-none}

-- ---- what `compare` says
less : (a b : ℕ) → a < b → compare a b ≡ Ordering.lt
less a b h = go (compare a b) (le-leb a b (le_of_lt h)) (ne_eqb a b (λ e. lt_irrefl b (subst (λ (z : ℕ). z < b) e h)))
  where
    go : (o : Ordering) → is_le o ≡ true → compare_is_eq o ≡ false → o ≡ Ordering.lt
    go Ordering.lt p q = refl
    go Ordering.eq p q = absurd (true≢false q)
    go Ordering.gt p q = absurd (true≢false (sym p))

same : (a b : ℕ) → a ≡ b → compare a b ≡ Ordering.eq
same a b h = go (compare a b) (eq-eqb a b h)
  where
    go : (o : Ordering) → compare_is_eq o ≡ true → o ≡ Ordering.eq
    go Ordering.lt q = absurd (true≢false (sym q))
    go Ordering.eq q = refl
    go Ordering.gt q = absurd (true≢false (sym q))

more : (a b : ℕ) → b < a → compare a b ≡ Ordering.gt
more a b h = go (compare a b) (lt-leb a b h)
  where
    go : (o : Ordering) → is_le o ≡ false → o ≡ Ordering.gt
    go Ordering.lt q = absurd (true≢false q)
    go Ordering.eq q = absurd (true≢false q)
    go Ordering.gt q = refl

-- ---- the rule is IEEE 754's
odd : (q : ℕ) → q + cond (eqb (q % 2) 1) 1 0 ≡ q + q % 2
odd q = go (dec_lt (q % 2) 1)
  where
    go : Dec (q % 2 < 1) → q + cond (eqb (q % 2) 1) 1 0 ≡ q + q % 2
    go (yes h) = let e : q % 2 ≡ 0 = omega arith in rw e
    go (no h) = let e : q % 2 ≡ 1 = omega arith in rw e

pub rounded-closest : (n d : ℕ) → 0 < d → rounded n d ≡ closest n d
unfolding rounded
rounded-closest n d h = go (n / d) (n % d) (mod-lt n h) (dec_lt (n % d * 2) d) (dec_lt d (n % d * 2))
  where
    go : (q r : ℕ) → r < d → Dec (r * 2 < d) → Dec (d < r * 2) → q + cond (goes_up r (d - r) q) 1 0 ≡ nearest q (compare (r * 2) d)
    go q r l (yes a) b = rw (less (r * 2) d a, ne_eqb r (d - r) (λ e. omega arith), le-ltb (d - r) r (omega arith)) (omega arith)
    go q r l (no a) (yes b) = rw (more (r * 2) d b, ne_eqb r (d - r) (λ e. omega arith), lt-ltb (d - r) r (omega arith)) (add-one q)
    go q r l (no a) (no b) = rw (same (r * 2) d (omega arith), eq-eqb r (d - r) (omega arith)) (odd q)

-- ---- it sees only a fraction's value
pub rounded-same : (a b c d : ℕ) → 0 < b → 0 < d → a * d ≡ c * b → rounded a b ≡ rounded c d
rounded-same a b c d B D e = rounded-closest a b B ∙ closest_same a b c d B D e ∙ sym (rounded-closest c d D)

-- ---- what is below or above a whole number does not go past it
pub rounded-le : (n d b : ℕ) → 0 < d → n < b * d → rounded n d ≤ b
unfolding rounded
rounded-le n d b D h = one (goes_up (n % d) (d - n % d) (n / d)) ((div-lt_iff_lt-mul D).1 h)
  where
    one : (up : Bool) → n / d < b → n / d + cond up 1 0 ≤ b
    one true l = omega arith
    one false l = omega arith

pub rounded-ge : (n d b : ℕ) → 0 < d → b * d ≤ n → b ≤ rounded n d
unfolding rounded
rounded-ge n d b D h = one (goes_up (n % d) (d - n % d) (n / d)) ((le-div_iff_mul-le D).1 h)
  where
    one : (up : Bool) → b ≤ n / d → b ≤ n / d + cond up 1 0
    one true l = omega arith
    one false l = omega arith

-- ---- `1 << k` loses nothing
pub bit : (k : ℕ) → k ≤ 60 → 1 * 2 ^ k % 2 ^ 64 ≡ 2 ^ k
bit k h = ap (λ (x : ℕ). x % 2 ^ 64) (one-mul (2 ^ k)) ∙ mod-eq_of_lt (lt_of_le_of_lt (pow_mono h) (lit< tt))

-- ---- from 2 ^ 61 on no significand comes to a half
pub none_left : (m k : ℕ) → m < 2 ^ 53 → 60 < k → 0 ≡ rounded m (2 ^ k)
none_left m k h l = let p : 2 ^ 61 ≤ 2 ^ k = pow_mono l in rounded-none m (2 ^ k) (omega arith)
