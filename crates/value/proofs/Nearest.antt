-- The rounding rule has its property and is alone in it: of n = q * d + r the distances to q and q + 1 are r and d - r, and any other whole number is farther than one of these two.
use Rattle.std.proofs.Common.{◌≡◌, ℕ, ◌+◌, ◌-◌, ◌*◌, ◌/◌, ◌%◌, ◌^◌, ◌<◌, ◌≤◌, Bool, true, false, cond, eqb, ltb, sym, refl, ap, ◌∙◌, subst, mul-le-mul_right, mod-lt, mod-eq_of_lt, add-mul, mul-le-mul_left, one-mul, div-add-mod', mul-one, arith, ltb-false, ltb-true, le-ltb, lt-ltb, eq-eqb, ne_eqb, eqb-true}
use native.Mathlib.Nat.{div-eq_of_lt}
use native.Mathlib.Decide.{dec_lt}
use borrow.Author.Tests.{eqb-false}
use Rattle.value.specs.Rounding.{away, Nearest, goes_up, rounded, RoundedNearest, NearestRounded, rescaled, ScaleLost}
use Rattle.value.proofs.Digits.{pow-pos10}

-- ---- the rule, of r above q and l below q + 1

data Up (r l q : ℕ) : Type 0 where
  nearer : l < r → Up r l q
  odd : r ≡ l → q % 2 ≡ 1 → Up r l q

data Down (r l q : ℕ) : Type 0 where
  nearer : r < l → Down r l q
  even : r ≡ l → q % 2 ≡ 0 → Down r l q

goes-true : (r l q : ℕ) → goes_up r l q ≡ true → Up r l q
goes-true r l q = go (eqb r l) refl
  where
    go : (b : Bool) → eqb r l ≡ b → cond b (eqb (q % 2) 1) (ltb l r) ≡ true → Up r l q
    go true e h = odd (eqb-true r l e) (eqb-true (q % 2) 1 h)
    go false e h = nearer (ltb-true l r h)

goes-false : (r l q : ℕ) → goes_up r l q ≡ false → Down r l q
goes-false r l q = go (eqb r l) refl
  where
    go : (b : Bool) → eqb r l ≡ b → cond b (eqb (q % 2) 1) (ltb l r) ≡ false → Down r l q
    go true e h = let n = eqb-false (q % 2) 1 h in even (eqb-true r l e) (omega arith)
    go false e h = let n = eqb-false r l e in let k = ltb-false l r h in nearer (omega arith)

up-goes : (r l q : ℕ) → Up r l q → goes_up r l q ≡ true
up-goes r l q (nearer h) = rw (ne_eqb r l (λ e. omega arith)) (lt-ltb l r h)
up-goes r l q (odd e o) = rw (eq-eqb r l e) (eq-eqb (q % 2) 1 o)

down-stays : (r l q : ℕ) → Down r l q → goes_up r l q ≡ false
down-stays r l q (nearer h) = rw (ne_eqb r l (λ e. omega arith)) (le-ltb l r (omega arith))
down-stays r l q (even e o) = rw (eq-eqb r l e) (ne_eqb (q % 2) 1 (λ z. omega arith))

-- ---- where a whole number m is, at the distance a

data Place (q r l m a : ℕ) : Type 0 where
  low : m ≡ q → a ≡ r → Place q r l m a
  high : m ≡ q + 1 → a ≡ l → Place q r l m a
  below : r < a → Place q r l m a
  beyond : l < a → Place q r l m a

module _ (q r d : ℕ) (h : r < d) where
  at_low : away (q * d + r) d q ≡ r
  at_low = omega arith

  at_high : away (q * d + r) d (q + 1) ≡ d - r
  at_high = omega (arith, add-mul q 1 d, one-mul d)

  place : (m : ℕ) → Place q r (d - r) m (away (q * d + r) d m)
  place m = go (dec_lt m q) (dec_lt q m) (dec_lt (q + 1) m)
    where
      go : Dec (m < q) → Dec (q < m) → Dec (q + 1 < m) → Place q r (d - r) m (away (q * d + r) d m)
      go (yes k) y z = let a : (m + 1) * d ≤ q * d = mul-le-mul_right d (omega arith) in below (omega (arith, add-mul m 1 d, one-mul d))
      go (no k) (no y) z = let e : m ≡ q = omega arith in low e (ap (away (q * d + r) d) e ∙ at_low)
      go (no k) (yes y) (no z) = let e : m ≡ q + 1 = omega arith in high e (ap (away (q * d + r) d) e ∙ at_high)
      go (no k) (yes y) (yes z) = let a : (q + 2) * d ≤ m * d = mul-le-mul_right d (omega arith) in beyond (omega (arith, add-mul q 2 d))

-- ---- the neighbour that the rule takes has the property

up_le : {r l q : ℕ} → Up r l q → l ≤ r
up_le (nearer u) = omega arith
up_le (odd u o) = omega arith

down_le : {r l q : ℕ} → Down r l q → r ≤ l
down_le (nearer u) = omega arith
down_le (even u o) = omega arith

module _ {q r l m a : ℕ} where
  nearest-two : (k : ℕ) → k ≤ r → k ≤ l → Place q r l m a → k ≤ a
  nearest-two k x y (low e f) = omega arith
  nearest-two k x y (high e f) = omega arith
  nearest-two k x y (below f) = omega arith
  nearest-two k x y (beyond f) = omega arith

  up-even : Up r l q → Place q r l m a → (m ≡ q + 1 → ⊥) → a ≡ l → (q + 1) % 2 ≡ 0
  up-even (nearer u) (low e f) n t = absurd (omega arith)
  up-even (nearer u) (high e f) n t = absurd (n e)
  up-even (nearer u) (below f) n t = absurd (omega arith)
  up-even (nearer u) (beyond f) n t = absurd (omega arith)
  up-even (odd u o) p n t = omega arith

  down-even : Down r l q → Place q r l m a → (m ≡ q → ⊥) → a ≡ r → q % 2 ≡ 0
  down-even (nearer u) (low e f) n t = absurd (n e)
  down-even (nearer u) (high e f) n t = absurd (omega arith)
  down-even (nearer u) (below f) n t = absurd (omega arith)
  down-even (nearer u) (beyond f) n t = absurd (omega arith)
  down-even (even u o) p n t = o

module _ (q r d : ℕ) (h : r < d) where
  up-nearest : Up r (d - r) q → Nearest (q * d + r) d (q + 1)
  up-nearest u = record {
    least = λ m. rw (at_high q r d h) (nearest-two (d - r) (up_le u) (omega arith) (place q r d h m));
    even = λ m n t. up-even u (place q r d h m) n (t ∙ at_high q r d h);
  }

  down-nearest : Down r (d - r) q → Nearest (q * d + r) d q
  down-nearest u = record {
    least = λ m. rw (at_low q r d h) (nearest-two r (omega arith) (down_le u) (place q r d h m));
    even = λ m n t. down-even u (place q r d h m) n (t ∙ at_low q r d h);
  }

  taken : (b : Bool) → goes_up r (d - r) q ≡ b → Nearest (q * d + r) d (q + cond b 1 0)
  taken true e = up-nearest (goes-true r (d - r) q e)
  taken false e = subst (Nearest (q * d + r) d) (none q) (down-nearest (goes-false r (d - r) q e))
    where
      none : (k : ℕ) → k ≡ k + 0
      none k = omega arith

pub rounded-nearest : RoundedNearest
unfolding rounded
rounded-nearest n d h =
    let up = goes_up (n % d) (d - n % d) (n / d) in
    subst (λ (k : ℕ). Nearest k d (n / d + cond up 1 0)) (div-add-mod' n d) (taken (n / d) (n % d) d (mod-lt n h) up refl)

-- ---- what has the property is the neighbour that the rule takes
module _ (q r d : ℕ) (h : r < d) (c : ℕ) (k : Nearest (q * d + r) d c) where
  only : Place q r (d - r) c (away (q * d + r) d c) → q + cond (goes_up r (d - r) q) 1 0 ≡ c
  only (low e f) = rw (down-stays r (d - r) q (go (dec_lt r (d - r)))) (omega arith)
    where
      go : Dec (r < d - r) → Down r (d - r) q
      go (yes l) = nearer l
      go (no l) =
          let z = k.least (q + 1) in
          let t : r ≡ d - r = omega (arith, at_high q r d h, z) in
          even t (subst (λ (i : ℕ). i % 2 ≡ 0) e (k.even (q + 1) (λ w. omega arith) (at_high q r d h ∙ sym t ∙ sym f)))
  only (high e f) = rw (up-goes r (d - r) q (go (dec_lt (d - r) r))) (sym e)
    where
      go : Dec (d - r < r) → Up r (d - r) q
      go (yes l) = nearer l
      go (no l) =
          let z = k.least q in
          let t : r ≡ d - r = omega (arith, at_low q r d h, z) in
          let o : (q + 1) % 2 ≡ 0 = subst (λ (i : ℕ). i % 2 ≡ 0) e (k.even q (λ w. omega arith) (at_low q r d h ∙ t ∙ sym f)) in
          odd t (omega arith)
  only (below f) = absurd (omega (arith, at_low q r d h, k.least q))
  only (beyond f) = absurd (omega (arith, at_high q r d h, k.least (q + 1)))

pub nearest-rounded : NearestRounded
unfolding rounded
nearest-rounded n d c h k =
    let e = div-add-mod' n d in
    only (n / d) (n % d) d (mod-lt n h) c (subst (λ (i : ℕ). Nearest i d c) (sym e) k) (place (n / d) (n % d) d (mod-lt n h) c)

-- ---- every pair of scales
pub scale-lost : ScaleLost
unfolding rescaled
scale-lost from to size h = rw (le-ltb from to h) (rounded-nearest size (10 ^ (from - to)) (pow-pos10 (from - to)))

-- ---- as the code finds it, with the divisor p that it has for d
module _ (n d p : ℕ) (e : p ≡ d) where
  pub rounded-up : goes_up (n % p) (p - n % p) (n / p) ≡ true → n / p + 1 ≡ rounded n d
  unfolding rounded
  rounded-up h = subst (λ (i : ℕ). n / p + 1 ≡ n / i + cond (goes_up (n % i) (i - n % i) (n / i)) 1 0) e (rw h)

  pub rounded-down : goes_up (n % p) (p - n % p) (n / p) ≡ false → n / p ≡ rounded n d
  unfolding rounded
  rounded-down h = subst (λ (i : ℕ). n / p ≡ n / i + cond (goes_up (n % i) (i - n % i) (n / i)) 1 0) e (rw h (omega arith))

-- what goes up has a rest, so that the next whole number is no greater than the numerator
pub next-most : (n d : ℕ) → 0 < d → goes_up (n % d) (d - n % d) (n / d) ≡ true → n / d + 1 ≤ n
next-most n d h g =
    let a = rest (n % d) (goes-true (n % d) (d - n % d) (n / d) g) in
    let m : n / d * 1 ≤ n / d * d = mul-le-mul_left (n / d) h in
    omega (arith, div-add-mod' n d, mul-one (n / d))
  where
    rest : (r : ℕ) → Up r (d - r) (n / d) → 0 < r
    rest r (nearer u) = omega arith
    rest r (odd u o) = omega arith

-- ---- a whole number is itself, and what is below a half is none
pub rounded-whole : (n : ℕ) → rounded n 1 ≡ n
unfolding rounded
rounded-whole n =
    let q : n / 1 ≡ n = omega arith in
    let r : n % 1 ≡ 0 = omega arith in
    rw (q, r) (omega arith)

pub rounded-none : (n d : ℕ) → n * 2 < d → 0 ≡ rounded n d
unfolding rounded
rounded-none n d h =
    let l : n < d = omega arith in
    rw (div-eq_of_lt l, mod-eq_of_lt l, ne_eqb n (d - n) (λ e. omega arith), le-ltb (d - n) n (omega arith))
