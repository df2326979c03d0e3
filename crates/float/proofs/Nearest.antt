-- `narrowed` has its property and is alone in it: with k digits dropped, the sizes near n / d are multiples of 2 ^ k units, among which `rounded` takes the nearest; below them all is farther.
-- Where the infinity begins follows from the property alone.
use Rattle.std.proofs.Common.{◌≡◌, ℕ, suc, ◌+◌, ◌-◌, ◌*◌, ◌/◌, ◌%◌, ◌^◌, ◌<◌, ◌≤◌, min, sym, ap, ◌∙◌, subst, le_trans, le_of_eq, lt_of_lt_of_le, mul_assoc, mul_comm, div-lt_iff_lt-mul, add-mul, le_antisymm, mul-lt-mul_of_pos_right, mul-pos, le-div_iff_mul-le, mul_left_comm, arith, pow_pos, pow_mono, pow-add}
use native.Mathlib.Nat.{pow-succ', min-eq_left, min-eq_right}
use native.Mathlib.Decide.{dec_lt}
use lib.Ieee.{size}
use lib.Ieee.Digits.{size-lt, size_reaches}
use Rattle.value.specs.Rounding.{away, Nearest, rounded}
use Rattle.value.proofs.Nearest.{rounded-nearest}
use Rattle.float.specs.Narrow.{units_of, NearestPattern, narrowed, NarrowedNearest, NearestNarrowed, InfinityFrom}
use Rattle.float.proofs.Rule.{rounded-le, rounded-ge}
use Rattle.float.proofs.Units.{units_lt, pattern-units, Place, multiple, under, place}

-- ---- distances to patterns
module _ (p n d : ℕ) (D : 0 < d) where
  scaled-lt : (b c : ℕ) → b < c → units_of p b * d < units_of p c * d
  scaled-lt b c l = mul-lt-mul_of_pos_right (units_lt p b c l) D

  -- two even patterns are not as near, if what is between them is no nearer
  apart : (b c : ℕ) → b < c → b % 2 ≡ 0 → c % 2 ≡ 0 → away n d (units_of p b) ≡ away n d (units_of p c) → away n d (units_of p b) ≤ away n d (units_of p (suc b)) → ⊥
  apart b c l x y e f =
      let i = scaled-lt b (suc b) (omega arith) in
      let j = scaled-lt (suc b) c (omega arith) in
      omega arith

  -- if a pattern b is the nearest, then of those up to an i below b it is i
  stopped : (b i c : ℕ) → i < b → away n d (units_of p b) ≤ away n d (units_of p i) → c < i → away n d (units_of p i) < away n d (units_of p c)
  stopped b i c l e k =
      let x = scaled-lt i b l in
      let y = scaled-lt c i k in
      omega arith

pub same_units : (p b c : ℕ) → units_of p b ≡ units_of p c → b ≡ c
same_units p b c e =
    let x : b < c → ⊥ = λ l. let f = units_lt p b c l in omega arith in
    let y : c < b → ⊥ = λ l. let f = units_lt p c b l in omega arith in
    omega arith

-- ---- nothing else has the property
module _ (p i n d b c : ℕ) (D : 0 < d) (x : NearestPattern p i n d b) (y : NearestPattern p i n d c) where
  as-near : away n d (units_of p b) ≡ away n d (units_of p c)
  as-near = le_antisymm (x.least c y.within) (y.least b x.within)

  no_less : b < c → ⊥
  no_less l =
      apart p n d D b c l (x.even c y.within (λ e. omega arith) (sym as-near)) (y.even b x.within (λ e. omega arith) as-near) as-near
      (x.least (suc b) (le_trans l y.within))

only : (p i n d b c : ℕ) → 0 < d → NearestPattern p i n d b → NearestPattern p i n d c → b ≡ c
only p i n d b c D x y =
    let l = no_less p i n d b c D x y in
    let m = no_less p i n d c b D y x in
    omega arith

-- ---- `narrowed` has it

pub twice : (p : ℕ) → 0 < p → 2 * 2 ^ (p - 1) ≡ 2 ^ p
twice p P = let e : suc (p - 1) ≡ p = omega arith in sym (pow-succ' 2 (p - 1)) ∙ ap (λ (i : ℕ). 2 ^ i) e

-- the pattern of the kept digits is as even as they are
even-too : (p k q : ℕ) → 1 < p → q % 2 ≡ 0 → (k * 2 ^ (p - 1) + q) % 2 ≡ 0
even-too p k q P e =
    let s : suc (p - 2) ≡ p - 1 = omega arith in
    let f : k * 2 ^ (p - 1) ≡ 2 * (k * 2 ^ (p - 2)) = ap (λ (i : ℕ). k * 2 ^ i) (sym s) ∙ ap (λ (z : ℕ). k * z) (pow-succ' 2 (p - 2)) ∙ mul_left_comm k 2 (2 ^ (p - 2)) in
    omega arith

module _ (p n d : ℕ) (P : 1 < p) (D : 0 < d) where
  abbrev k : ℕ
  k = size (n / d) - p

  abbrev h : ℕ
  h = 2 ^ (p - 1)

  abbrev q : ℕ
  q = rounded n (d * 2 ^ k)

  unit-pos : 0 < d * 2 ^ k
  unit-pos = mul-pos D (pow_pos k)

  whole-lt : n < 2 * h * (d * 2 ^ k)
  whole-lt =
      let s : size (n / d) ≤ p + k = omega arith in
      let a : n < 2 ^ (p + k) * d = (div-lt_iff_lt-mul D).0 (lt_of_lt_of_le (size-lt (n / d)) (pow_mono s)) in
      lt_of_lt_of_le a (le_of_eq (ap (λ (z : ℕ). z * d) (pow-add 2 p k ∙ ap (λ (z : ℕ). z * 2 ^ k) (sym (twice p (omega arith)))) ∙ mul_assoc (2 * h) (2 ^ k) d ∙ ap (λ (z : ℕ). 2 * h * z) (mul_comm (2 ^ k) d)))

  whole-ge : 0 < k → h * (d * 2 ^ k) ≤ n
  whole-ge l =
      let a : 2 ^ (p - 1 + k) * d ≤ n = (le-div_iff_mul-le D).0 (size_reaches (n / d) (p - 1 + k) (omega arith)) in
      le_trans (le_of_eq (sym (ap (λ (z : ℕ). z * d) (pow-add 2 (p - 1) k) ∙ mul_assoc h (2 ^ k) d ∙ ap (λ (z : ℕ). h * z) (mul_comm (2 ^ k) d)))) a

  pub kept-le : q ≤ 2 * h
  kept-le = rounded-le n (d * 2 ^ k) (2 * h) unit-pos whole-lt

  pub kept-ge : 0 < k → h ≤ q
  kept-ge l = rounded-ge n (d * 2 ^ k) h unit-pos (whole-ge l)

  nearest : Nearest n (d * 2 ^ k) q
  nearest = rounded-nearest n (d * 2 ^ k) unit-pos

  of-multiple : (m : ℕ) → away n d (m * 2 ^ k) ≡ away n (d * 2 ^ k) m
  of-multiple m = ap (λ (z : ℕ). (n - z) + (z - n)) (mul_assoc m (2 ^ k) d ∙ ap (λ (z : ℕ). m * z) (mul_comm (2 ^ k) d))

  units-kept : units_of p (k * h + q) ≡ q * 2 ^ k
  units-kept = pattern-units p k q kept-ge kept-le

  away-kept : away n d (units_of p (k * h + q)) ≡ away n (d * 2 ^ k) q
  away-kept = ap (away n d) units-kept ∙ of-multiple q

  farther : (c : ℕ) → 0 < k → units_of p c < h * 2 ^ k → away n (d * 2 ^ k) q < away n d (units_of p c)
  farther c l e =
      let a : units_of p c * d < h * 2 ^ k * d = mul-lt-mul_of_pos_right e D in
      let b : h * 2 ^ k * d ≡ h * (d * 2 ^ k) = mul_assoc h (2 ^ k) d ∙ ap (λ (z : ℕ). h * z) (mul_comm (2 ^ k) d) in
      let w = whole-ge l in
      let z = nearest.least h in
      omega arith

  least-of : (c : ℕ) → Place p k c → away n (d * 2 ^ k) q ≤ away n d (units_of p c)
  least-of c (multiple m e) = le_trans (nearest.least m) (le_of_eq (sym (ap (away n d) e ∙ of-multiple m)))
  least-of c (under l e) = let f = farther c l e in omega arith

  pub least : (c : ℕ) → away n d (units_of p (k * h + q)) ≤ away n d (units_of p c)
  least c = le_trans (le_of_eq away-kept) (least-of c (place p k c))

  even-of : (c : ℕ) → (c ≡ k * h + q → ⊥) → away n d (units_of p c) ≡ away n (d * 2 ^ k) q → Place p k c → q % 2 ≡ 0
  even-of c x t (multiple m e) = nearest.even m (λ g. x (same_units p c (k * h + q) (e ∙ ap (λ (z : ℕ). z * 2 ^ k) g ∙ sym units-kept))) (sym (ap (away n d) e ∙ of-multiple m) ∙ t)
  even-of c x t (under l e) = let f = farther c l e in absurd (omega arith)

  pub even : (c : ℕ) → (c ≡ k * h + q → ⊥) → away n d (units_of p c) ≡ away n d (units_of p (k * h + q)) → (k * h + q) % 2 ≡ 0
  even c x t = even-too p k q P (even-of c x (t ∙ away-kept) (place p k c))

  within-least : (i : ℕ) → Dec (i < k * h + q) → NearestPattern p i n d (min (k * h + q) i)
  within-least i (no l) =
      let g : k * h + q ≤ i = omega arith in
      subst (NearestPattern p i n d) (sym (min-eq_left g)) (record { within = g; least = λ c e. least c; even = λ c e. even c })
  within-least i (yes l) =
      let g : i ≤ k * h + q = omega arith in
      subst (NearestPattern p i n d) (sym (min-eq_right g))
      (record {
        within = omega arith;
        least = at_most;
        even = λ c e x t. let f = stopped p n d D (k * h + q) i c l (least i) (omega arith) in absurd (omega arith);
      })
    where
      at_most : (c : ℕ) → c ≤ i → away n d (units_of p i) ≤ away n d (units_of p c)
      at_most c e = go (dec_lt c i)
        where
          go : Dec (c < i) → away n d (units_of p i) ≤ away n d (units_of p c)
          go (yes j) = let f = stopped p n d D (k * h + q) i c l (least i) j in omega arith
          go (no j) = let f : i ≡ c = omega arith in le_of_eq (ap (λ (z : ℕ). away n d (units_of p z)) f)

pub narrowed-nearest : NarrowedNearest
unfolding narrowed
narrowed-nearest p i n d P D = within-least p n d P D i (dec_lt i _)

pub nearest-narrowed : NearestNarrowed
nearest-narrowed p i n d b P D x = only p i n d (narrowed p i n d) b D (narrowed-nearest p i n d P D) x

-- ---- where the infinity begins
module _ (p i n d b : ℕ) (D : 0 < d) (I : 0 < i) (E : i % 2 ≡ 0) (x : NearestPattern p i n d b) where
  abbrev last : ℕ
  last = units_of p (i - 1)

  last-lt : last * d < units_of p i * d
  last-lt = scaled-lt p n d D (i - 1) i (omega arith)

  from-half-way : b ≡ i → (last + units_of p i) * d ≤ 2 * n
  from-half-way e =
      let l = last-lt in
      let f : away n d (units_of p i) ≤ away n d last = subst (λ (c : ℕ). away n d (units_of p c) ≤ away n d last) e (x.least (i - 1) (omega arith)) in
      omega (arith, add-mul last (units_of p i) d)

  -- below the infinity's, only the largest number's pattern could be as near, and it is odd
  no_number : (last + units_of p i) * d ≤ 2 * n → b < i → ⊥
  no_number h l = go (dec_lt b (i - 1))
    where
      go : Dec (b < i - 1) → ⊥
      go (yes k) =
          let y = scaled-lt p n d D b (i - 1) k in
          let z = last-lt in
          let f = x.least i (omega arith) in
          omega (arith, add-mul last (units_of p i) d)
      go (no k) =
          let e : i - 1 ≡ b = omega arith in
          let z = last-lt in
          let f : away n d last ≤ away n d (units_of p i) = subst (λ (c : ℕ). away n d (units_of p c) ≤ away n d (units_of p i)) (sym e) (x.least i (omega arith)) in
          let t : away n d (units_of p i) ≡ away n d last = omega (arith, add-mul last (units_of p i) d) in
          let v = x.even i (omega arith) (λ g. omega arith) (t ∙ ap (λ (c : ℕ). away n d (units_of p c)) e) in
          omega arith

  is-infinity : (last + units_of p i) * d ≤ 2 * n → b ≡ i
  is-infinity h = let g = no_number h in let l = x.within in omega arith

pub infinity-from : InfinityFrom
infinity-from p i n d P D I E = let x = narrowed-nearest p i n d P D in (from-half-way p i n d _ D I E x, is-infinity p i n d _ D I E x)
