-- What the patterns of a narrow format stand for grows with the pattern: within a field by the digits, and a field's sizes end below the first size of the next.
use Rattle.std.proofs.Common.{◌≡◌, ℕ, zero, suc, ◌+◌, ◌-◌, ◌*◌, ◌/◌, ◌%◌, ◌^◌, ◌<◌, ◌≤◌, Bool, cond, sym, refl, ap, ◌∙◌, subst, le_trans, le_of_eq, lt_of_lt_of_le, lt_of_le_of_lt, add-zero, le_of_lt, mul-le-mul_right, mod-lt, mod-eq_of_lt, zero-lt-suc, mul_assoc, suc-mul, mul_comm, mul-le-mul_left, mul-lt-mul_of_pos_right, div-add-mod', le-div_iff_mul-le, mul-one, mul_left_comm, arith, pow_pos, pow_mono, pow-add}
use native.Mathlib.Nat.{div-eq_of_lt, pow-succ'}
use native.Mathlib.Decide.{dec_lt}
use lib.Dec.{eqb-suc-zero}
use lib.Pow.{high, low}
use lib.Ieee.Nearest.{div_mono}
use Rattle.float.specs.Half.{sig}
use Rattle.float.specs.Narrow.{units_of}

-- the units of a field and digits, h the leading digit's weight
abbrev units : ℕ → ℕ → ℕ → ℕ
units h e t = sig h e t * 2 ^ (e - 1)

next : (e : ℕ) → suc e - 1 ≡ e
next e = omega arith

-- a field above 0
units-normal : (h e t : ℕ) → units h (suc e) t ≡ (h + t) * 2 ^ e
units-normal h e t = ap (λ (b : Bool). cond b t (h + t) * 2 ^ (suc e - 1)) (eqb-suc-zero e) ∙ ap (λ (i : ℕ). (h + t) * 2 ^ i) (next e)

below : (h e t : ℕ) → t < h → units h e t < h * 2 ^ e
below h zero t l = omega arith
below h (suc e) t l =
    lt_of_le_of_lt (le_of_eq (units-normal h e t))
    (lt_of_lt_of_le (mul-lt-mul_of_pos_right two (pow_pos e)) (le_of_eq (mul_assoc h 2 (2 ^ e) ∙ ap (λ (z : ℕ). h * z) (sym (pow-succ' 2 e)))))
  where
    two : h + t < h * 2
    two = omega arith

from : (h e t : ℕ) → h * 2 ^ e ≤ units h (suc e) t
from h e t = le_trans (mul-le-mul_right (2 ^ e) more) (le_of_eq (sym (units-normal h e t)))
  where
    more : h ≤ h + t
    more = omega arith

-- the order of fields and digits
field_lt : (h e t f u : ℕ) → t < h → e < f → units h e t < units h f u
field_lt h e t zero u l k = absurd (omega arith)
field_lt h e t (suc f) u l k = lt_of_lt_of_le (below h e t l) (le_trans (mul-le-mul_left h (pow_mono (omega arith))) (from h f u))

digits_lt : (h e t u : ℕ) → t < u → units h e t < units h e u
digits_lt h zero t u l = omega arith
digits_lt h (suc e) t u l =
    lt_of_le_of_lt (le_of_eq (units-normal h e t)) (lt_of_lt_of_le (mul-lt-mul_of_pos_right more (pow_pos e)) (le_of_eq (sym (units-normal h e u))))
  where
    more : h + t < h + u
    more = omega arith

module _ (h : ℕ) (H : 0 < h) where
  abbrev at : ℕ → ℕ
  at b = units h (b / h) (b % h)

  split-lt : (b c : ℕ) → b < c → (b / h < c / h → ⊥) → (b / h ≡ c / h) × (b % h < c % h)
  split-lt b c l n =
      let q : b / h ≤ c / h = div_mono b h c h H H (mul-le-mul_right h (le_of_lt l)) in
      let e : b / h ≡ c / h = omega arith in
      let x : b / h * h ≡ c / h * h = ap (λ (z : ℕ). z * h) e in
      (e, omega (arith, div-add-mod' b h, div-add-mod' c h))

  at_lt : (b c : ℕ) → b < c → at b < at c
  at_lt b c l = go (dec_lt (b / h) (c / h))
    where
      go : Dec (b / h < c / h) → at b < at c
      go (yes k) = field_lt h (b / h) (b % h) (c / h) (c % h) (mod-lt b H) k
      go (no k) =
          let s = split-lt b c l k in
          subst (λ (z : ℕ). at b < units h z (c % h)) s.0 (digits_lt h (b / h) (b % h) (c % h) s.1)

pub units_lt : (p b c : ℕ) → b < c → units_of p b < units_of p c
units_lt p = at_lt (2 ^ (p - 1)) (pow_pos (p - 1))

pub fields-units : (p e t : ℕ) → t < 2 ^ (p - 1) → units_of p (e * 2 ^ (p - 1) + t) ≡ sig (2 ^ (p - 1)) e t * 2 ^ (e - 1)
fields-units p e t l = let h = 2 ^ (p - 1) in ap (λ (f : ℕ). units h f ((e * h + t) % h)) (high e (p - 1) l) ∙ ap (units h e) (low e (p - 1) l)

-- ---- the pattern of q * 2 ^ k units, where q has p digits or is the next power of two

field-units : (p k t : ℕ) → t < 2 ^ (p - 1) → units_of p (suc k * 2 ^ (p - 1) + t) ≡ (2 ^ (p - 1) + t) * 2 ^ k
field-units p k t l = fields-units p (suc k) t l ∙ units-normal (2 ^ (p - 1)) k t

high-units : (p k q : ℕ) → 2 ^ (p - 1) ≤ q → q ≤ 2 * 2 ^ (p - 1) → units_of p (k * 2 ^ (p - 1) + q) ≡ q * 2 ^ k
high-units p k q lo hi = go (dec_lt q (2 * h))
  where
    h : ℕ
    h = 2 ^ (p - 1)

    twice : (e f : ℕ) → f ≡ 2 * e → (h + 0) * f ≡ 2 * h * e
    twice e f g = ap (λ (z : ℕ). (h + 0) * z) g ∙ simp (add-zero, mul_assoc, mul_comm, mul_left_comm)

    go : Dec (q < 2 * h) → units_of p (k * h + q) ≡ q * 2 ^ k
    go (yes l) =
        let e : k * h + q ≡ suc k * h + (q - h) = omega (arith, suc-mul k h) in
        let f : h + (q - h) ≡ q = omega arith in
        ap (units_of p) e ∙ field-units p k (q - h) (omega arith) ∙ ap (λ (z : ℕ). z * 2 ^ k) f
    go (no l) =
        let f : 2 * h ≡ q = omega arith in
        let e : k * h + q ≡ suc (suc k) * h + 0 = omega (arith, suc-mul (suc k) h, suc-mul k h) in
        ap (units_of p) e ∙ field-units p (suc k) 0 (pow_pos (p - 1)) ∙ twice (2 ^ k) (2 ^ suc k) (pow-succ' 2 k) ∙ ap (λ (z : ℕ). z * 2 ^ k) f

low-units : (p q : ℕ) → q ≤ 2 * 2 ^ (p - 1) → units_of p (0 * 2 ^ (p - 1) + q) ≡ q * 2 ^ 0
low-units p q hi = go (dec_lt q (2 ^ (p - 1)))
  where
    h : ℕ
    h = 2 ^ (p - 1)

    flat : 0 * h + q ≡ q
    flat = omega arith

    go : Dec (q < h) → units_of p (0 * h + q) ≡ q * 2 ^ 0
    go (yes l) = ap (units_of p) flat ∙ ap (λ (e : ℕ). units h e (q % h)) (div-eq_of_lt l) ∙ ap (units h 0) (mod-eq_of_lt l)
    go (no l) = high-units p 0 q (omega arith) hi

pub pattern-units : (p k q : ℕ) → (0 < k → 2 ^ (p - 1) ≤ q) → q ≤ 2 * 2 ^ (p - 1) → units_of p (k * 2 ^ (p - 1) + q) ≡ q * 2 ^ k
pattern-units p zero q lo hi = low-units p q hi
pattern-units p (suc k) q lo hi = high-units p (suc k) q (lo (zero-lt-suc k)) hi

-- ---- any other pattern stands for a multiple of 2 ^ k units too, or for less than the p digits' least number
pub data Place (p k c : ℕ) : Type 0 where
  multiple : (m : ℕ) → units_of p c ≡ m * 2 ^ k → Place p k c
  under : 0 < k → units_of p c < 2 ^ (p - 1) * 2 ^ k → Place p k c

pub place : (p k c : ℕ) → Place p k c
place p zero c = multiple (units_of p c) (sym (mul-one (units_of p c)))
place p (suc k) c = go (dec_lt c (suc k * h + h))
  where
    h : ℕ
    h = 2 ^ (p - 1)

    far : (f : ℕ) → c / h ≡ f → suc (suc k) ≤ f → Place p (suc k) c
    far zero g l = absurd (omega arith)
    far (suc e) g l =
        let s : e - suc k + suc k ≡ e = omega arith in
        multiple ((h + c % h) * 2 ^ (e - suc k))
        (ap (λ (f : ℕ). units h f (c % h)) g
        ∙ units-normal h e (c % h)
        ∙ ap (λ (i : ℕ). (h + c % h) * 2 ^ i) (sym s)
        ∙ ap (λ (z : ℕ). (h + c % h) * z) (pow-add 2 (e - suc k) (suc k))
        ∙ sym (mul_assoc (h + c % h) (2 ^ (e - suc k)) (2 ^ suc k)))

    go : Dec (c < suc k * h + h) → Place p (suc k) c
    go (yes l) = under (zero-lt-suc k) (subst (λ (z : ℕ). units_of p c < z) (high-units p (suc k) h (omega arith) (omega arith)) (units_lt p c (suc k * h + h) l))
    go (no l) = far (c / h) refl ((le-div_iff_mul-le (pow_pos (p - 1))).1 (omega (arith, suc-mul (suc k) h)))
