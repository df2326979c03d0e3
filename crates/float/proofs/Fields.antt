-- A bit pattern's fields, and the value that they stand for.
use Rattle.std.proofs.Common.{◌≡◌, ℕ, zero, suc, ◌+◌, ◌-◌, ◌*◌, ◌/◌, ◌%◌, ◌^◌, ◌<◌, ◌≤◌, Bool, true, false, cond, not, T, eqb, leb, sym, ap, subst, lt_irrefl, arith, eqb→eq, ne_eqb}
use lib.Dec.{not_T, eqb-suc-zero}
use lib.Ieee.{Float, nan, inf, Format, prec, emax, low, odd, hid, ones, top, of_fields, of_bits}
use lib.Ieee.Bits.{cond_no, is_true}
use lib.Ieee.Fits.{eq→eqb}
use lib.Ieee.Exact.{HasValue, odd_sign}
use Rattle.float.specs.Half.{sig}

differ : (x n : ℕ) → x < n → T (not (eqb x n))
differ x n h = not_T (eqb x n) (λ t. lt_irrefl n (subst (λ (y : ℕ). y < n) (eqb→eq x n t) h))

pred : (x : ℕ) → suc x - 1 ≡ x
pred x = omega arith

fields_value : (f : Format) (s : Bool) (x t : ℕ) → x < ones f → HasValue (of_fields f s x t) s (sig (hid f) x t * 2 ^ (x - 1)) (2 ^ low f)
unfolding of_fields
fields_value f s zero t h = odd_sign (prec f) s t 0 (low f)
fields_value f s (suc x) t h =
    subst (λ (v : Float). HasValue v s (sig (hid f) (suc x) t * 2 ^ (suc x - 1)) (2 ^ low f))
    (sym (cond_no (eqb (suc x) (ones f)) (cond (eqb t 0) (inf s) nan) (odd (prec f) s (hid f + t) x (low f)) (differ (suc x) (ones f) h)))
    (subst (λ (b : Bool). HasValue (odd (prec f) s (hid f + t) x (low f)) s (cond b t (hid f + t) * 2 ^ (suc x - 1)) (2 ^ low f)) (sym (eqb-suc-zero x))
    (subst (λ (k : ℕ). HasValue (odd (prec f) s (hid f + t) x (low f)) s ((hid f + t) * 2 ^ k) (2 ^ low f)) (sym (pred x)) (odd_sign (prec f) s (hid f + t) x (low f))))

-- a pattern below the infinity's
pub pattern-value : (f : Format) (b : ℕ) → b % top f / hid f < ones f → HasValue (of_bits f b) (leb (top f) b) (sig (hid f) (b % top f / hid f) (b % hid f) * 2 ^ (b % top f / hid f - 1)) (2 ^ low f)
unfolding of_bits
pattern-value f b h = fields_value f (leb (top f) b) (b % top f / hid f) (b % hid f) h

one_of : (e : ℕ) → 2 * e + 1 ≡ suc (2 * e)
one_of e = omega arith

fields-top : (f : Format) (s : Bool) (x t : ℕ) → x ≡ ones f → of_fields f s x t ≡ cond (eqb t 0) (inf s) nan
unfolding of_fields
fields-top f s zero t h = absurd (none (emax f) h)
  where
    none : (e : ℕ) → 0 ≡ 2 * e + 1 → ⊥
    none e k = omega arith
fields-top f s (suc x) t h = ap (λ (b : Bool). cond b (cond (eqb t 0) (inf s) nan) (odd (prec f) s (hid f + t) x (low f))) (is_true (eqb (suc x) (ones f)) (eq→eqb h))

-- the highest field
pub pattern-top : (f : Format) (b : ℕ) → b % top f / hid f ≡ ones f → of_bits f b ≡ cond (eqb (b % hid f) 0) (inf (leb (top f) b)) nan
unfolding of_bits
pattern-top f b h = fields-top f (leb (top f) b) (b % top f / hid f) (b % hid f) h

-- a field that is not the highest, of an f64's word
pub field_lt : (b : ℕ) → (b % 2 ^ 63 / 2 ^ 52 ≡ 2047 → ⊥) → b % 2 ^ 63 / 2 ^ 52 < 2047
field_lt b n = omega arith

-- ---- the significand
pub sig-lt : (h e t : ℕ) → t < h → sig h e t < 2 * h
sig-lt h e t l = go (eqb e 0)
  where
    go : (b : Bool) → cond b t (h + t) < 2 * h
    go true = omega arith
    go false = omega arith

pub sig-ge : (h e t : ℕ) → (e ≡ 0 → ⊥) → h ≤ sig h e t
sig-ge h e t n = subst (λ (b : Bool). h ≤ cond b t (h + t)) (sym (ne_eqb e 0 n)) (omega arith)

-- an f64's, m being what a call answered for it
module _ {m : ℕ} (x t : ℕ) (e : m ≡ sig (2 ^ 52) x t) where
  pub m-lt : t < 2 ^ 52 → m < 2 ^ 53
  m-lt l = subst (λ (n : ℕ). n < 2 ^ 53) (sym e) (sig-lt (2 ^ 52) x t l)

  pub m-ge : (x ≡ 0 → ⊥) → 2 ^ 52 ≤ m
  m-ge n = subst (λ (k : ℕ). 2 ^ 52 ≤ k) (sym e) (sig-ge (2 ^ 52) x t n)
