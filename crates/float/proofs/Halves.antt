-- The half that is written is the nearest of either sign: of its own sign `narrowed` takes the nearest, and one of the other sign is no nearer than 0.
use Rattle.std.proofs.Common.{◌≡◌, ℕ, ◌+◌, ◌*◌, ◌%◌, ◌^◌, ◌<◌, ◌≤◌, Bool, true, false, cond, leb, sym, refl, ap, ◌∙◌, subst, arith, lit<, le-leb, leb-false, leb-true}
use native.Mathlib.Decide.{dec_lt}
use lib.Ieee.{unlike, binary64, of_bits}
use borrow.Author.Tests.{lt-leb}
use Rattle.value.specs.Rounding.{away}
use Rattle.float.specs.Narrow.{units_of, NearestPattern, narrowed, sign_at, HalfNumber, half_away, NearestHalf, HalfNearest}
use Rattle.float.proofs.Nearest.{narrowed-nearest}
use Rattle.float.proofs.Narrow.{of-value}

-- a sign and a size, joined and taken apart
sign_of : (s : Bool) (b : ℕ) → b ≤ 31744 → leb 32768 (sign_at 11 31 s + b) ≡ s
sign_of true b l = le-leb 32768 (32768 + b) (omega arith)
sign_of false b l = lt-leb 32768 (0 + b) (omega arith)

size_of : (s : Bool) (b : ℕ) → b ≤ 31744 → (sign_at 11 31 s + b) % 32768 ≡ b
size_of true b l = omega arith
size_of false b l = omega arith

joined : (s : Bool) (h : ℕ) → h < 2 ^ 16 → leb 32768 h ≡ s → sign_at 11 31 s + h % 32768 ≡ h
joined true h l e = let m = leb-true 32768 h e in omega arith
joined false h l e = let m = leb-false 32768 h e in omega arith

-- how far a half of a known sign and size is
abbrev far : Bool → Bool → ℕ → ℕ → ℕ → ℕ
far s t n d u = cond (unlike s t) (n + u * d) (away n d u)

module _ (s : Bool) (n d b : ℕ) (x : NearestPattern 11 31744 n d b) where
  -- none is farther than 0
  zero-far : away n d (units_of 11 b) ≤ n
  zero-far = let f = x.least 0 (omega arith) in omega arith

  least-of : (s t : Bool) (c : ℕ) → c ≤ 31744 → far s s n d (units_of 11 b) ≤ far s t n d (units_of 11 c)
  least-of true true c l = x.least c l
  least-of true false c l = let z = zero-far in omega arith
  least-of false true c l = let z = zero-far in omega arith
  least-of false false c l = x.least c l

  -- one of the other sign that is as near: then 0 is, too
  as-zero : (c : ℕ) → n + units_of 11 c * d ≡ away n d (units_of 11 b) → b % 2 ≡ 0
  as-zero c e = go (dec_lt 0 b)
    where
      go : Dec (0 < b) → b % 2 ≡ 0
      go (yes l) = let f = x.least 0 (omega arith) in x.even 0 (omega arith) (λ g. omega arith) (omega arith)
      go (no l) = omega arith

  even-of : (s t : Bool) (c : ℕ) → c ≤ 31744 → (s ≡ t → c ≡ b → ⊥) → far s t n d (units_of 11 c) ≡ far s s n d (units_of 11 b) → b % 2 ≡ 0
  even-of true true c l k e = x.even c l (k refl) e
  even-of true false c l k e = as-zero c e
  even-of false true c l k e = as-zero c e
  even-of false false c l k e = x.even c l (k refl) e

  abbrev h : ℕ
  h = sign_at 11 31 s + b

  h-far : half_away s n d h ≡ far s s n d (units_of 11 b)
  h-far =
      ap (λ (t : Bool). far s t n d (units_of 11 (h % 32768))) (sign_of s b x.within)
      ∙ ap (λ (u : ℕ). far s s n d (units_of 11 u)) (size_of s b x.within)

  h-number : (s : Bool) → HalfNumber (sign_at 11 31 s + b)
  h-number true = let l = x.within in (omega arith, omega arith)
  h-number false = let l = x.within in (omega arith, omega arith)

  even-half : (s : Bool) → b % 2 ≡ 0 → (sign_at 11 31 s + b) % 2 ≡ 0
  even-half true e = omega arith
  even-half false e = omega arith

  same_half : (c : ℕ) → HalfNumber c → s ≡ leb 32768 c → c % 32768 ≡ b → c ≡ h
  same_half c l e f = sym (joined s c l.0 (sym e)) ∙ ap (λ (z : ℕ). sign_at 11 31 s + z) f

  nearest-half : NearestHalf s n d h
  nearest-half =
      record {
        number = h-number s;
        sign = sign_of s b x.within;
        least = λ c l. subst (λ (z : ℕ). z ≤ half_away s n d c) (sym h-far) (least-of s (leb 32768 c) (c % 32768) l.1);
        even = λ c l k e. even-half s (even-of s (leb 32768 c) (c % 32768) l.1 (λ f g. k (same_half c l f g)) (e ∙ h-far));
      }

pub half-nearest : HalfNearest
half-nearest w s a c C v =
    let b = narrowed 11 31744 (a * 2 ^ 24) c in
    subst (NearestHalf s (a * 2 ^ 24) c) (sym (of-value 11 24 31 (of_bits binary64 w) s a c C v)) (nearest-half s (a * 2 ^ 24) c b (narrowed-nearest 11 31744 (a * 2 ^ 24) c (lit< tt) C))
