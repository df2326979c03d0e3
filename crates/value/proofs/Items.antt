-- A scalar's tag and words; a float's word comes back.
use Rattle.std.proofs.Common.{◌≡◌, ℕ, ◌^◌, ◌<◌, Bool, true, false, cond, not, T, sym, refl, ap, ◌∙◌, subst, true≢false}
use lib.Ieee.{Float, nan, inf, fin, binary64, eq, ne, is_nan, of_bits, to_bits, nan_bits}
use lib.Ieee.Bits.{to_bits-of_bits, nan_bits_is}
use lib.Ieee.Compare.{differs_from_itself}
use Rattle.value.specs.declared.Scalar.{Scalar}
use Rattle.value.specs.declared.Scalar.TheVariants.{Float as FloatV, FloatBits}
use Rattle.value.specs.Scalar.{tag_of, first_of, second_of, float_of}

nan-word : to_bits binary64 nan ≡ 0x7FF8000000000000
unfolding to_bits
nan-word = refl

pub not-nan : (x : Float) → eq x x ≡ true → T (not (is_nan x))
unfolding eq is_nan
not-nan nan e = absurd (true≢false (sym e))
not-nan (inf s) e = tt
not-nan (fin s m d) e = tt

pub is-nan : (x : Float) → eq x x ≡ false → 0x7FF8000000000000 ≡ to_bits binary64 x
unfolding ne
is-nan x e =
    let n : x ≡ nan = differs_from_itself x (subst (λ (t : Bool). T (not t)) (sym e) tt) in
    sym (ap (to_bits binary64) n ∙ nan-word)

-- the words of a scalar that is known by its case
pub words_are : (s t : Scalar) (a : ℕ) → s ≡ t → a ≡ first_of t → (tag_of t ≡ tag_of s) × ((a ≡ first_of s) × (second_of t ≡ second_of s))
words_are s t a e f = (sym (ap tag_of e), (f ∙ sym (ap first_of e), sym (ap second_of e)))

pub float_tag : (w : ℕ) → tag_of (float_of w) ≡ 4
float_tag w = by (nan_bits binary64 w)
  where
    by : (b : Bool) → tag_of (cond b (FloatBits w) (FloatV (of_bits binary64 w))) ≡ 4
    by true = refl
    by false = refl

pub float-second : (w : ℕ) → second_of (float_of w) ≡ 0
float-second w = by (nan_bits binary64 w)
  where
    by : (b : Bool) → second_of (cond b (FloatBits w) (FloatV (of_bits binary64 w))) ≡ 0
    by true = refl
    by false = refl

-- every pattern is kept, a NaN's too
pub float-first : (w : ℕ) → w < 2 ^ 64 → first_of (float_of w) ≡ w
float-first w h = by (nan_bits binary64 w) refl
  where
    by : (b : Bool) → nan_bits binary64 w ≡ b → first_of (cond b (FloatBits w) (FloatV (of_bits binary64 w))) ≡ w
    by true e = refl
    by false e = to_bits-of_bits binary64 w h (subst (λ (b : Bool). T (not b)) (sym (sym (nan_bits_is binary64 w) ∙ e)) tt)
