-- Which patterns are a NaN's, by the one comparison that the code makes; and what such a pattern is read as.
use Rattle.std.proofs.Common.{◌≡◌, ℕ, ◌*◌, ◌%◌, ◌<◌, ◌≤◌, Bool, true, false, not, ◌&&◌, T, sym, refl, ◌∙◌, subst, true≢false, le-ltb, lt-ltb}
use lib.Ieee.{Float, nan, inf, fin, Format, binary32, binary64, is_nan, fits, hid, ones, top, of_bits, nan_bits}
use lib.Ieee.Bits.{nan_bits_above, nan_bits_is, of_bits-fits}
use lib.Ieee.Fits.{fits_widens, and_i}

pub nan_pattern : (f : Format) (v : ℕ) → ones f * hid f < v % top f → nan_bits f v ≡ true
nan_pattern f v h = nan_bits_above f v ∙ lt-ltb (ones f * hid f) (v % top f) h

pub no-nan-pattern : (f : Format) (v : ℕ) → v % top f ≤ ones f * hid f → nan_bits f v ≡ false
no-nan-pattern f v h = nan_bits_above f v ∙ le-ltb (ones f * hid f) (v % top f) h

pub from_bits : (f : Format) (v : ℕ) → v % top f ≤ ones f * hid f → T (not (nan_bits f v))
from_bits f v h = subst (λ (b : Bool). T (not b)) (sym (no-nan-pattern f v h)) tt

pub no_nan : (f : Format) (v : ℕ) → v % top f ≤ ones f * hid f → T (not (is_nan (of_bits f v)))
no_nan f v h = subst (λ (b : Bool). T (not b)) (sym (sym (nan_bits_is f v) ∙ no-nan-pattern f v h)) tt

pub widens : (v : ℕ) → v % top binary32 ≤ ones binary32 * hid binary32 → T (fits binary64 (of_bits binary32 v) && not (is_nan (of_bits binary32 v)))
widens v h = and_i (fits binary64 (of_bits binary32 v)) (not (is_nan (of_bits binary32 v))) (fits_widens (of_bits binary32 v) (of_bits-fits binary32 v)) (no_nan binary32 v h)

only_nan : (x : Float) → is_nan x ≡ true → x ≡ nan
unfolding is_nan
only_nan nan e = refl
only_nan (inf s) e = absurd (true≢false (sym e))
only_nan (fin s m k) e = absurd (true≢false (sym e))

pub is-nan : (f : Format) (v : ℕ) → ones f * hid f < v % top f → of_bits f v ≡ nan
is-nan f v h = only_nan (of_bits f v) (sym (nan_bits_is f v) ∙ nan_pattern f v h)
