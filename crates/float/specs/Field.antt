-- A Float field: "p order, q bits 16/32/64, width bits/8".
use Rattle.std.specs.Prelude.{◌≡◌, ℕ, ◌/◌, ◌%◌, ◌^◌, ◌<◌, Bool, false, cond, not, ◌&&◌, ◌||◌, List, length, ◌==◌, nat_lt}
use Rattle.std.specs.Float.{binary32}
use Rattle.std.specs.Float.Ieee.{nan_bits}
use Rattle.value.specs.declared.Scalar.{Scalar}
use Rattle.value.specs.Answer.{Answer, refused, given}
use Rattle.value.specs.Scalar.{float_of}
use Rattle.binary.specs.Bytes.{word_in, bytes_of}
use Rattle.float.specs.Half.{half_word}
use Rattle.float.specs.Single.{single_pattern, wide_word}
use Rattle.float.specs.Narrow.{half_pattern}

abbrev pub field_ok : ℕ → ℕ → Bool
field_ok bits width = (bits == 16 || bits == 32 || bits == 64) && width == bits / 8

-- the f64 word of a pattern of so many bits; "a 64-bit field keeps its bits"
unfoldable pub word_for : ℕ → ℕ → ℕ
word_for bits v = cond (bits == 16) (half_word v) (cond (bits == 32) (wide_word v) v)

-- the pattern of an f64's word at so many bits
unfoldable pub pattern_for : ℕ → ℕ → ℕ
pattern_for bits w = cond (bits == 16) (half_pattern w) (cond (bits == 32) (single_pattern w) w)

-- what a field's bytes are read as
unfoldable pub float_in : ℕ → ℕ → List ℕ → Answer Scalar
float_in order bits s = cond (field_ok bits (length s)) (given (float_of (word_for bits (word_in order s)))) (refused 8)

-- the bytes that are written for an f64's word
unfoldable pub float_bytes : ℕ → ℕ → ℕ → ℕ → List ℕ
float_bytes order bits width w = bytes_of order width (pattern_for bits w)

-- ---- "Float: 64 any; 32 exact, no NaN"; 02, S-9: "Fitting lists gain every exact binary16 number"

-- a half above the infinity
abbrev pub nan_half : ℕ → Bool
nan_half h = nat_lt 31744 (h % 32768)

pub data Exact : ℕ → ℕ → Type 0 where
  exact64 : (w : ℕ) → w < 2 ^ 64 → Exact 64 w
  exact32 : (w v : ℕ) → v < 2 ^ 32 → nan_bits binary32 v ≡ false → w ≡ wide_word v → Exact 32 w
  exact16 : (w h : ℕ) → h < 2 ^ 16 → nan_half h ≡ false → w ≡ half_word h → Exact 16 w

-- the same as a test: what is written for the word reads as the word
unfoldable pub exact_in : ℕ → ℕ → Bool
exact_in bits w =
    cond (bits == 16) (not (nan_half (half_pattern w)) && half_word (half_pattern w) == w)
    (cond (bits == 32) (not (nan_bits binary32 (single_pattern w)) && wide_word (single_pattern w) == w)
    (bits == 64 && nat_lt w (2 ^ 64)))
