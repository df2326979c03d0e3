-- Worked examples, each on one side of a bound.
use Rattle.std.specs.Prelude.{◌≡◌, refl, Bool, true, false, List, [], ◌∷◌, ℕ, ◌^◌, negsuc}
use Rattle.std.specs.Float.{inf, fin}
use Rattle.std.specs.Float.Ieee.{of_bits, to_bits, nan_bits, is_nan, fits}
use Rattle.lists.specs.Scan.{every_by}
use Rattle.value.specs.declared.Scalar.TheVariants.{Null, Text, Int, Float as FloatV, FloatBits, Bool as BoolV}
use Rattle.value.specs.Scalar.{decimal}
use Rattle.float.specs.Half.{half_word}
use Rattle.float.specs.Narrow.{pattern_of}
use Rattle.float.specs.Field.{exact_in}
use Rattle.edited.specs.Edited.{count_by, lawful_from}
use Rattle.fits.specs.Decide.{text_fits, hex_fits, digits_fit, int_fits, binary_fits, word_fits, decimal_fits, tells, edited_fits, fits_of}

-- a left text with the pad byte 32 in 3 bytes
abbrev left : List ℕ → Bool
left t = fits_of 0 1 32 0 [] 3 0 (Text 0 0) t

text-short : left (65 ∷ []) ≡ true
unfolding fits_of text_fits every_by
text-short = refl

text-empty : left [] ≡ true
unfolding fits_of text_fits every_by
text-empty = refl

text-blank-first : left (32 ∷ 65 ∷ []) ≡ true
unfolding fits_of text_fits every_by
text-blank-first = refl

text-blank-last : left (65 ∷ 32 ∷ []) ≡ false
unfolding fits_of text_fits every_by
text-blank-last = refl

text-zero : left (65 ∷ 0 ∷ 66 ∷ []) ≡ false
unfolding fits_of text_fits every_by
text-zero = refl

text-long : left (65 ∷ 65 ∷ 65 ∷ 65 ∷ []) ≡ false
unfolding fits_of text_fits every_by
text-long = refl

-- the same untrimmed: as long as the field, and any bytes
abbrev untrimmed : List ℕ → Bool
untrimmed t = fits_of 0 0 32 0 [] 3 0 (Text 0 0) t

untrimmed-short : untrimmed (65 ∷ []) ≡ false
unfolding fits_of text_fits every_by
untrimmed-short = refl

untrimmed-blank-last : untrimmed (65 ∷ 66 ∷ 32 ∷ []) ≡ true
unfolding fits_of text_fits every_by
untrimmed-blank-last = refl

untrimmed-zero : untrimmed (65 ∷ 0 ∷ 66 ∷ []) ≡ true
unfolding fits_of text_fits every_by
untrimmed-zero = refl

hex-lower : fits_of 0 0 0 0 [] 1 4 (Text 0 0) (0x61 ∷ 0x39 ∷ []) ≡ true
unfolding fits_of hex_fits every_by
hex-lower = refl

hex-upper : fits_of 0 0 0 0 [] 1 4 (Text 0 0) (0x41 ∷ 0x39 ∷ []) ≡ false
unfolding fits_of hex_fits every_by
hex-upper = refl

-- a signed Int in 2 bytes
abbrev int : ℕ → Bool → ℕ → Bool
int sign negative size = fits_of 1 sign 0 0 [] 2 1 (Int negative size) []

int-greatest : int 0 false 99 ≡ true
unfolding fits_of int_fits digits_fit
int-greatest = refl

int-above : int 0 false 100 ≡ false
unfolding fits_of int_fits digits_fit
int-above = refl

int-minus : int 0 true 5 ≡ false
unfolding fits_of int_fits digits_fit
int-minus = refl

int-embedded : int 1 true 99 ≡ true
unfolding fits_of int_fits
int-embedded = refl

int-embedded-above : int 1 true 100 ≡ false
unfolding fits_of int_fits
int-embedded-above = refl

int-embedded-zero : int 1 true 0 ≡ false
unfolding fits_of int_fits
int-embedded-zero = refl

-- Embedded, but not signed
int-unsigned : fits_of 0 1 0 0 [] 2 1 (Int true 5) [] ≡ false
unfolding fits_of int_fits digits_fit
int-unsigned = refl

int-separate : int 2 true 9 ≡ true
unfolding fits_of int_fits digits_fit
int-separate = refl

int-separate-above : int 2 true 10 ≡ false
unfolding fits_of int_fits digits_fit
int-separate-above = refl

int-least : fits_of 1 2 0 0 [] 20 1 (Int true (2 ^ 63)) [] ≡ false
unfolding fits_of int_fits digits_fit
int-least = refl

int-embedded-least : fits_of 1 1 0 0 [] 20 1 (Int true (2 ^ 63)) [] ≡ false
unfolding fits_of int_fits
int-embedded-least = refl

binary-least : fits_of 0 1 0 0 [] 8 2 (Int true (2 ^ 63)) [] ≡ true
unfolding fits_of binary_fits
binary-least = refl

binary-above : fits_of 0 1 0 0 [] 1 2 (Int false 128) [] ≡ false
unfolding fits_of binary_fits
binary-above = refl

binary-unsigned : fits_of 0 0 0 0 [] 8 2 (Int false (2 ^ 63)) [] ≡ false
unfolding fits_of binary_fits
binary-unsigned = refl

float-infinite : fits_of 0 16 0 0 [] 2 3 (FloatV (inf true)) [] ≡ true
unfolding fits_of word_fits exact_in fits is_nan to_bits nan_bits of_bits pattern_of half_word
float-infinite = refl

-- 2^−24, the smallest half, and half of it
float-smallest : fits_of 0 16 0 0 [] 2 3 (FloatV (fin false 1 (negsuc 23))) [] ≡ true
unfolding fits_of word_fits exact_in fits is_nan to_bits nan_bits of_bits pattern_of half_word
float-smallest = refl

float-smaller : fits_of 0 16 0 0 [] 2 3 (FloatV (fin false 1 (negsuc 24))) [] ≡ false
unfolding fits_of word_fits exact_in fits is_nan to_bits nan_bits of_bits pattern_of half_word
float-smaller = refl

float-half-nan : fits_of 0 16 0 0 [] 2 3 (FloatBits 0x7FF8_0000_0000_0000) [] ≡ false
unfolding fits_of word_fits exact_in nan_bits of_bits pattern_of
float-half-nan = refl

float-nan : fits_of 0 64 0 0 [] 8 3 (FloatBits 0xFFF8_0000_0000_0001) [] ≡ true
unfolding fits_of word_fits exact_in nan_bits
float-nan = refl

packed-greatest : fits_of 1 1 2 0 [] 2 7 (decimal true 999 2) [] ≡ true
unfolding fits_of decimal_fits
packed-greatest = refl

packed_above : fits_of 1 1 2 0 [] 2 7 (decimal true 1000 2) [] ≡ false
unfolding fits_of decimal_fits
packed_above = refl

packed-unsigned : fits_of 1 0 2 0 [] 2 7 (decimal true 999 2) [] ≡ false
unfolding fits_of decimal_fits
packed-unsigned = refl

scale-other : fits_of 1 1 2 0 [] 2 7 (decimal true 999 1) [] ≡ false
unfolding fits_of decimal_fits
scale-other = refl

display-precision : fits_of 0 0 2 3 [] 2 7 (decimal false 9 2) [] ≡ false
unfolding fits_of decimal_fits digits_fit
display-precision = refl

bool-two : fits_of 0 0 0 0 [] 2 5 (BoolV true) [] ≡ false
unfolding fits_of
bool-two = refl

-- the mask `99-`, signed
abbrev mask : List ℕ
mask = 57 ∷ 57 ∷ 45 ∷ []

edited-minus : fits_of 1 0 2 0 mask 3 8 (decimal true 99 2) [] ≡ true
unfolding fits_of edited_fits tells count_by lawful_from
edited-minus = refl

edited-no-sign : fits_of 1 0 2 0 (57 ∷ 57 ∷ []) 2 8 (decimal true 99 2) [] ≡ false
unfolding fits_of edited_fits tells count_by lawful_from
edited-no-sign = refl

null-none : fits_of 0 0 0 0 [] 0 0 Null [] ≡ false
unfolding fits_of
null-none = refl
