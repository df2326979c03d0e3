-- The test of `Fits`: which values fit a scalar field of a width w, kind by kind. A Text's and a Hex's bytes t are given beside the value.
use Rattle.std.specs.Prelude.{List, Bool, true, false, not, ◌&&◌, ◌||◌, cond, ℕ, ◌-◌, ◌*◌, ◌/◌, ◌%◌, ◌^◌, eqb, leb, ltb, length, get_or}
use Rattle.std.specs.Float.{binary64}
use Rattle.std.specs.Float.Ieee.{fits, is_nan, to_bits, nan_bits}
use Rattle.codes.specs.Codes.{kind_text, kind_int, kind_binary, kind_float, kind_hex, kind_bool, kind_decimal, kind_edited, tag_null, tag_text, tag_int, tag_decimal, tag_float, tag_bool}
use Rattle.lists.specs.Scan.{every_by}
use Rattle.value.specs.declared.Scalar.{Scalar}
use Rattle.value.specs.declared.Scalar.TheVariants.{Null, Text, Int, Decimal, Float as FloatV, FloatBits, Bool as BoolV}
use Rattle.value.specs.Digits.{limit}
use Rattle.value.specs.Field.{last_of}
use Rattle.numerals.specs.Numerals.{is_sign}
use Rattle.display.specs.Display.{is_separate}
use Rattle.binary.specs.Binary.{width_ok}
use Rattle.float.specs.Field.{exact_in}
use Rattle.hex_field.specs.Hex.{is_lower}
use Rattle.edited.specs.Edited.{is_lawful, is_floating, count_of, positions}
use Rattle.decode_scalar.specs.Decode.{flag, is_embedded}

-- ---- Text and Hex

-- an element of a text is a byte
abbrev pub byte_ok : ℕ → Bool
byte_ok x = ltb x 256

-- "no 0 byte"
abbrev pub is_text_byte : ℕ → Bool
is_text_byte x = ltb 0 x && byte_ok x

-- "no pad byte at its cut end": the first byte of a text that stands at the right, else the last one
abbrev pub cut_end_ok : Bool → ℕ → List ℕ → Bool
cut_end_ok right pad t = eqb (length t) 0 || not (eqb (get_or t (cond right 0 (length t - 1)) 0) pad)

-- "length at most width, no 0 byte, no pad byte at its cut end"
abbrev pub trimmed_fits : Bool → ℕ → ℕ → List ℕ → Bool
trimmed_fits right pad w t = leb (length t) w && (every_by is_text_byte t && cut_end_ok right pad t)

-- "untrimmed, length equal to width", and any bytes
abbrev pub untrimmed_fits : ℕ → List ℕ → Bool
untrimmed_fits w t = eqb (length t) w && every_by byte_ok t

unfoldable pub text_fits : Bool → Bool → ℕ → ℕ → List ℕ → Bool
text_fits right trim pad w t = cond trim (trimmed_fits right pad w t) (untrimmed_fits w t)

-- "Hex: 2w lower-case digits"
unfoldable pub hex_fits : ℕ → List ℕ → Bool
hex_fits w t = eqb (length t) (2 * w) && every_by is_lower t

-- ---- Int and Binary

-- 0 has no minus
abbrev pub minus_ok : Bool → ℕ → Bool
minus_ok negative size = not negative || ltb 0 size

-- "0 to 10^w − 1, separate from width 2 ±(10^(w−1) − 1)"
unfoldable pub digits_fit : ℕ → ℕ → Bool → ℕ → Bool
digits_fit w sign negative size =
    cond (is_separate sign) (leb 2 w && (ltb size (10 ^ (w - 1)) && minus_ok negative size)) (ltb 0 w && (ltb size (10 ^ w) && not negative))

-- "no minus if Unsigned"
abbrev pub sign_ok : ℕ → Bool → ℕ → Bool
sign_ok sign negative size = not negative || (flag sign && ltb 0 size)

-- ".. zoned: below .. 10^w"
abbrev pub zoned_fits : ℕ → ℕ → Bool → ℕ → Bool
zoned_fits w sign negative size = ltb 0 w && (ltb size (10 ^ w) && sign_ok sign negative size)

-- "never −2^63"; 02, S-4: "Fitting lists now hold such values of size below 10^w, −2^63 excepted"
unfoldable pub int_fits : ℕ → ℕ → ℕ → Bool → ℕ → Bool
int_fits p q w negative size = ltb size (2 ^ 63) && cond (is_embedded p q) (zoned_fits w q negative size) (digits_fit w q negative size)

-- "Binary: its range, below 2^63"
abbrev pub in_range : ℕ → Bool → Bool → ℕ → Bool
in_range w false negative size = not negative && (ltb size (256 ^ w) && ltb size (2 ^ 63))
in_range w true false size = ltb (2 * size) (256 ^ w)
in_range w true true size = ltb 0 size && leb (2 * size) (256 ^ w)

unfoldable pub binary_fits : ℕ → Bool → Bool → ℕ → Bool
binary_fits w signed negative size = width_ok w && in_range w signed negative size

-- ---- Float: "64 any; 32 exact, no NaN" and, by S-9, "every exact binary16 number"; "width bits/8"

unfoldable pub word_fits : ℕ → ℕ → ℕ → Bool
word_fits bits w x = exact_in bits x && eqb w (bits / 8)

-- ---- Decimal: "p 0 Display 1 Comp3 2 Zoned"

-- "precision at most width"
abbrev pub display_fits : ℕ → ℕ → ℕ → Bool → ℕ → Bool
display_fits w sign precision negative size = digits_fit w sign negative size && leb precision w

-- "Packed ..: below 10^(2w−1)"
abbrev pub packed_fits : ℕ → ℕ → Bool → ℕ → Bool
packed_fits w sign negative size = ltb 0 w && (ltb size (10 ^ (2 * w - 1)) && sign_ok sign negative size)

unfoldable pub decimal_fits : ℕ → ℕ → ℕ → ℕ → Bool → ℕ → Bool
decimal_fits p q s w negative size =
    ltb size limit
    && cond (eqb p 0) (display_fits w q s negative size) (cond (eqb p 1) (packed_fits w q negative size) (eqb p 2 && zoned_fits w q negative size))

-- ---- Edited

-- the mask's last two bytes
abbrev pub last_two : ℕ → ℕ → List ℕ → Bool
last_two a b mask = leb 2 (length mask) && (eqb (get_or mask (length mask - 2) 0) a && eqb (last_of mask) b)

-- "a + or - first or last, or CR or DB last"
unfoldable pub tells : List ℕ → Bool
tells mask = is_sign (get_or mask 0 0) || (is_sign (last_of mask) || (last_two 67 82 mask || last_two 68 66 mask))

-- "minus only if signed with" such a mask
abbrev pub edited_minus_ok : Bool → Bool → ℕ → List ℕ → Bool
edited_minus_ok signed negative size mask = not negative || (ltb 0 size && (signed && tells mask))

-- "lawful mask without 0, enough digit positions (0 needs one)"
abbrev pub mask_fits : ℕ → List ℕ → Bool
mask_fits size mask =
    is_lawful mask && (not (is_floating mask) && (eqb (count_of 48 mask) 0 && (ltb 0 (positions mask) && (ltb size (10 ^ positions mask) && ltb size limit))))

unfoldable pub edited_fits : Bool → ℕ → Bool → ℕ → List ℕ → Bool
edited_fits signed w negative size mask = eqb (length mask) w && (mask_fits size mask && edited_minus_ok signed negative size mask)

-- ---- all kinds: "Text for Text and Hex, Int for Int and Binary, Decimal for Decimal and Edited, Float for Float, Bool for Bool"
-- "Decimals have the entry's scale"; "Bool 1". A NaN is a float's word, and every other float an f64

unfoldable pub fits_of : (p q r s : ℕ) (mask : List ℕ) (w kind : ℕ) → Scalar → List ℕ → Bool
fits_of p q r s mask w kind Null t = false
fits_of p q r s mask w kind (Text start count) t = cond (eqb kind kind_text) (text_fits (flag p) (flag q) (r % 256) w t) (eqb kind kind_hex && hex_fits w t)
fits_of p q r s mask w kind (Int negative size) t = cond (eqb kind kind_int) (int_fits p q w negative size) (eqb kind kind_binary && binary_fits w (flag q) negative size)
fits_of p q r s mask w kind (Decimal negative size scale) t =
    eqb scale r && cond (eqb kind kind_decimal) (decimal_fits p q s w negative size) (eqb kind kind_edited && edited_fits (flag p) w negative size mask)
fits_of p q r s mask w kind (FloatV x) t = eqb kind kind_float && ((fits binary64 x && not (is_nan x)) && word_fits q w (to_bits binary64 x))
fits_of p q r s mask w kind (FloatBits x) t = eqb kind kind_float && (nan_bits binary64 x && word_fits q w x)
fits_of p q r s mask w kind (BoolV b) t = eqb kind kind_bool && eqb w 1

-- the tag of the values that fit a kind; 0 for a kind that takes none
abbrev pub tag_for : ℕ → ℕ
tag_for kind =
    cond (eqb kind kind_text || eqb kind kind_hex) tag_text
    (cond (eqb kind kind_int || eqb kind kind_binary) tag_int
    (cond (eqb kind kind_decimal || eqb kind kind_edited) tag_decimal
    (cond (eqb kind kind_float) tag_float
    (cond (eqb kind kind_bool) tag_bool tag_null))))
