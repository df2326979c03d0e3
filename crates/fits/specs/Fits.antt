-- The values that fit a scalar field of a width w, kind by kind: the scalar part of "Plain layouts, fitting lists". A Text's and a Hex's bytes are given beside it.
use Rattle.std.specs.Prelude.{◌≡◌, List, Bool, true, false, ℕ, ◌-◌, ◌*◌, ◌/◌, ◌%◌, ◌^◌, ◌<◌, ◌≤◌, length}
use Rattle.codes.specs.Codes.{kind_text, kind_int, kind_binary, kind_float, kind_hex, kind_bool, kind_decimal, kind_edited}
use Rattle.value.specs.declared.Scalar.{Scalar}
use Rattle.value.specs.declared.Scalar.TheVariants.{Null, Text, Int, Decimal, Float as FloatV, FloatBits, Bool as BoolV}
use Rattle.value.specs.Digits.{limit}
use Rattle.value.specs.Scalar.{decimal, float_of}
use Rattle.text.specs.Text as Text
use Rattle.display.specs.Display.{is_separate}
use Rattle.binary.specs.Binary.{width_ok}
use Rattle.float.specs.Field.{Exact}
use Rattle.hex_field.specs.Hex as Hex
use Rattle.edited.specs.Fits as Edited
use Rattle.decode_scalar.specs.Decode.{Says, value, text, flag, is_embedded}

-- 0 has no minus
abbrev pub Minus : Bool → ℕ → Type 0
Minus negative size = negative ≡ true → 0 < size

-- "0 to 10^w − 1, separate from width 2 ±(10^(w−1) − 1)": Int, but for signed Embedded ones, and Display
pub data Digits (w : ℕ) (sign : ℕ) : Bool → ℕ → Type 0 where
  plain : (size : ℕ) → is_separate sign ≡ false → 0 < w → size < 10 ^ w → Digits w sign false size
  separate : (negative : Bool) (size : ℕ) → is_separate sign ≡ true → 2 ≤ w → size < 10 ^ (w - 1) → Minus negative size → Digits w sign negative size

-- "Binary: its range, below 2^63"
pub data InRange (w : ℕ) : Bool → Bool → ℕ → Type 0 where
  unsigned : (size : ℕ) → size < 256 ^ w → size < 2 ^ 63 → InRange w false false size
  plus : (size : ℕ) → 2 * size < 256 ^ w → InRange w true false size
  minus : (size : ℕ) → 0 < size → 2 * size ≤ 256 ^ w → InRange w true true size

-- "no minus if Unsigned"
abbrev pub Signed : ℕ → Bool → ℕ → Type 0
Signed sign negative size = (negative ≡ true → flag sign ≡ true) × Minus negative size

pub data Fits (p q r s : ℕ) (mask : List ℕ) (w : ℕ) : ℕ → Scalar → List ℕ → Type 0 where
  -- "Text: length at most width, no 0 byte, no pad byte at its cut end; untrimmed, length equal to width"
  text-fits : (start count : ℕ) (t : List ℕ) → Text.Fits (flag p) (flag q) (r % 256) w t → Fits p q r s mask w kind_text (Text start count) t
  -- "never −2^63"
  int-fits : (negative : Bool) (size : ℕ) (t : List ℕ) → is_embedded p q ≡ false → Digits w q negative size → size < 2 ^ 63 → Fits p q r s mask w kind_int (Int negative size) t
  -- 02, S-4: "Fitting lists now hold such values of size below 10^w, −2^63 excepted"
  embedded-fits : (negative : Bool) (size : ℕ) (t : List ℕ) → is_embedded p q ≡ true → 0 < w → size < 10 ^ w → size < 2 ^ 63 → Minus negative size
      → Fits p q r s mask w kind_int (Int negative size) t
  binary-fits : (negative : Bool) (size : ℕ) (t : List ℕ) → width_ok w ≡ true → InRange w (flag q) negative size → Fits p q r s mask w kind_binary (Int negative size) t
  -- "Float: 64 any; 32 exact, no NaN"; 02, S-9: "every exact binary16 number"
  float_fits : (x : ℕ) (t : List ℕ) → Exact q x → w ≡ q / 8 → Fits p q r s mask w kind_float (float_of x) t
  -- "Hex: 2w lower-case digits"
  hex-fits : (start count : ℕ) (t : List ℕ) → Hex.Fits w t → Fits p q r s mask w kind_hex (Text start count) t
  -- "Bool 1"
  bool-fits : (b : Bool) (t : List ℕ) → w ≡ 1 → Fits p q r s mask w kind_bool (BoolV b) t
  -- "precision at most width"; "Decimals have the entry's scale"
  display-fits : (negative : Bool) (size : ℕ) (t : List ℕ) → p ≡ 0 → Digits w q negative size → s ≤ w → size < limit → Fits p q r s mask w kind_decimal (decimal negative size r) t
  -- "Packed, zoned: below 10^(2w−1), 10^w"
  packed-fits : (negative : Bool) (size : ℕ) (t : List ℕ) → p ≡ 1 → 0 < w → size < 10 ^ (2 * w - 1) → size < limit → Signed q negative size → Fits p q r s mask w kind_decimal (decimal negative size r) t
  zoned-fits : (negative : Bool) (size : ℕ) (t : List ℕ) → p ≡ 2 → 0 < w → size < 10 ^ w → size < limit → Signed q negative size → Fits p q r s mask w kind_decimal (decimal negative size r) t
  edited-fits : (negative : Bool) (size : ℕ) (t : List ℕ) → length mask ≡ w → Edited.Fits (flag p) negative size mask → size < limit → Minus negative size
      → Fits p q r s mask w kind_edited (decimal negative size r) t

-- what a field that holds the value says: a text says its bytes
abbrev pub said_of : Scalar → List ℕ → Says
said_of Null t = value Null
said_of (Text start count) t = text t
said_of (Int negative size) t = value (Int negative size)
said_of (Decimal negative size scale) t = value (decimal negative size scale)
said_of (FloatV x) t = value (FloatV x)
said_of (FloatBits x) t = value (FloatBits x)
said_of (BoolV b) t = value (BoolV b)
