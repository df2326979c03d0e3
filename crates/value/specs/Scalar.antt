-- "a scalar is Null, Text, Int, Decimal, Float or Bool (tags 0 to 5)", with its tag and its two words.
use Rattle.std.specs.Prelude.{ℕ, Bool, cond, ◌==◌, from_bits, to_bits}
use Rattle.std.specs.Float.{binary64}
use Rattle.std.specs.Float.Ieee.{nan_bits}
use Rattle.codes.specs.Codes.{tag_null, tag_text, tag_int, tag_decimal, tag_float, tag_bool}
use Rattle.value.specs.declared.Scalar.{Scalar}
use Rattle.value.specs.declared.Scalar.TheVariants.{Null, Text, Int, Decimal, Float as FloatV, FloatBits, Bool as BoolV}
use Rattle.value.specs.Word.{word_of, minus_in, size_in}

-- the Decimal of a sign, a size and a scale
abbrev pub decimal : Bool → ℕ → ℕ → Scalar
decimal negative size scale = Decimal negative size scale

abbrev pub tag_of : Scalar → ℕ
tag_of Null = tag_null
tag_of (Text start count) = tag_text
tag_of (Int negative size) = tag_int
tag_of (Decimal negative size scale) = tag_decimal
tag_of (FloatV x) = tag_float
tag_of (FloatBits w) = tag_float
tag_of (BoolV b) = tag_bool

abbrev pub first_of : Scalar → ℕ
first_of Null = 0
first_of (Text start count) = start
first_of (Int negative size) = word_of negative size
first_of (Decimal negative size scale) = word_of negative size
first_of (FloatV x) = to_bits binary64 x
first_of (FloatBits w) = w
first_of (BoolV b) = cond b 1 0

abbrev pub second_of : Scalar → ℕ
second_of Null = 0
second_of (Text start count) = count
second_of (Int negative size) = 0
second_of (Decimal negative size scale) = scale
second_of (FloatV x) = 0
second_of (FloatBits w) = 0
second_of (BoolV b) = 0

-- the scalar of a float's word: a NaN is kept by its word, and every other number is an f64
abbrev pub float_of : ℕ → Scalar
float_of w = cond (nan_bits binary64 w) (FloatBits w) (FloatV (from_bits binary64 w))

-- the scalar of an item's tag and two words; Null for the tags of List and Struct and for any other
unfoldable pub scalar_of : ℕ → ℕ → ℕ → Scalar
scalar_of tag a b =
    cond (tag == tag_text) (Text a b)
    (cond (tag == tag_int) (Int (minus_in a) (size_in a))
    (cond (tag == tag_decimal) (decimal (minus_in a) (size_in a) b)
    (cond (tag == tag_float) (float_of a)
    (cond (tag == tag_bool) (BoolV (a == 1))
    Null))))
