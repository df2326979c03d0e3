-- What writing a value into a scalar field asks and gives, by the field's kind and its words p, q, r, s; w is its width.
use Rattle.std.specs.Prelude.{List, [], ◌∷◌, map, Bool, true, false, not, ◌&&◌, cond, ℕ, ◌%◌, ◌^◌, eqb, leb, ltb, length}
use Rattle.codes.specs.Codes.{kind_text, kind_int, kind_binary, kind_float, kind_hex, kind_bool, kind_pad, kind_decimal, kind_edited, tag_list}
use Rattle.value.specs.declared.Scalar.{Scalar}
use Rattle.value.specs.declared.Scalar.TheVariants.{Null, Text, Int, Decimal, Float as FloatV, FloatBits, Bool as BoolV}
use Rattle.value.specs.Answer.{Answer, refused, given}
use Rattle.value.specs.declared.Whole.{Whole}
use Rattle.value.specs.Number.{no_number}
use Rattle.value.specs.Scalar.{scalar_of}
use Rattle.ebcdic.specs.Ebcdic.{onto_page}
use Rattle.text.specs.Text.{written, padded, front}
use Rattle.text.specs.Shown.{Shows, shows, none, text_in, refusal_at}
use Rattle.display.specs.Display.{whole_in, int_fits, int_bytes, decimal_fits}
use Rattle.binary.specs.Binary.{width_ok, integer_bytes}
use Rattle.float.specs.Convert.{floated_of, decimal_for}
use Rattle.float.specs.Field.{field_ok, float_bytes}
use Rattle.hex_field.specs.Hex as Hex
use Rattle.packed.specs.Packed as Packed
use Rattle.zoned.specs.Zoned as Zoned
use Rattle.edited.specs.Edited as Edited
use Rattle.decode_scalar.specs.Decode.{flag, is_embedded}

-- ---- Text

abbrev pub text_bytes : ℕ → Bool → ℕ → ℕ → Shows → List ℕ
text_bytes page right pad w (shows t) = written page right pad w t
text_bytes page right pad w none = []

-- ---- Int and Binary: the integer that a value stands for

-- 02, S-4: "writing −2^63 with 14": the one integer whose size is no less than 2^63
abbrev pub embedded_fit : ℕ → ℕ → Bool
embedded_fit w size = ltb size (2 ^ 63) && Zoned.fits_of w size

abbrev pub int_fit : ℕ → ℕ → ℕ → Bool → ℕ → Bool
int_fit p q w negative size = cond (is_embedded p q) (embedded_fit w size) (int_fits w negative size (flag p) q)

-- 02, S-4: "Signed Embedded Ints are now written as zoned numbers of the same width"
abbrev pub int_text : ℕ → ℕ → ℕ → Bool → ℕ → List ℕ
int_text p q w negative size = cond (is_embedded p q) (Zoned.encoded_of w negative size true) (int_bytes w negative size q)

abbrev pub int_judged : ℕ → ℕ → ℕ → Answer Whole → ℕ
int_judged p q w (refused question) = question
int_judged p q w (given n) = cond (int_fit p q w n.negative n.size) 0 14

abbrev pub int_written : ℕ → ℕ → ℕ → ℕ → Answer Whole → List ℕ
int_written p q page w (refused question) = []
int_written p q page w (given n) = map (onto_page page) (int_text p q w n.negative n.size)

abbrev pub binary_judged : ℕ → Answer Whole → ℕ
binary_judged w (refused question) = question
binary_judged w (given n) = cond (width_ok w) 0 14

abbrev pub binary_written : ℕ → ℕ → Answer Whole → List ℕ
binary_written order w (refused question) = []
binary_written order w (given n) = integer_bytes order w n.negative n.size

-- ---- Float

abbrev pub float_judged : ℕ → ℕ → Answer ℕ → ℕ
float_judged bits w (refused question) = question
float_judged bits w (given x) = cond (field_ok bits w) 0 14

abbrev pub float_written : ℕ → ℕ → ℕ → Answer ℕ → List ℕ
float_written order bits w (refused question) = []
float_written order bits w (given x) = float_bytes order bits w x

-- ---- Hex takes a Text, and Null as an empty one

abbrev pub hex_text : Scalar → List ℕ → Shows
hex_text Null text = shows []
hex_text (Text start count) text = shows text
hex_text (Int negative size) text = none
hex_text (Decimal negative size scale) text = none
hex_text (FloatV x) text = none
hex_text (FloatBits x) text = none
hex_text (BoolV b) text = none

abbrev pub hex_judged : ℕ → Shows → ℕ
hex_judged w (shows t) = Hex.judged_of w t
hex_judged w none = 13

abbrev pub hex_written : ℕ → ℕ → Shows → List ℕ
hex_written order w (shows t) = Hex.bytes_of order w t
hex_written order w none = []

-- ---- Bool: "sets one byte"; only Bool 1 and Int 1 write 1

abbrev pub bool_in : Scalar → Bool
bool_in Null = false
bool_in (Text start count) = false
bool_in (Int negative size) = not negative && eqb size 1
bool_in (Decimal negative size scale) = false
bool_in (FloatV x) = false
bool_in (FloatBits x) = false
bool_in (BoolV b) = b

-- ---- Decimal: "p 0 Display 1 Comp3 2 Zoned, q sign, r scale, s precision"

abbrev pub decimal_fit : ℕ → ℕ → ℕ → ℕ → Bool → ℕ → Bool
decimal_fit p q s w negative size =
    cond (eqb p 0) (decimal_fits w s negative size q) (cond (eqb p 1) (Packed.fits_of w size) (Zoned.fits_of w size))

abbrev pub decimal_judged : ℕ → ℕ → ℕ → ℕ → Answer Whole → ℕ
decimal_judged p q s w (refused question) = question
decimal_judged p q s w (given n) = cond (decimal_fit p q s w n.negative n.size) 0 14

abbrev pub decimal_bytes : ℕ → ℕ → ℕ → ℕ → Bool → ℕ → List ℕ
decimal_bytes p q page w negative size =
    cond (eqb p 0) (map (onto_page page) (int_bytes w negative size q))
    (cond (eqb p 1) (Packed.encoded_of w negative size (flag q))
    (map (onto_page page) (Zoned.encoded_of w negative size (flag q))))

abbrev pub decimal_written : ℕ → ℕ → ℕ → ℕ → Answer Whole → List ℕ
decimal_written p q page w (refused question) = []
decimal_written p q page w (given n) = decimal_bytes p q page w n.negative n.size

-- the number of an item for a Decimal field; a List or Struct has none
abbrev pub item_number : ℕ → ℕ → ℕ → ℕ → Answer Whole
item_number tag a b scale = cond (leb tag_list tag) no_number (decimal_for (scalar_of tag a b) scale)

-- ---- Edited

abbrev pub edited_written : ℕ → List ℕ → Answer Whole → List ℕ
edited_written page mask (refused question) = []
edited_written page mask (given n) = map (onto_page page) (Edited.edited n.negative n.size mask)

-- ---- all kinds

-- the kinds that take a number, and Hex: the number that refuses the value at this width, 0 for none
unfoldable pub number_judged : ℕ → ℕ → ℕ → ℕ → ℕ → List ℕ → ℕ → Scalar → List ℕ → ℕ
number_judged kind p q r s mask w v text =
    cond (eqb kind kind_int) (int_judged p q w (whole_in v text))
    (cond (eqb kind kind_binary) (binary_judged w (whole_in v text))
    (cond (eqb kind kind_float) (float_judged q w (floated_of v))
    (cond (eqb kind kind_hex) (hex_judged w (hex_text v text))
    (cond (eqb kind kind_decimal) (decimal_judged p q s w (decimal_for v r))
    (cond (eqb kind kind_edited) (Edited.answer_of w mask (decimal_for v r))
    0)))))

unfoldable pub number_bytes : ℕ → ℕ → ℕ → ℕ → List ℕ → ℕ → ℕ → Scalar → List ℕ → List ℕ
number_bytes kind p q r mask page w v text =
    cond (eqb kind kind_int) (int_written p q page w (whole_in v text))
    (cond (eqb kind kind_binary) (binary_written p w (whole_in v text))
    (cond (eqb kind kind_float) (float_written p q w (floated_of v))
    (cond (eqb kind kind_hex) (hex_written p w (hex_text v text))
    (cond (eqb kind kind_decimal) (decimal_written p q page w (decimal_for v r))
    (cond (eqb kind kind_edited) (edited_written page mask (decimal_for v r))
    [])))))

-- "per field: value of a kind Rust takes there .. ? 13. Mask without a repeated $, + or -? 15. Value fits .. ? 14. Mask characters lawful? 15."
-- A List or Struct (tags 6 and 7) is refused by 13, but a Text, a Bool and a Pad take it as they take Null
unfoldable pub judged_of : ℕ → ℕ → ℕ → ℕ → ℕ → List ℕ → ℕ → ℕ → Scalar → List ℕ → ℕ
judged_of kind p q r s mask w tag v text =
    cond (eqb kind kind_text) (refusal_at w (text_in v text))
    (cond (eqb kind kind_bool) 0
    (cond (eqb kind kind_pad) 0
    (cond (leb tag_list tag) 13 (number_judged kind p q r s mask w v text))))

-- the bytes that are written: one for a Bool, and for all others as many as the field has
unfoldable pub bytes_of : ℕ → ℕ → ℕ → ℕ → List ℕ → ℕ → ℕ → Scalar → List ℕ → List ℕ
bytes_of kind p q r mask page w v text =
    cond (eqb kind kind_text) (text_bytes page (flag p) (r % 256) w (text_in v text))
    (cond (eqb kind kind_bool) (cond (bool_in v) 1 0 ∷ [])
    (cond (eqb kind kind_pad) (padded page (r % 256) w)
    (number_bytes kind p q r mask page w v text)))

-- the part after writing: the bytes at its front, or, refused, the part as it was
abbrev pub part_after : ℕ → List ℕ → List ℕ → List ℕ
part_after refusal bytes part = cond (eqb refusal 0) (cond (leb (length bytes) (length part)) (front bytes part) part) part
