-- What the bytes of a scalar field say, by its kind: the table of kinds and their words p, q, r.
use Rattle.std.specs.Prelude.{List, map, Bool, not, ◌&&◌, ◌||◌, cond, ℕ, ◌-◌, ◌%◌, ◌^◌, eqb, leb, length, take}
use Rattle.codes.specs.Codes.{kind_text, kind_int, kind_binary, kind_float, kind_hex, kind_bool, kind_decimal, kind_edited}
use Rattle.lists.specs.Scan.{every_by}
use Rattle.value.specs.declared.Scalar.{Scalar}
use Rattle.value.specs.declared.Scalar.TheVariants.{Null, Text, Int, Bool as BoolV}
use Rattle.value.specs.Answer.{Answer, refused as refused_by, given}
use Rattle.value.specs.Digits.{is_digit}
use Rattle.value.specs.Field.{last_of}
use Rattle.value.specs.declared.Whole.{Whole}
use Rattle.value.specs.Number.{read_in, unlawful}
use Rattle.value.specs.Scalar.{decimal}
use Rattle.ebcdic.specs.Ebcdic.{from_page}
use Rattle.numerals.specs.Numerals.{trimmed}
use Rattle.text.specs.Text.{read_text, front}
use Rattle.display.specs.Display as Display
use Rattle.binary.specs.Binary.{integer_of, bool_of}
use Rattle.float.specs.Field.{float_in}
use Rattle.hex_field.specs.Hex.{hex_of}
use Rattle.packed.specs.Packed as Packed
use Rattle.zoned.specs.Zoned as Zoned
use Rattle.edited.specs.Edited as Edited

-- a word 0/1
abbrev pub flag : ℕ → Bool
flag x = not (eqb x 0)

-- refused by a number, a value, or a text
pub data Says : Type 0 where
  refused : ℕ → Says
  value : Scalar → Says
  text : List ℕ → Says

abbrev pub int_says : Answer Whole → Says
int_says (refused_by question) = refused question
int_says (given n) = value (Int n.negative n.size)

abbrev pub decimal_says : ℕ → Answer Whole → Says
decimal_says scale (refused_by question) = refused question
decimal_says scale (given n) = value (decimal n.negative n.size scale)

abbrev pub float_says : Answer Scalar → Says
float_says (refused_by question) = refused question
float_says (given v) = value v

-- ---- Int: "p signed 0/1, q sign". 02, S-4: "Signed Embedded Ints"

abbrev pub is_embedded : ℕ → ℕ → Bool
is_embedded p q = flag p && eqb q 1

-- 02, S-4: "one of { } A to R"
abbrev pub is_overpunched : ℕ → Bool
is_overpunched b = (leb 0x41 b && leb b 0x52) || (eqb b 0x7B || eqb b 0x7D)

-- 02, S-4: "a trimmed field of digits whose last byte is one of { } A to R"
abbrev pub is_zoned : List ℕ → Bool
is_zoned t = every_by is_digit (take (length t - 1) t) && is_overpunched (last_of t)

-- 02, S-4: "Reading takes a trimmed field of digits whose last byte is one of { } A to R as a zoned number, and any other field as before;
-- a size above 2^63 − 1 so read is refused with 9"
unfoldable pub embedded_of : List ℕ → Answer Whole
embedded_of s = cond (is_zoned (trimmed s)) (Zoned.zoned_by (read_in (2 ^ 63)) unlawful (trimmed s)) (Display.int_of 1 s)

abbrev pub int_in : ℕ → ℕ → ℕ → List ℕ → Answer Whole
int_in p q page part = cond (is_embedded p q) (embedded_of (map (from_page page) part)) (Display.int_of q (map (from_page page) part))

-- ---- Decimal: "p 0 Display 1 Comp3 2 Zoned, q sign"

abbrev pub decimal_in : ℕ → ℕ → ℕ → List ℕ → Answer Whole
decimal_in p q page part =
    cond (eqb p 0) (Display.decimal_of q (map (from_page page) part))
    (cond (eqb p 1) (Packed.decode_of part)
    (Zoned.decode_of (map (from_page page) part)))

-- 0 Text, 1 Int, 2 Binary, 3 Float, 4 Hex, 5 Bool, 7 Decimal, 8 Edited; a Pad says nothing
unfoldable pub says : ℕ → ℕ → ℕ → ℕ → ℕ → List ℕ → Says
says kind p q r page part =
    cond (eqb kind kind_text) (text (read_text page (flag p) (flag q) (r % 256) part))
    (cond (eqb kind kind_int) (int_says (int_in p q page part))
    (cond (eqb kind kind_binary) (int_says (integer_of p (flag q) part))
    (cond (eqb kind kind_float) (float_says (float_in p q part))
    (cond (eqb kind kind_hex) (text (hex_of p part))
    (cond (eqb kind kind_bool) (value (BoolV (bool_of part)))
    (cond (eqb kind kind_decimal) (decimal_says r (decimal_in p q page part))
    (cond (eqb kind kind_edited) (decimal_says r (Edited.decoded_of (flag p) (map (from_page page) part)))
    (value Null))))))))

-- "Place for item and text? 16": a text goes to the front of the text buffer, if it has room
abbrev pub answer_of : Says → ℕ → Answer Scalar
answer_of (refused n) room = refused_by n
answer_of (value v) room = given v
answer_of (text t) room = cond (leb (length t) room) (given (Text 0 (length t))) (refused_by 16)

abbrev pub text_after : Says → List ℕ → List ℕ
text_after (refused n) buffer = buffer
text_after (value v) buffer = buffer
text_after (text t) buffer = cond (leb (length t) (length buffer)) (front t buffer) buffer
