-- "The starred records form one proved table": a row for each starred sentence of "Worked records", in its order, with what is asked and what the answer is;
-- and one theorem, that all rows hold, by computation over the definitions that the contracts of `decode_scalar` and `encode_scalar` cite.
use Rattle.std.specs.Prelude.{◌≡◌, refl, List, [], ◌∷◌, ◌++◌, map, true, false, cond, ℕ, ◌-◌, ◌^◌, eqb, pos, neg_ℤ, replicate}
use Rattle.std.specs.Float.{fin}
use Rattle.std.specs.Float.Ieee.{of_bits, to_bits, nan_bits}
use Rattle.lists.specs.Scan.{left_by, right_by, every_by}
use Rattle.ebcdic.specs.Ebcdic.{from_page, onto_page, to_ascii, ascii_table}
use Rattle.value.specs.declared.Scalar.{Scalar}
use Rattle.value.specs.declared.Scalar.TheVariants.{Int, Float}
use Rattle.value.specs.Answer as Value
use Rattle.value.specs.declared.Whole.{Whole}
use Rattle.value.specs.Scalar.{decimal, tag_of}
use Rattle.value.specs.Field.{field_of}
use Rattle.value.specs.Rounding.{rounded, rescaled}
use Rattle.binary.specs.Bytes.{word_in}
use Rattle.binary.specs.Binary.{integer_of}
use Rattle.display.specs.Display as Display
use Rattle.float.specs.Half.{half_word}
use Rattle.float.specs.Field.{word_for, float_in}
use Rattle.float.specs.Convert.{decimal_for}
use Rattle.packed.specs.Packed as Packed
use Rattle.zoned.specs.Zoned as Zoned
use Rattle.edited.specs.Edited as Edited
use Rattle.decode_scalar.specs.Decode as Decode
use Rattle.decode_scalar.specs.Decode.{Says, says}
use Rattle.encode_scalar.specs.Encode.{number_judged, number_bytes, judged_of, bytes_of}

-- ---- questions and answers

-- a field by the words kind, p, q, r of its entry (s is 0)
pub data Field : Type 0 where
  field : (kind p q r : ℕ) → Field

-- read: what do these bytes say, on this page? write: which bytes has this value at this width, on page 0 and with this mask if the field is Edited?
-- rescale: which Decimal is this value at this scale?
pub data Question : Type 0 where
  read : Field → (page : ℕ) → List ℕ → Question
  write : Field → (mask : List ℕ) → (width : ℕ) → Scalar → Question
  rescale : Scalar → (scale : ℕ) → Question

-- the number that refuses, a value, or bytes
pub data Answer : Type 0 where
  refused : ℕ → Answer
  value : Scalar → Answer
  bytes : List ℕ → Answer

abbrev read_answer : Says → Answer
read_answer (Decode.refused n) = refused n
read_answer (Decode.value v) = value v
read_answer (Decode.text t) = bytes t

abbrev write_answer : ℕ → List ℕ → Answer
write_answer question b = cond (eqb question 0) (bytes b) (refused question)

abbrev rescale_answer : ℕ → Value.Answer Whole → Answer
rescale_answer scale (Value.refused n) = refused n
rescale_answer scale (Value.given n) = value (decimal n.negative n.size scale)

abbrev pub answer : Question → Answer
answer (read (field kind p q r) page part) = read_answer (says kind p q r page part)
answer (write (field kind p q r) mask w v) = write_answer (judged_of kind p q r 0 mask w (tag_of v) v []) (bytes_of kind p q r mask 0 w v [])
answer (rescale v scale) = rescale_answer scale (decimal_for v scale)

-- ---- the table

pub record Row : Type 0 where
  pub asked : Question
  pub answered : Answer

infix 68 ◌gives◌
abbrev pub ◌gives◌ : Question → Answer → Row
q gives a = record { asked = q; answered = a }

-- Decimals of scale 0: packed and zoned with a sign, packed and unsigned
abbrev packed : Field
packed = field 7 1 1 0

abbrev unsigned_packed : Field
unsigned_packed = field 7 1 0 0

abbrev zoned : Field
zoned = field 7 2 1 0

-- a signed Binary, Big
abbrev signed_big : Field
signed_big = field 2 0 1 0

-- an Int, LeadingSeparate
abbrev leading : Field
leading = field 1 1 2 0

-- a Float of 16 bits, Big
abbrev half : Field
half = field 3 0 16 0

-- a signed Edited of scale 2, its mask `ZZ,ZZ9.99-`, and ` 1,234.56-`
abbrev edited : Field
edited = field 8 1 0 2

abbrev mask : List ℕ
mask = 0x5A ∷ 0x5A ∷ 0x2C ∷ 0x5A ∷ 0x5A ∷ 0x39 ∷ 0x2E ∷ 0x39 ∷ 0x39 ∷ 0x2D ∷ []

abbrev edited_text : List ℕ
edited_text = 0x20 ∷ 0x31 ∷ 0x2C ∷ 0x32 ∷ 0x33 ∷ 0x34 ∷ 0x2E ∷ 0x35 ∷ 0x36 ∷ 0x2D ∷ []

-- A Decimal has its sign (true for minus), size and scale, an Int its sign and size, a Float its sign, a whole number and the power of two that it is times.
abbrev pub starred : List Row
starred =
    -- "12 34 5D packed: −12345."
    read packed 0 (0x12 ∷ 0x34 ∷ 0x5D ∷ []) gives value (decimal true 12345 0) ∷
    -- "1E: 1."
    read packed 0 (0x1E ∷ []) gives value (decimal false 1 0) ∷
    -- "19: refused 8."
    read packed 0 (0x19 ∷ []) gives refused 8 ∷
    -- "09, eight 99, 9C: 10^18 − 1."
    read packed 0 (0x09 ∷ replicate 8 0x99 ++ 0x9C ∷ []) gives value (decimal false (10 ^ 18 - 1) 0) ∷
    -- "10, eight 00, 0C: refused 9."
    read packed 0 (0x10 ∷ replicate 8 0x00 ++ 0x0C ∷ []) gives refused 9 ∷
    -- "F1 F2 D3 zoned, page 1: −123."
    read zoned 1 (0xF1 ∷ 0xF2 ∷ 0xD3 ∷ []) gives value (decimal true 123 0) ∷
    -- "−5, unsigned packed, width 1: 5F."
    write unsigned_packed [] 1 (decimal true 5 0) gives bytes (0x5F ∷ []) ∷
    -- "10, packed width 1: refused 14."
    write packed [] 1 (decimal false 10 0) gives refused 14 ∷
    -- "FF FE signed Big: −2."
    read signed_big 0 (0xFF ∷ 0xFE ∷ []) gives value (Int true 2) ∷
    -- "`--5` leading: refused 8."
    read leading 0 (0x2D ∷ 0x2D ∷ 0x35 ∷ []) gives refused 8 ∷
    -- "half 0x0001: 2^−24."
    read half 0 (0x00 ∷ 0x01 ∷ []) gives value (Float (fin false 1 (neg_ℤ (pos 24)))) ∷
    -- "−123456, mask `ZZ,ZZ9.99-`: ` 1,234.56-`."
    write edited mask 10 (decimal true 123456 2) gives bytes edited_text ∷
    -- "125 scale 2 to 1: 12."
    rescale (decimal false 125 2) 1 gives value (decimal false 12 1) ∷
    []

-- the answer to what each row asks is the row's own
pub starred-holds : map (λ row. answer row.asked) starred ≡ map (λ row. row.answered) starred
unfolding
    says judged_of bytes_of number_judged number_bytes decimal_for rescaled rounded field_of from_page onto_page to_ascii ascii_table left_by right_by every_by integer_of word_in
    float_in word_for half_word to_bits of_bits nan_bits Packed.decode_of Zoned.decode_of
    Display.int_of Display.int_in Display.rest_of Display.sign_at Display.digits_in Display.whole_of
    Edited.judged Edited.count_by Edited.lawful_from Edited.edit_from Edited.edit_byte Edited.sup_after
starred-holds = refl
