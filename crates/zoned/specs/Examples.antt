-- Zoned fields, by computation.
use Rattle.std.specs.Prelude.{◌≡◌, refl, [], ◌∷◌, map, true, false}
use Rattle.value.specs.Answer.{refused}
use Rattle.value.specs.Field.{field_of}
use Rattle.value.specs.Number.{some}
use Rattle.ebcdic.specs.Ebcdic.{from_page, to_ascii, ascii_table}
use Rattle.zoned.specs.Zoned.{decode_of, encoded_of}

plain : decode_of (0x31 ∷ 0x32 ∷ 0x33 ∷ []) ≡ some false 123
unfolding decode_of field_of
plain = refl

negative : decode_of (0x31 ∷ 0x32 ∷ 0x4C ∷ []) ≡ some true 123
unfolding decode_of field_of
negative = refl

minus-zero : decode_of (0x30 ∷ 0x7D ∷ []) ≡ some false 0
unfolding decode_of field_of
minus-zero = refl

no_digit : decode_of (0x20 ∷ 0x31 ∷ []) ≡ refused 8
unfolding decode_of field_of
no_digit = refl

no-width : decode_of [] ≡ refused 8
unfolding decode_of field_of
no-width = refl

-- F1 F2 D3 on page 1 is -123
ebcdic-negative : decode_of (map (from_page 1) (0xF1 ∷ 0xF2 ∷ 0xD3 ∷ [])) ≡ some true 123
unfolding decode_of field_of from_page to_ascii ascii_table
ebcdic-negative = refl

written-negative : encoded_of 3 true 120 true ≡ 0x31 ∷ 0x32 ∷ 0x7D ∷ []
written-negative = refl
