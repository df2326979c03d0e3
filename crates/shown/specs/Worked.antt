-- Worked cases, by computation.
use Rattle.std.specs.Prelude.{◌≡◌, refl, true, false, List, [], ◌∷◌, ◌++◌, ℕ}
use Rattle.lists.specs.Scan.{left_by, right_by, every_by, before_by}
use Rattle.value.specs.Field.{field_of}
use Rattle.value.specs.Scalar.{scalar_of}
use Rattle.ebcdic.specs.Ebcdic.{from_page}
use Rattle.display.specs.Display as Display
use Rattle.packed.specs.Packed as Packed
use Rattle.binary.specs.Bytes.{bytes_of}
use Rattle.hex_field.specs.Hex.{hex_of}
use Rattle.text.specs.Text as Text
use Rattle.text.specs.Shown.{digit_count, decimal_text}
use Rattle.spans.specs.Tree.{tree, tree_in, size, nested}
use Rattle.layout.specs.Layout.{unrepeated, is_pad, controls, entry_at, all_below, some_below, words_ok, up_to, plain_ok, bool_ok, edited_ok, float_ok, kind_ok, option_ok, place_ok, entry_ok, entries_ok}
use Rattle.layout.specs.Layout.{spans_ok, checked_of, layout_asks, reserved_width, furthest, record_length, depends_in}
use Rattle.lines.specs.Lines.{starts_with, number_of}
use Rattle.lines.specs.Names.{equal, index_in}
use Rattle.layout_text.specs.Form as Form
use Rattle.layout_text.specs.Form.{page_word, name_word, offset_word, width_word, kind_word, occurs_word, depending_word, span_word, p_word, q_word, r_word, mask_word}
use Rattle.layout_text.specs.Reading.{sights_below, masks_below, entry_said, twelve, words_below, text_checked, refusal, read_of, spelling}
use Rattle.decode_scalar.specs.Decode.{says}
use Rattle.walks.specs.Walk.{how_many}
use Rattle.walks.specs.Kinds.{look, dec}
use Rattle.walks.specs.Reading as R
use Rattle.walks.specs.Records.{decode_record}
use Rattle.shown.specs.Shown.{escaped, number_text, float_text, value_of, kind_name, name_of, lines_of, listed_from, refused_text, value_word, answer_by, answer, printed, shown}

abbrev line : List ℕ → List ℕ → List ℕ
line word value = word ++ (value ++ (0x0A ∷ []))

-- the lines of an entry with span 1 and q 0: name, offset, kind, occurs, depending, p, r; every width is 2
abbrev entry : List ℕ → List ℕ → List ℕ → List ℕ → List ℕ → List ℕ → List ℕ → List ℕ
entry name offset kind occurs depending p r =
    line name_word name ++ (line offset_word offset ++ (line width_word (0x32 ∷ []) ++ (line kind_word kind ++ (line occurs_word occurs ++ (line depending_word depending
    ++ (line span_word (0x31 ∷ []) ++ (line p_word p ++ (line q_word (0x30 ∷ []) ++ (line r_word r ++ line mask_word [])))))))))

abbrev three : List ℕ → List ℕ → List ℕ → List ℕ
three name kind value = line name_word name ++ (line kind_word kind ++ line value_word value)

-- "N Int 0,2; T packed 2,2, occurs 5, depending N, scale 1; E Text 2,2; spans 1, all else 0 or absent"
abbrev layout_text : List ℕ
layout_text =
    line page_word (0x30 ∷ [])
    ++ (entry (0x4E ∷ []) (0x30 ∷ []) (0x31 ∷ []) [] [] (0x30 ∷ []) (0x30 ∷ [])
    ++ (entry (0x54 ∷ []) (0x32 ∷ []) (0x37 ∷ []) (0x35 ∷ []) (0x4E ∷ []) (0x31 ∷ []) (0x31 ∷ [])
    ++ entry (0x45 ∷ []) (0x32 ∷ []) (0x30 ∷ []) [] [] (0x30 ∷ []) (0x30 ∷ [])))

-- the five items that it prints: N, an int, 2; T, a list, 2; 1.2 and -34.5, decimals; E, a text, OK
abbrev output : List ℕ
output =
    three (0x4E ∷ []) (0x69 ∷ 0x6E ∷ 0x74 ∷ []) (0x32 ∷ [])
    ++ (three (0x54 ∷ []) (0x6C ∷ 0x69 ∷ 0x73 ∷ 0x74 ∷ []) (0x32 ∷ [])
    ++ (three [] (0x64 ∷ 0x65 ∷ 0x63 ∷ 0x69 ∷ 0x6D ∷ 0x61 ∷ 0x6C ∷ []) (0x31 ∷ 0x2E ∷ 0x32 ∷ [])
    ++ (three [] (0x64 ∷ 0x65 ∷ 0x63 ∷ 0x69 ∷ 0x6D ∷ 0x61 ∷ 0x6C ∷ []) (0x2D ∷ 0x33 ∷ 0x34 ∷ 0x2E ∷ 0x35 ∷ [])
    ++ three (0x45 ∷ []) (0x74 ∷ 0x65 ∷ 0x78 ∷ 0x74 ∷ []) (0x4F ∷ 0x4B ∷ []))))

-- "record 30 32 01 2C 34 5D 4F 4B"
pub worked : shown layout_text false (0x30 ∷ 0x32 ∷ 0x01 ∷ 0x2C ∷ 0x34 ∷ 0x5D ∷ 0x4F ∷ 0x4B ∷ []) false ≡ output
unfolding shown printed answer answer_by listed_from lines_of name_of kind_name value_of escaped number_text scalar_of digit_count decimal_text refusal read_of spelling text_checked
    Form.lawful Form.all Form.ended Form.lines_of Form.entry_lawful all_below starts_with number_of every_by words_below twelve entry_said sights_below masks_below index_in equal
    words_ok entries_ok entry_ok place_ok option_ok kind_ok plain_ok bool_ok float_ok edited_ok up_to spans_ok nested size tree tree_in entry_at layout_asks checked_of record_length
    furthest reserved_width depends_in some_below decode_record R.seq R.field R.elements R.one R.pad R.scalar R.container unrepeated is_pad controls how_many look dec says from_page left_by
    right_by before_by field_of Display.int_of Display.int_in Display.digits_in Display.sign_at Display.rest_of Display.whole_of Packed.decode_of Text.cut
worked = refl

-- a record above 65,536 bytes, by this layout; a layout text above that, which is asked first
pub long-record : shown layout_text false [] true ≡ 0x72 ∷ 0x65 ∷ 0x66 ∷ 0x75 ∷ 0x73 ∷ 0x65 ∷ 0x64 ∷ 0x3D ∷ 0x34 ∷ 0x0A ∷ []
unfolding shown printed answer answer_by listed_from lines_of name_of kind_name value_of escaped number_text scalar_of digit_count decimal_text refusal read_of spelling text_checked
    Form.lawful Form.all Form.ended Form.lines_of Form.entry_lawful all_below starts_with number_of every_by words_below twelve entry_said sights_below masks_below index_in equal
    words_ok entries_ok entry_ok place_ok option_ok kind_ok plain_ok bool_ok float_ok edited_ok up_to spans_ok nested size tree tree_in entry_at layout_asks checked_of record_length
    furthest reserved_width depends_in some_below decode_record R.seq R.field R.elements R.one R.pad R.scalar R.container unrepeated is_pad controls how_many look dec says refused_text
long-record = refl

pub long-layout : shown [] true [] true ≡ 0x72 ∷ 0x65 ∷ 0x66 ∷ 0x75 ∷ 0x73 ∷ 0x65 ∷ 0x64 ∷ 0x3D ∷ 0x31 ∷ 0x36 ∷ 0x0A ∷ []
unfolding shown printed answer refused_text number_text digit_count
long-layout = refl

-- ---- values: a Float of 1.5; a text of a backslash, 0x0D and `~`; a decimal of 0.05; the least Int; a Bool; an empty Null
pub float-shown : value_of [] (record { name = 0; tag = 4; a = 0x3FF8000000000000; b = 0 })
    ≡ 0x33 ∷ 0x66 ∷ 0x66 ∷ 0x38 ∷ 0x30 ∷ 0x30 ∷ 0x30 ∷ 0x30 ∷ 0x30 ∷ 0x30 ∷ 0x30 ∷ 0x30 ∷ 0x30 ∷ 0x30 ∷ 0x30 ∷ 0x30 ∷ []
unfolding value_of float_text hex_of bytes_of
float-shown = refl

pub text-shown : value_of (0x41 ∷ 0x5C ∷ 0x0D ∷ 0x7E ∷ 0x7F ∷ []) (record { name = 0; tag = 1; a = 1; b = 3 }) ≡ 0x5C ∷ 0x35 ∷ 0x63 ∷ 0x5C ∷ 0x30 ∷ 0x64 ∷ 0x7E ∷ []
unfolding value_of escaped hex_of
text-shown = refl

pub small-shown : value_of [] (record { name = 0; tag = 3; a = 18446744073709551611; b = 2 }) ≡ 0x2D ∷ 0x30 ∷ 0x2E ∷ 0x30 ∷ 0x35 ∷ []
unfolding value_of number_text scalar_of decimal_text digit_count
small-shown = refl

pub least-shown : value_of [] (record { name = 0; tag = 2; a = 9223372036854775808; b = 0 })
    ≡ 0x2D ∷ 0x39 ∷ 0x32 ∷ 0x32 ∷ 0x33 ∷ 0x33 ∷ 0x37 ∷ 0x32 ∷ 0x30 ∷ 0x33 ∷ 0x36 ∷ 0x38 ∷ 0x35 ∷ 0x34 ∷ 0x37 ∷ 0x37 ∷ 0x35 ∷ 0x38 ∷ 0x30 ∷ 0x38 ∷ []
unfolding value_of number_text scalar_of digit_count
least-shown = refl

pub bool-shown : value_of [] (record { name = 0; tag = 5; a = 1; b = 0 }) ≡ 0x31 ∷ []
unfolding value_of number_text digit_count
bool-shown = refl

pub null-shown : value_of [] (record { name = 0; tag = 0; a = 0; b = 0 }) ≡ []
unfolding value_of number_text scalar_of
null-shown = refl
