-- The refusals of reader and writer, by computation over the definitions that their contracts cite: each number, every two of the field questions in either
-- order, and the questions before the walk, each with each later one.
use Rattle.std.specs.Prelude.{◌≡◌, refl, List, [], ◌∷◌, ◌++◌, map, ℕ, ◌+◌, length}
use Rattle.spans.specs.Tree.{tree, tree_in, size, nested}
use Rattle.layout.specs.Layout.{absent, entry_at, all_below, some_below, words_ok, up_to, plain_ok, bool_ok, edited_ok, float_ok, kind_ok, option_ok, place_ok, entry_ok, entries_ok, spans_ok, checked_of, layout_asks, reserved_width, furthest, record_length, depends_in, unrepeated, is_pad, controls}
use Rattle.items.specs.Items.{values, count, lookup, scalar_ok, holder_ok, item_ok, list_ok, well_formed}
use Rattle.lists.specs.Scan.{left_by, right_by, keep_by, every_by, before_by}
use Rattle.value.specs.Field.{field_of}
use Rattle.value.specs.Rounding.{rounded, rescaled}
use Rattle.value.specs.Scalar.{scalar_of}
use Rattle.ebcdic.specs.Ebcdic.{from_page, onto_page}
use Rattle.numerals.specs.Numerals.{kept_by}
use Rattle.display.specs.Display as Display
use Rattle.packed.specs.Packed as Packed
use Rattle.zoned.specs.Zoned as Zoned
use Rattle.edited.specs.Edited as Edited
use Rattle.binary.specs.Binary.{integer_of}
use Rattle.binary.specs.Bytes.{word_in}
use Rattle.float.specs.Convert.{decimal_for}
use Rattle.text.specs.Text as Text
use Rattle.decode_scalar.specs.Decode.{says, embedded_of}
use Rattle.encode_scalar.specs.Encode.{number_judged, number_bytes, judged_of, bytes_of}
use Rattle.walks.specs.Walk.{how_many}
use Rattle.walks.specs.Kinds.{look, enc, dec}
use Rattle.walks.specs.Reading as R
use Rattle.walks.specs.Writing as W
use Rattle.walks.specs.Records.{decode_record, number_of, supplied, writer_asks, encode_record, refusal_of}
use Rattle.walks.specs.Worked.{entry, once}

-- ---- the reader's refusals, in the order of the questions; then two at once

abbrev read_number : List ℕ → List ℕ → ℕ → ℕ → ℕ → ℕ
read_number l r items text work = number_of (decode_record l [] 0 r items text work)

-- T Int 1,1 under depending N, occurs 2, behind a counter N 0,1
abbrev behind : List ℕ → List ℕ
behind counter = counter ++ entry 1 1 1 1 2 0 1 0 0 0

-- N Int
abbrev counted : List ℕ
counted = behind (once 0 0 1 1 0 0 0)

-- two packed fields of a byte
abbrev two : List ℕ
two = once 0 0 1 7 1 1 0 ++ once 1 1 1 7 1 1 0

abbrev largest : List ℕ
largest = 0xFF ∷ 0xFF ∷ 0xFF ∷ 0xFF ∷ 0xFF ∷ 0xFF ∷ 0xFF ∷ 0xFF ∷ []

reader-refuses :
    read_number (0 ∷ []) [] 8 4 4
    ∷ read_number (once 0 0 1 10 0 0 0) [] 8 4 4
    ∷ read_number (entry 0 0 0 9 absent absent 0 0 0 0) [] 8 4 4
    ∷ read_number (once 0 0 1 1 0 0 0) (0x31 ∷ []) 8 4 1
    ∷ read_number (once 0 0 2 1 0 0 0) (0x31 ∷ []) 8 4 4
    ∷ read_number (entry 0 0 1 1 2 7 1 0 0 0) (0x31 ∷ []) 8 4 4
    ∷ read_number counted (0x33 ∷ 0x31 ∷ 0x31 ∷ 0x31 ∷ []) 40 4 4
    ∷ read_number (behind (once 0 0 1 2 0 1 0)) largest 40 4 4
    -- 02, S-4: a signed Embedded Int of -1
    ∷ read_number (behind (once 0 0 1 1 1 1 0)) (0x4A ∷ 0x31 ∷ []) 40 4 4
    ∷ read_number counted (0x32 ∷ 0x31 ∷ []) 40 4 4
    ∷ read_number (once 0 0 1 7 1 1 0) (0x19 ∷ []) 8 4 4
    ∷ read_number (once 0 0 8 2 0 0 0) largest 8 4 4
    ∷ read_number (entry 0 0 0 0 2 absent 1 0 1 0x20) [] 8 4 4
    ∷ read_number (once 0 0 1 1 0 0 0) (0x31 ∷ []) 3 4 4
    ∷ read_number (once 0 0 1 0 0 1 0x20) (0x41 ∷ []) 8 0 4
    -- 8 then 7 behind a count; 8 before 16; the List's place before its elements, 10 before an element's place
    ∷ read_number (once 0 0 1 1 0 0 0 ++ entry 1 1 1 7 5 0 1 1 1 0) (0x33 ∷ 0x19 ∷ []) 40 4 4
    ∷ read_number two (0x19 ∷ 0x1C ∷ []) 0 4 4
    ∷ read_number two (0x1C ∷ 0x19 ∷ []) 4 4 4
    ∷ read_number two (0x1C ∷ 0x1C ∷ []) 4 4 4
    ∷ read_number (entry 0 0 0 0 2 absent 1 0 1 0x20) [] 3 4 4
    ∷ read_number (entry 0 0 0 0 2 absent 1 0 1 0x20) [] 4 4 4
    ∷ []
    ≡ 1 ∷ 2 ∷ 3 ∷ 16 ∷ 4 ∷ 5 ∷ 6 ∷ 6 ∷ 6 ∷ 7 ∷ 8 ∷ 9 ∷ 10 ∷ 16 ∷ 16 ∷ 8 ∷ 8 ∷ 8 ∷ 16 ∷ 16 ∷ 10 ∷ []
unfolding layout_asks checked_of words_ok entries_ok all_below entry_ok place_ok option_ok kind_ok plain_ok bool_ok float_ok edited_ok up_to spans_ok nested size tree tree_in entry_at record_length furthest reserved_width depends_in some_below decode_record R.seq R.field R.elements R.one R.pad R.scalar R.container unrepeated is_pad controls how_many look dec says from_page every_by left_by right_by before_by field_of Display.int_of Display.int_in Display.digits_in Display.sign_at Display.rest_of Display.whole_of Packed.decode_of Text.cut word_in integer_of embedded_of
reader-refuses = refl

-- ---- 02, S-1: "An unrepeated Decimal of scale 0 now sets the count for its name, in all three forms."

abbrev packed_count : List ℕ
packed_count = behind (once 0 0 1 7 1 1 0)

-- packed, Display and zoned, each with as many elements as it counts and with one too few (7); a minus zero; a negative count and one above the maximum;
-- a Decimal of scale 1, one that is a table, and an Edited control nothing
counters :
    read_number packed_count (0x1C ∷ 0x31 ∷ []) 40 4 4
    ∷ read_number (behind (once 0 0 1 7 0 0 0)) (0x31 ∷ 0x31 ∷ []) 40 4 4
    ∷ read_number (behind (once 0 0 1 7 2 1 0)) (0x41 ∷ 0x31 ∷ []) 40 4 4
    ∷ read_number packed_count (0x2C ∷ 0x31 ∷ []) 40 4 4
    ∷ read_number (behind (once 0 0 1 7 0 0 0)) (0x32 ∷ 0x31 ∷ []) 40 4 4
    ∷ read_number (behind (once 0 0 1 7 2 1 0)) (0x42 ∷ 0x31 ∷ []) 40 4 4
    ∷ read_number packed_count (0x0D ∷ []) 40 4 4
    ∷ read_number packed_count (0x1D ∷ 0x31 ∷ []) 40 4 4
    ∷ read_number packed_count (0x3C ∷ 0x31 ∷ 0x31 ∷ 0x31 ∷ []) 40 4 4
    ∷ read_number (behind (once 0 0 1 7 1 1 1)) (0x1C ∷ 0x31 ∷ []) 40 4 4
    ∷ read_number (behind (entry 0 0 1 7 1 absent 1 1 1 0)) (0x1C ∷ 0x31 ∷ []) 40 4 4
    ∷ number_of (decode_record (behind (once 0 0 1 8 0 0 0)) (0x39 ∷ []) 0 (0x31 ∷ 0x31 ∷ []) 40 4 4)
    ∷ []
    ≡ 0 ∷ 0 ∷ 0 ∷ 7 ∷ 7 ∷ 7 ∷ 0 ∷ 6 ∷ 6 ∷ 5 ∷ 5 ∷ 5 ∷ []
unfolding layout_asks checked_of words_ok entries_ok all_below entry_ok place_ok option_ok kind_ok plain_ok bool_ok float_ok edited_ok up_to spans_ok nested size tree tree_in entry_at record_length furthest reserved_width depends_in some_below decode_record R.seq R.field R.elements R.one R.pad R.scalar R.container unrepeated is_pad controls how_many look dec says from_page every_by keep_by left_by right_by field_of kept_by Display.int_of Display.int_in Display.digits_in Display.sign_at Display.rest_of Display.whole_of Display.decimal_of Packed.decode_of Zoned.decode_of Edited.decoded_of
counters = refl

-- ---- the writer's refusals, in the order of the questions; then two at once

abbrev write_number : List ℕ → List ℕ → List ℕ → List ℕ → ℕ → ℕ → ℕ
write_number l masks items text room work = refusal_of (encode_record l masks 0 items text room work)

abbrev int : ℕ → List ℕ
int name = once name name 1 1 0 0 0

abbrev edited : List ℕ
edited = once 0 0 2 8 0 0 0

writer-refuses :
    write_number (0 ∷ []) [] [] [] 9 4
    ∷ write_number (once 0 0 1 10 0 0 0) [] [] [] 9 4
    ∷ write_number (entry 0 0 0 9 absent absent 0 0 0 0) [] [] [] 9 4
    ∷ write_number (int 0) [] [] [] 9 1
    ∷ write_number (int 0) [] (0 ∷ []) [] 9 4
    ∷ write_number (int 0) [] [] [] 0 4
    ∷ write_number (int 0) [] (0 ∷ 2 ∷ 1 ∷ 0 ∷ []) [] 0 4
    ∷ write_number (int 0) [] (0 ∷ 1 ∷ 0 ∷ 1 ∷ []) (0x78 ∷ []) 9 4
    ∷ write_number (int 0) [] (0 ∷ 7 ∷ 0 ∷ 1 ∷ []) [] 9 4
    -- `$$`, and `9X` with a number that fits it and one that does not
    ∷ write_number edited (0x24 ∷ 0x24 ∷ []) (0 ∷ 3 ∷ 1000 ∷ 0 ∷ []) [] 9 4
    ∷ write_number edited (0x39 ∷ 0x58 ∷ []) (0 ∷ 3 ∷ 10 ∷ 0 ∷ []) [] 9 4
    ∷ write_number edited (0x39 ∷ 0x58 ∷ []) (0 ∷ 3 ∷ 1 ∷ 0 ∷ []) [] 9 4
    ∷ write_number (int 0) [] (0 ∷ 2 ∷ 10 ∷ 0 ∷ []) [] 9 4
    ∷ write_number (entry 0 0 1 1 5 7 1 0 0 0) [] (0 ∷ 6 ∷ 2 ∷ 3 ∷ 65536 ∷ 2 ∷ 1 ∷ 0 ∷ 65536 ∷ 2 ∷ 1 ∷ 0 ∷ []) [] 1 4
    -- the earlier field's number
    ∷ write_number (int 0 ++ int 1) [] (0 ∷ 2 ∷ 10 ∷ 0 ∷ 1 ∷ 7 ∷ 0 ∷ 1 ∷ []) [] 9 4
    ∷ write_number (int 0 ++ int 1) [] (0 ∷ 7 ∷ 0 ∷ 1 ∷ 1 ∷ 2 ∷ 10 ∷ 0 ∷ []) [] 9 4
    ∷ []
    ≡ 1 ∷ 2 ∷ 3 ∷ 16 ∷ 11 ∷ 12 ∷ 16 ∷ 13 ∷ 13 ∷ 15 ∷ 14 ∷ 15 ∷ 14 ∷ 16 ∷ 14 ∷ 13 ∷ []
unfolding layout_asks checked_of words_ok entries_ok all_below entry_ok place_ok option_ok kind_ok plain_ok bool_ok float_ok edited_ok up_to spans_ok nested size tree tree_in entry_at record_length furthest reserved_width depends_in some_below encode_record writer_asks supplied W.seq W.field W.table W.table_length W.elements W.one lookup count well_formed list_ok item_ok holder_ok scalar_ok values enc scalar_of unrepeated is_pad judged_of bytes_of number_judged number_bytes onto_page Text.written Display.int_fits Display.int_bytes Packed.written_of decimal_for rescaled rounded every_by Edited.judged Edited.count_by Edited.lawful_from Display.rest_of Display.sign_at Display.whole_of Display.digits_in Display.int_in left_by right_by
writer-refuses = refl

-- ---- every two of the field questions, in either order: the earlier field's number

-- N Int 0,1 that holds 3; then two of these, under the names 1 and 2
abbrev pub Field : Type 0
Field = ℕ → ℕ → List ℕ

abbrev unknown : Field
unknown name offset = entry name offset 1 1 absent 99 1 0 0 0

abbrev too_many : Field
too_many name offset = entry name offset 1 1 2 0 1 0 0 0

abbrev outside : Field
outside name offset = once name 200 1 1 0 0 0

abbrev unlawful : Field
unlawful name offset = once name offset 1 7 1 1 0

abbrev too_large : Field
too_large name offset = once name offset 8 2 0 0 0

abbrev no_byte : Field
no_byte name offset = entry name offset 0 0 1 absent 1 0 1 0x20

abbrev no_place : Field
no_place name offset = once name offset 1 0 0 1 0x20

-- a field, the bytes that it stands on, and the number that it is refused by
pub record Bad : Type 0 where
  pub field : Field
  pub bytes : List ℕ
  pub number : ℕ

abbrev readings : List Bad
readings =
    record { field = unknown; bytes = []; number = 5 }
    ∷ record { field = too_many; bytes = []; number = 6 }
    ∷ record { field = outside; bytes = []; number = 7 }
    ∷ record { field = unlawful; bytes = 0x19 ∷ []; number = 8 }
    ∷ record { field = too_large; bytes = largest; number = 9 }
    ∷ record { field = no_byte; bytes = []; number = 10 }
    ∷ record { field = no_place; bytes = 0x41 ∷ []; number = 16 }
    ∷ []

-- a table under depending stands behind, so that the record length does not bind
abbrev read_two : Bad → Bad → ℕ
read_two a b =
    read_number (once 0 0 1 1 0 0 0 ++ a.field 1 1 ++ b.field 2 (1 + length a.bytes) ++ entry 3 0 1 1 absent 0 1 0 0 0) (0x33 ∷ a.bytes ++ b.bytes) 40 0 8

-- each of them before each
abbrev each_two : (Bad → Bad → ℕ) → List Bad → List Bad → List ℕ
each_two f all [] = []
each_two f all (a ∷ more) = map (f a) all ++ each_two f all more

reader-pairs : each_two read_two readings readings ≡ each_two (λ a b. a.number) readings readings
unfolding layout_asks checked_of words_ok entries_ok all_below entry_ok place_ok option_ok kind_ok plain_ok bool_ok float_ok edited_ok up_to spans_ok nested size tree tree_in entry_at record_length furthest reserved_width depends_in some_below decode_record R.seq R.field R.elements R.one R.pad R.scalar R.container unrepeated is_pad controls how_many look dec says from_page every_by left_by right_by before_by field_of Display.int_of Display.int_in Display.digits_in Display.sign_at Display.rest_of Display.whole_of Packed.decode_of Text.cut word_in integer_of
reader-pairs = refl

-- the questions before the walk, each with each later one: 1, 2, 3, 16 for the work space, 4, and 8 of the only field
abbrev lawless : List ℕ
lawless = once 0 0 1 10 0 0 0

abbrev loose : List ℕ
loose = entry 0 0 0 9 absent absent 0 0 0 0

abbrev read_at : List ℕ → ℕ → List ℕ → ℕ → ℕ
read_at l page r work = number_of (decode_record l [] page r 8 4 work)

abbrev spoiled : List ℕ
spoiled = once 0 0 1 7 1 1 0

reader-before :
    read_at lawless 2 (0x19 ∷ []) 2 ∷ read_at loose 2 [] 2 ∷ read_at spoiled 2 (0x19 ∷ []) 1 ∷ read_at spoiled 2 [] 2 ∷ read_at spoiled 2 (0x19 ∷ []) 2
    ∷ read_at (lawless ++ loose) 0 [] 4 ∷ read_at lawless 0 (0x19 ∷ []) 1 ∷ read_at lawless 0 [] 2 ∷ read_at (spoiled ++ lawless) 0 (0x19 ∷ []) 4
    ∷ read_at loose 0 [] 1 ∷ read_at (spoiled ++ loose) 0 [] 4 ∷ read_at (spoiled ++ loose) 0 (0x19 ∷ []) 4
    ∷ read_at spoiled 0 [] 1 ∷ read_at spoiled 0 (0x19 ∷ []) 1
    ∷ read_at (spoiled ++ once 1 1 1 1 0 0 0) 0 (0x19 ∷ []) 4
    ∷ []
    ≡ 1 ∷ 1 ∷ 1 ∷ 1 ∷ 1 ∷ 2 ∷ 2 ∷ 2 ∷ 2 ∷ 3 ∷ 3 ∷ 3 ∷ 16 ∷ 16 ∷ 4 ∷ []
unfolding layout_asks checked_of words_ok entries_ok all_below entry_ok place_ok option_ok kind_ok plain_ok bool_ok float_ok edited_ok up_to spans_ok nested size tree tree_in entry_at record_length furthest reserved_width depends_in some_below decode_record R.seq R.field R.elements R.one R.pad R.scalar R.container unrepeated is_pad controls how_many look dec says from_page every_by left_by right_by before_by field_of Display.int_of Display.int_in Display.digits_in Display.sign_at Display.rest_of Display.whole_of Packed.decode_of Text.cut
reader-before = refl

-- ---- the writer's: a field, its value and the number that refuses it; 15 of a repeated $ and of an unlawful character are two questions

pub record Unfit : Type 0 where
  pub field : Field
  pub value : ℕ → List ℕ
  pub number : ℕ

abbrev edited_by : ℕ → Field
edited_by mask name offset = name ∷ offset ∷ 2 ∷ 8 ∷ absent ∷ absent ∷ 1 ∷ 0 ∷ 0 ∷ 0 ∷ 0 ∷ mask ∷ []

-- `$$9X`
abbrev two_masks : List ℕ
two_masks = 0x24 ∷ 0x24 ∷ 0x39 ∷ 0x58 ∷ []

abbrev writings : List Unfit
writings =
    record { field = λ name offset. once name offset 1 1 0 0 0; value = λ name. name ∷ 7 ∷ 0 ∷ 1 ∷ []; number = 13 }
    ∷ record { field = edited_by 0; value = λ name. name ∷ 3 ∷ 1 ∷ 0 ∷ []; number = 15 }
    ∷ record { field = λ name offset. once name offset 1 1 0 0 0; value = λ name. name ∷ 2 ∷ 10 ∷ 0 ∷ []; number = 14 }
    ∷ record { field = edited_by 2; value = λ name. name ∷ 3 ∷ 1 ∷ 0 ∷ []; number = 15 }
    ∷ record { field = λ name offset. entry name offset 1 1 absent 99 1 0 0 0; value = λ name. name ∷ 6 ∷ 3 ∷ 4 ∷ 65536 ∷ 2 ∷ 1 ∷ 0 ∷ 65536 ∷ 2 ∷ 1 ∷ 0 ∷ 65536 ∷ 2 ∷ 1 ∷ 0 ∷ []; number = 16 }
    ∷ []

abbrev write_two : Unfit → Unfit → ℕ
write_two a b = refusal_of (encode_record (a.field 1 6 ++ b.field 2 6) two_masks 0 (a.value 1 ++ b.value 2) [] 8 4)

abbrev each_written : (Unfit → Unfit → ℕ) → List Unfit → List Unfit → List ℕ
each_written f all [] = []
each_written f all (a ∷ more) = map (f a) all ++ each_written f all more

writer-pairs : each_written write_two writings writings ≡ each_written (λ a b. a.number) writings writings
unfolding layout_asks checked_of words_ok entries_ok all_below entry_ok place_ok option_ok kind_ok plain_ok bool_ok float_ok edited_ok up_to spans_ok nested size tree tree_in entry_at record_length furthest reserved_width depends_in some_below encode_record writer_asks supplied W.seq W.field W.table W.table_length W.elements W.one lookup count well_formed list_ok item_ok holder_ok scalar_ok values enc scalar_of unrepeated is_pad judged_of bytes_of number_judged number_bytes onto_page Text.written Display.int_fits Display.int_bytes Packed.written_of decimal_for rescaled rounded every_by Edited.judged Edited.count_by Edited.lawful_from Display.rest_of Display.sign_at Display.whole_of Display.digits_in Display.int_in left_by right_by
writer-pairs = refl

-- the questions before the walk, each with each later one: 1, 2, 3, 16 for the work space, 11, 12, 16 for the record length, and 13 of the only field
abbrev write_at : List ℕ → ℕ → List ℕ → ℕ → ℕ → ℕ
write_at l page items room work = refusal_of (encode_record l [] page items [] room work)

abbrev struct : List ℕ
struct = 0 ∷ 7 ∷ 0 ∷ 1 ∷ []

writer-before :
    write_at lawless 2 struct 9 2 ∷ write_at loose 2 struct 9 2 ∷ write_at (int 0) 2 struct 9 1 ∷ write_at (int 0) 2 (0 ∷ []) 9 2 ∷ write_at (int 0) 2 [] 9 2 ∷ write_at (int 0) 2 struct 0 2 ∷ write_at (int 0) 2 struct 9 2
    ∷ write_at (lawless ++ loose) 0 struct 9 4 ∷ write_at lawless 0 struct 9 1 ∷ write_at lawless 0 (0 ∷ []) 9 2 ∷ write_at lawless 0 [] 9 2 ∷ write_at lawless 0 struct 0 2 ∷ write_at (int 0 ++ lawless) 0 struct 9 4
    ∷ write_at loose 0 struct 9 1 ∷ write_at loose 0 (0 ∷ []) 9 2 ∷ write_at loose 0 [] 9 2 ∷ write_at (int 0 ++ loose) 0 struct 0 4 ∷ write_at (int 0 ++ loose) 0 struct 9 4
    ∷ write_at (int 0) 0 (0 ∷ []) 9 1 ∷ write_at (int 0) 0 [] 9 1 ∷ write_at (int 0) 0 struct 0 1 ∷ write_at (int 0) 0 struct 9 1
    ∷ write_at (int 0) 0 (1 ∷ []) 9 2 ∷ write_at (int 0) 0 (0 ∷ []) 0 2 ∷ write_at (int 0) 0 (0 ∷ 7 ∷ 0 ∷ 0 ∷ []) 9 2
    ∷ write_at (int 0) 0 [] 0 2 ∷ write_at (int 0 ++ int 1) 0 struct 9 4
    ∷ write_at (int 0) 0 struct 0 2
    ∷ []
    ≡ 1 ∷ 1 ∷ 1 ∷ 1 ∷ 1 ∷ 1 ∷ 1 ∷ 2 ∷ 2 ∷ 2 ∷ 2 ∷ 2 ∷ 2 ∷ 3 ∷ 3 ∷ 3 ∷ 3 ∷ 3 ∷ 16 ∷ 16 ∷ 16 ∷ 16 ∷ 11 ∷ 11 ∷ 11 ∷ 12 ∷ 12 ∷ 16 ∷ []
unfolding layout_asks checked_of words_ok entries_ok all_below entry_ok place_ok option_ok kind_ok plain_ok bool_ok float_ok edited_ok up_to spans_ok nested size tree tree_in entry_at record_length furthest reserved_width depends_in some_below encode_record writer_asks supplied W.seq W.field W.table W.table_length W.elements W.one lookup count well_formed list_ok item_ok holder_ok scalar_ok values enc scalar_of unrepeated is_pad judged_of bytes_of number_judged number_bytes onto_page Text.written Display.int_fits Display.int_bytes Packed.written_of decimal_for rescaled rounded every_by Edited.judged Edited.count_by Edited.lawful_from Display.rest_of Display.sign_at Display.whole_of Display.digits_in Display.int_in left_by right_by
writer-before = refl
