-- Worked examples: values compared, calls, and the order of the questions.
use Rattle.std.specs.Prelude.{◌≡◌, refl, Bool, true, false, List, [], ◌∷◌, ◌++◌, ℕ}
use Rattle.std.specs.Float.Ieee.{nan_bits}
use Rattle.codes.specs.Codes.{tag_int, tag_bool}
use Rattle.spans.specs.Tree.{tree, tree_in, size, nested}
use Rattle.layout.specs.Layout.{absent, entry_at, all_below, some_below, words_ok, up_to, plain_ok, kind_ok, option_ok, place_ok, entry_ok, entries_ok, spans_ok, checked_of, layout_asks}
use Rattle.layout.specs.Layout.{reserved_width, furthest, record_length, depends_in, unrepeated, is_pad, controls}
use Rattle.items.specs.Items.{Values, values, count, lookup, scalar_ok, holder_ok, item_ok, list_ok, well_formed}
use Rattle.value.specs.Field.{field_of}
use Rattle.value.specs.Rounding.{rounded, rescaled}
use Rattle.value.specs.Scalar.{scalar_of}
use Rattle.packed.specs.Packed as Packed
use Rattle.float.specs.Convert.{decimal_for}
use Rattle.decode_scalar.specs.Decode.{says}
use Rattle.encode_scalar.specs.Encode.{number_judged, number_bytes, judged_of, bytes_of}
use Rattle.walks.specs.Walk.{how_many}
use Rattle.walks.specs.Kinds.{look, enc, dec}
use Rattle.walks.specs.Reading as R
use Rattle.walks.specs.Writing as W
use Rattle.walks.specs.Records.{decode_record, encoded, supplied, writer_asks, encode_record, refusal_of}
use Rattle.walks.specs.Worked.{entry, once}
use Rattle.convert.specs.Same.{exact, exact_in, same_decimal, same_text, same_float, same_kind, same_item, same_all, same_value, all_kept}
use Rattle.convert.specs.Calls.{rewritten, convert_record}

-- ---- values

-- 12.50 and 12.5, 0 of any scale; then another minus, and a digit
decimals :
    same_decimal (exact true 1250 2) (exact true 125 1) ∷ same_decimal (exact false 0 18) (exact false 0 3)
    ∷ same_decimal (exact true 125 1) (exact false 125 1) ∷ same_decimal (exact false 125 1) (exact false 12 0)
    ∷ []
    ≡ true ∷ true ∷ false ∷ false ∷ []
unfolding same_decimal
decimals = refl

-- 1.5; then minus zero and zero, and a NaN
floats : same_float 0x3FF8000000000000 0x3FF8000000000000 ∷ same_float 0x8000000000000000 0 ∷ same_float 0x7FF8000000000000 0x7FF8000000000000 ∷ [] ≡ true ∷ false ∷ false ∷ []
unfolding same_float nan_bits
floats = refl

-- an item alone, of name 0
abbrev alone : ℕ → ℕ → Values
alone tag a = values (0 ∷ tag ∷ a ∷ 0 ∷ []) 0 1

-- true and true; then true and false, and true and an Int 1
bools :
    same_value [] [] (alone tag_bool 1) (alone tag_bool 1) ∷ same_value [] [] (alone tag_bool 1) (alone tag_bool 0) ∷ same_value [] [] (alone tag_bool 1) (alone tag_int 1) ∷ []
    ≡ true ∷ false ∷ false ∷ []
unfolding values tree tree_in same_value same_all same_item same_kind
bools = refl

-- name 3 is a List of two Structs, of a Text `AB` and a Decimal -12.50, and of an Int 7
abbrev old : List ℕ
old =
    3 ∷ 6 ∷ 2 ∷ 6 ∷
    65536 ∷ 7 ∷ 2 ∷ 3 ∷
    0 ∷ 1 ∷ 1 ∷ 2 ∷
    1 ∷ 3 ∷ 18446744073709550366 ∷ 2 ∷
    65536 ∷ 7 ∷ 1 ∷ 2 ∷
    1 ∷ 2 ∷ 7 ∷ 0 ∷ []

-- the Text stands elsewhere, -12.5 has another scale, 7 is a Decimal 7.000; the number in the first Struct, and the last item's name, are given
abbrev new : ℕ → ℕ → List ℕ
new number name =
    3 ∷ 6 ∷ 2 ∷ 6 ∷
    65536 ∷ 7 ∷ 2 ∷ 3 ∷
    0 ∷ 1 ∷ 0 ∷ 2 ∷
    1 ∷ 3 ∷ number ∷ 1 ∷
    65536 ∷ 7 ∷ 1 ∷ 2 ∷
    name ∷ 3 ∷ 7000 ∷ 3 ∷ []

abbrev test : List ℕ → Bool
test w = all_kept (0x20 ∷ 0x41 ∷ 0x42 ∷ []) (0x41 ∷ 0x42 ∷ []) (values old 0 6) (values w 0 6)

-- all kept; a minus lost, another member's name, a name that the old list lacks
lists : test (new 18446744073709551491 1) ∷ test (new 125 1) ∷ test (new 18446744073709551491 2) ∷ test (4 ∷ 2 ∷ 7 ∷ 0 ∷ []) ∷ [] ≡ true ∷ false ∷ false ∷ false ∷ []
unfolding values tree tree_in lookup same_decimal exact_in same_text same_float same_kind same_item same_all same_value all_kept nan_bits
lists = refl

-- ---- calls: a packed number of scale 1, -12.5

abbrev minus : List ℕ
minus = 0x12 ∷ 0x5D ∷ []

abbrev number : List ℕ → List ℕ → List ℕ → ℕ → ℕ
number l r m back = refusal_of (convert_record l [] 0 r m [] 0 8 16 0 back 0 4)

abbrev from : List ℕ
from = once 0 0 2 7 1 1 1

abbrev table : ℕ → List ℕ
table elements = entry 0 0 2 7 elements absent 1 1 1 1

-- a signed field of scale 2 holds it
converts : convert_record from [] 0 minus (once 0 0 3 7 1 1 2) [] 0 8 16 0 16 0 4 ≡ encoded (0x01 ∷ 0x25 ∷ 0x0D ∷ [])
unfolding
    convert_record rewritten all_kept same_value same_all same_item same_kind same_decimal exact_in layout_asks checked_of words_ok entries_ok all_below entry_ok place_ok option_ok kind_ok plain_ok up_to spans_ok
    nested size tree tree_in entry_at record_length furthest reserved_width depends_in some_below decode_record R.seq R.field R.elements R.one R.pad R.scalar R.container unrepeated is_pad controls
    how_many look dec says field_of Packed.decode_of encode_record writer_asks supplied W.seq W.field W.table W.table_length W.elements W.one lookup count well_formed list_ok item_ok holder_ok scalar_ok
    values enc scalar_of judged_of bytes_of number_judged number_bytes Packed.written_of decimal_for rescaled rounded
converts = refl

-- an unsigned field loses the minus, one of scale 0 a digit, a table of one the second of two elements; in a table of two one is missing; then nothing is lost
losses :
    number from minus (once 0 0 3 7 1 0 2) 16
    ∷ number from minus (once 0 0 3 7 1 1 0) 16
    ∷ number (table 2) (minus ++ minus) (table 1) 16
    ∷ number (table 1) minus (table 2) 16
    ∷ number (table 2) (minus ++ minus) (table 2) 16
    ∷ []
    ≡ 20 ∷ 20 ∷ 20 ∷ 20 ∷ 0 ∷ []
unfolding
    convert_record rewritten all_kept same_value same_all same_item same_kind same_decimal exact_in layout_asks checked_of words_ok entries_ok all_below entry_ok place_ok option_ok kind_ok plain_ok up_to spans_ok
    nested size tree tree_in entry_at record_length furthest reserved_width depends_in some_below decode_record R.seq R.field R.elements R.one R.pad R.scalar R.container unrepeated is_pad controls
    how_many look dec says field_of Packed.decode_of encode_record writer_asks supplied W.seq W.field W.table W.table_length W.elements W.one lookup count well_formed list_ok item_ok holder_ok scalar_ok
    values enc scalar_of judged_of bytes_of number_judged number_bytes Packed.written_of decimal_for rescaled rounded
losses = refl

-- the order: the reader's 4 and 8 before the writer's 2; its 2 before 12; 12 before reading back; 14 before it; then no place, and then 20
orders :
    number from (0x12 ∷ []) (once 1 0 3 10 1 0 2) 3
    ∷ number from (0x12 ∷ 0x50 ∷ []) (once 1 0 3 10 1 0 2) 3
    ∷ number from minus (once 1 0 3 10 1 0 2) 3
    ∷ number from minus (once 1 0 3 7 1 0 2) 3
    ∷ number from minus (once 0 0 1 7 1 0 2) 3
    ∷ number from minus (once 0 0 3 7 1 0 2) 3
    ∷ number from minus (once 0 0 3 7 1 0 2) 4
    ∷ []
    ≡ 4 ∷ 8 ∷ 2 ∷ 12 ∷ 14 ∷ 16 ∷ 20 ∷ []
unfolding
    convert_record rewritten all_kept same_value same_all same_item same_kind same_decimal exact_in layout_asks checked_of words_ok entries_ok all_below entry_ok place_ok option_ok kind_ok plain_ok up_to spans_ok
    nested size tree tree_in entry_at record_length furthest reserved_width depends_in some_below decode_record R.seq R.field R.elements R.one R.pad R.scalar R.container unrepeated is_pad controls
    how_many look dec says field_of Packed.decode_of encode_record writer_asks supplied W.seq W.field W.table W.table_length W.elements W.one lookup count well_formed list_ok item_ok holder_ok scalar_ok
    values enc scalar_of judged_of bytes_of number_judged number_bytes Packed.written_of decimal_for rescaled rounded
orders = refl
