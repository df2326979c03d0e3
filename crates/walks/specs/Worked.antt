-- Worked records, by computation over the definitions that the contracts cite: the specification's own record, a table under depending in a repeated group,
-- a packed counter, and all kinds.
use Rattle.std.specs.Prelude.{◌≡◌, refl, true, List, [], ◌∷◌, ◌++◌, ℕ}
use Rattle.std.specs.Float.Ieee.{of_bits, to_bits, nan_bits, is_nan, fits}
use Rattle.spans.specs.Tree.{tree, tree_in, size, nested}
use Rattle.layout.specs.Layout.{absent, entry_at, all_below, some_below, words_ok, up_to, plain_ok, bool_ok, edited_ok, float_ok, kind_ok, option_ok, place_ok, entry_ok, entries_ok, spans_ok, checked_of, layout_asks, reserved_width, furthest, record_length, depends_in, unrepeated, is_pad, controls}
use Rattle.items.specs.Items.{values, count, lookup, scalar_ok, holder_ok, item_ok, list_ok, well_formed}
use Rattle.lists.specs.Scan.{left_by, right_by, every_by, before_by}
use Rattle.value.specs.Field.{field_of}
use Rattle.value.specs.Rounding.{rounded, rescaled}
use Rattle.value.specs.Scalar.{scalar_of}
use Rattle.ebcdic.specs.Ebcdic.{from_page, onto_page}
use Rattle.display.specs.Display as Display
use Rattle.packed.specs.Packed as Packed
use Rattle.edited.specs.Edited as Edited
use Rattle.float.specs.Single.{narrow}
use Rattle.float.specs.Field.{exact_in}
use Rattle.float.specs.Convert.{decimal_for}
use Rattle.text.specs.Text as Text
use Rattle.decode_scalar.specs.Decode.{says}
use Rattle.encode_scalar.specs.Encode.{number_judged, number_bytes, judged_of, bytes_of}
use Rattle.fits.specs.Decide as Scalar
use Rattle.walks.specs.Walk.{how_many}
use Rattle.walks.specs.Kinds.{look, enc, dec}
use Rattle.walks.specs.Reading as R
use Rattle.walks.specs.Writing as W
use Rattle.walks.specs.Records.{decoded, decode_record, encoded, supplied, writer_asks, encode_record}
use Rattle.walks.specs.Plain.{names_of, distinct, pad_ok, width_ok, sure, group_ok, each_ok, in_order, offers, controlled, plain}
use Rattle.walks.specs.Decide as Fit
use Rattle.walks.specs.Decide.{fitting}

-- an entry's first seven words, then p, q and r
abbrev pub entry : ℕ → ℕ → ℕ → ℕ → ℕ → ℕ → ℕ → ℕ → ℕ → ℕ → List ℕ
entry name offset width kind occurs depending span p q r = name ∷ offset ∷ width ∷ kind ∷ occurs ∷ depending ∷ span ∷ p ∷ q ∷ r ∷ 0 ∷ 0 ∷ []

-- an unrepeated entry of no members: name, offset, width, kind, p, q, r
abbrev pub once : ℕ → ℕ → ℕ → ℕ → ℕ → ℕ → ℕ → List ℕ
once name offset width kind p q r = entry name offset width kind absent absent 1 p q r

-- ---- "N Int 0,2; T packed 2,2, occurs 5, depending N, scale 1; E Text 2,2"

abbrev pub shown : List ℕ
shown =
    0 ∷ 0 ∷ 2 ∷ 1 ∷ absent ∷ absent ∷ 1 ∷ 0 ∷ 0 ∷ 0 ∷ 0 ∷ 0 ∷
    1 ∷ 2 ∷ 2 ∷ 7 ∷ 5 ∷ 0 ∷ 1 ∷ 1 ∷ 0 ∷ 1 ∷ 0 ∷ 0 ∷
    2 ∷ 2 ∷ 2 ∷ 0 ∷ absent ∷ absent ∷ 1 ∷ 0 ∷ 0 ∷ 0 ∷ 0 ∷ 0 ∷ []

pub shown_read : decode_record shown [] 0 (0x30 ∷ 0x32 ∷ 0x01 ∷ 0x2C ∷ 0x34 ∷ 0x5D ∷ 0x4F ∷ 0x4B ∷ []) 20 2 6
    ≡ decoded (0 ∷ 2 ∷ 2 ∷ 0 ∷ 1 ∷ 6 ∷ 2 ∷ 3 ∷ 65536 ∷ 3 ∷ 12 ∷ 1 ∷ 65536 ∷ 3 ∷ 18446744073709551271 ∷ 1 ∷ 2 ∷ 1 ∷ 0 ∷ 2 ∷ []) (0x4F ∷ 0x4B ∷ [])
unfolding layout_asks checked_of words_ok entries_ok all_below entry_ok place_ok option_ok kind_ok plain_ok bool_ok float_ok edited_ok up_to spans_ok nested size tree tree_in entry_at record_length furthest reserved_width depends_in some_below decode_record R.seq R.field R.elements R.one R.pad R.scalar R.container unrepeated is_pad controls how_many look dec says from_page every_by left_by right_by before_by field_of Display.int_of Display.int_in Display.digits_in Display.sign_at Display.rest_of Display.whole_of Packed.decode_of Text.cut
shown_read = refl

-- ---- a repeated group G of K Int 0,1; X packed 1,1, occurs 3, depending K; Y Text 1,1; and behind it Z Int 4,1

abbrev pub boxes : List ℕ
boxes = entry 0 0 2 9 2 absent 4 0 0 0 ++ once 1 0 1 1 0 0 0 ++ entry 2 1 1 7 3 1 1 1 1 0 ++ once 3 1 1 0 0 1 0x20 ++ once 4 4 1 1 0 0 0

-- one line in the first box, none in the second
abbrev pub boxed : List ℕ
boxed =
    0 ∷ 6 ∷ 2 ∷ 10 ∷
    65536 ∷ 7 ∷ 3 ∷ 5 ∷ 1 ∷ 2 ∷ 1 ∷ 0 ∷ 2 ∷ 6 ∷ 1 ∷ 2 ∷ 65536 ∷ 3 ∷ 5 ∷ 0 ∷ 3 ∷ 1 ∷ 0 ∷ 1 ∷
    65536 ∷ 7 ∷ 3 ∷ 4 ∷ 1 ∷ 2 ∷ 0 ∷ 0 ∷ 2 ∷ 6 ∷ 0 ∷ 1 ∷ 3 ∷ 1 ∷ 1 ∷ 1 ∷
    4 ∷ 2 ∷ 7 ∷ 0 ∷ []

pub boxes-read : decode_record boxes [] 0 (0x31 ∷ 0x5C ∷ 0x61 ∷ 0x30 ∷ 0x62 ∷ 0x37 ∷ []) 44 2 10 ≡ decoded boxed (0x61 ∷ 0x62 ∷ [])
unfolding layout_asks checked_of words_ok entries_ok all_below entry_ok place_ok option_ok kind_ok plain_ok bool_ok float_ok edited_ok up_to spans_ok nested size tree tree_in entry_at record_length furthest reserved_width depends_in some_below decode_record R.seq R.field R.elements R.one R.pad R.scalar R.container unrepeated is_pad controls how_many look dec says from_page every_by left_by right_by before_by field_of Display.int_of Display.int_in Display.digits_in Display.sign_at Display.rest_of Display.whole_of Packed.decode_of Text.cut
boxes-read = refl

pub boxes-written : encode_record boxes [] 0 boxed (0x61 ∷ 0x62 ∷ []) 6 10 ≡ encoded (0x31 ∷ 0x5C ∷ 0x61 ∷ 0x30 ∷ 0x62 ∷ 0x37 ∷ [])
unfolding layout_asks checked_of words_ok entries_ok all_below entry_ok place_ok option_ok kind_ok plain_ok bool_ok float_ok edited_ok up_to spans_ok nested size tree tree_in entry_at record_length furthest reserved_width depends_in some_below encode_record writer_asks supplied W.seq W.field W.table W.table_length W.elements W.one lookup count well_formed list_ok item_ok holder_ok scalar_ok values enc scalar_of unrepeated is_pad judged_of bytes_of number_judged number_bytes onto_page Text.written Display.int_fits Display.int_bytes Packed.written_of decimal_for rescaled rounded every_by
boxes-written = refl

pub boxes-plain : plain boxes [] 1 ≡ true
unfolding layout_asks checked_of words_ok entries_ok all_below entry_ok place_ok option_ok kind_ok plain_ok bool_ok float_ok edited_ok up_to spans_ok nested size tree tree_in entry_at record_length furthest reserved_width depends_in some_below unrepeated is_pad plain names_of distinct pad_ok width_ok sure group_ok each_ok in_order controls offers controlled
boxes-plain = refl

pub boxes-fit : fitting boxes [] boxed (0x61 ∷ 0x62 ∷ []) ≡ true
unfolding layout_asks checked_of words_ok entries_ok all_below entry_ok place_ok option_ok kind_ok plain_ok bool_ok float_ok edited_ok up_to spans_ok nested size tree tree_in entry_at record_length furthest reserved_width depends_in some_below unrepeated is_pad controls how_many look fitting Fit.fitted Fit.first Fit.each_fits Fit.good_of Fit.holds well_formed list_ok item_ok holder_ok scalar_ok count values scalar_of Scalar.fits_of Scalar.text_fits Scalar.digits_fit Scalar.int_fits Scalar.decimal_fits every_by
boxes-fit = refl

-- ---- 02, S-1: a packed counter D 0,2 of scale 0, and T Int 2,1, occurs 9, depending D

abbrev pub stock : List ℕ
stock = once 0 0 2 7 1 1 0 ++ entry 1 2 1 1 9 0 1 0 0 0

-- two lines
abbrev pub stocked : List ℕ
stocked = 0 ∷ 3 ∷ 2 ∷ 0 ∷ 1 ∷ 6 ∷ 2 ∷ 3 ∷ 65536 ∷ 2 ∷ 5 ∷ 0 ∷ 65536 ∷ 2 ∷ 6 ∷ 0 ∷ []

pub stock-read : decode_record stock [] 0 (0x00 ∷ 0x2C ∷ 0x35 ∷ 0x36 ∷ []) 16 0 4 ≡ decoded stocked []
unfolding layout_asks checked_of words_ok entries_ok all_below entry_ok place_ok option_ok kind_ok plain_ok bool_ok float_ok edited_ok up_to spans_ok nested size tree tree_in entry_at record_length furthest reserved_width depends_in some_below decode_record R.seq R.field R.elements R.one R.pad R.scalar R.container unrepeated is_pad controls how_many look dec says from_page every_by left_by right_by field_of Display.int_of Display.int_in Display.digits_in Display.sign_at Display.rest_of Display.whole_of Packed.decode_of
stock-read = refl

-- a minus zero counts no lines
pub none_read : decode_record stock [] 0 (0x00 ∷ 0x0D ∷ []) 16 0 4 ≡ decoded (0 ∷ 3 ∷ 0 ∷ 0 ∷ 1 ∷ 6 ∷ 0 ∷ 1 ∷ []) []
unfolding layout_asks checked_of words_ok entries_ok all_below entry_ok place_ok option_ok kind_ok plain_ok bool_ok float_ok edited_ok up_to spans_ok nested size tree tree_in entry_at record_length furthest reserved_width depends_in some_below decode_record R.seq R.field R.elements R.one R.pad R.scalar R.container unrepeated is_pad controls how_many look dec says from_page every_by left_by right_by field_of Packed.decode_of
none_read = refl

-- "Plain layouts admit it as a controller."
pub stock-plain : plain stock [] 0 ≡ true
unfolding layout_asks checked_of words_ok entries_ok all_below entry_ok place_ok option_ok kind_ok plain_ok bool_ok float_ok edited_ok up_to spans_ok nested size tree tree_in entry_at record_length furthest reserved_width depends_in some_below unrepeated is_pad plain names_of distinct pad_ok width_ok sure group_ok each_ok in_order controls offers controlled
stock-plain = refl

pub stock-fits : fitting stock [] stocked [] ≡ true
unfolding layout_asks checked_of words_ok entries_ok all_below entry_ok place_ok option_ok kind_ok plain_ok bool_ok float_ok edited_ok up_to spans_ok nested size tree tree_in entry_at record_length furthest reserved_width depends_in some_below unrepeated is_pad controls how_many look fitting Fit.fitted Fit.first Fit.each_fits Fit.good_of Fit.holds well_formed list_ok item_ok holder_ok scalar_ok count values scalar_of Scalar.fits_of Scalar.text_fits Scalar.digits_fit Scalar.int_fits Scalar.decimal_fits every_by
stock-fits = refl

-- ---- every kind: Text, Int, Binary, Float, Hex, Bool, Pad, Display, packed, zoned, Edited, and a group

abbrev pub every : List ℕ
every =
    once 0 0 3 0 0 1 0x20 ++ once 1 3 2 1 0 0 0 ++ once 2 5 2 2 0 1 0 ++ once 3 7 4 3 0 32 0 ++ once 4 11 2 4 0 0 0 ++ once 5 13 1 5 0 0 0 ++ once 6 14 2 6 0 0 0x20
    ++ once 7 16 3 7 0 2 1 ++ once 8 19 2 7 1 1 2 ++ once 9 21 3 7 2 1 0 ++ once 10 24 7 8 1 0 2 ++ entry 11 31 1 9 absent absent 2 0 0 0 ++ once 12 0 1 0 0 0 0

-- `ZZ9.99-`
abbrev pub every_mask : List ℕ
every_mask = 0x5A ∷ 0x5A ∷ 0x39 ∷ 0x2E ∷ 0x39 ∷ 0x39 ∷ 0x2D ∷ []

-- ab, 42, -2, 1.5, 12af, 1, -1.2, 1.23, -123, -12.34, and a group of an untrimmed text of one byte, 0, which is its pad too
abbrev pub every_item : List ℕ
every_item =
    0 ∷ 1 ∷ 0 ∷ 2 ∷ 1 ∷ 2 ∷ 42 ∷ 0 ∷ 2 ∷ 2 ∷ 18446744073709551614 ∷ 0 ∷ 3 ∷ 4 ∷ 0x3FF8000000000000 ∷ 0 ∷ 4 ∷ 1 ∷ 2 ∷ 4 ∷ 5 ∷ 5 ∷ 1 ∷ 0 ∷
    7 ∷ 3 ∷ 18446744073709551604 ∷ 1 ∷ 8 ∷ 3 ∷ 123 ∷ 2 ∷ 9 ∷ 3 ∷ 18446744073709551493 ∷ 0 ∷ 10 ∷ 3 ∷ 18446744073709550382 ∷ 2 ∷ 11 ∷ 7 ∷ 1 ∷ 2 ∷ 12 ∷ 1 ∷ 6 ∷ 1 ∷ []

abbrev pub every_text : List ℕ
every_text = 0x61 ∷ 0x62 ∷ 0x31 ∷ 0x32 ∷ 0x61 ∷ 0x66 ∷ 0 ∷ []

pub every-plain : plain every every_mask 1 ≡ true
unfolding layout_asks checked_of words_ok entries_ok all_below entry_ok place_ok option_ok kind_ok plain_ok bool_ok float_ok edited_ok up_to spans_ok nested size tree tree_in entry_at record_length furthest reserved_width depends_in some_below unrepeated is_pad plain names_of distinct pad_ok width_ok sure group_ok each_ok in_order controls offers controlled
every-plain = refl

pub every-fits : fitting every every_mask every_item every_text ≡ true
unfolding layout_asks checked_of words_ok entries_ok all_below entry_ok place_ok option_ok kind_ok plain_ok bool_ok float_ok edited_ok up_to spans_ok nested size tree tree_in entry_at record_length furthest reserved_width depends_in some_below unrepeated is_pad controls how_many look fitting Fit.fitted Fit.first Fit.each_fits Fit.good_of Fit.holds well_formed list_ok item_ok holder_ok scalar_ok count values scalar_of Scalar.fits_of Scalar.text_fits Scalar.hex_fits Scalar.digits_fit Scalar.int_fits Scalar.binary_fits Scalar.word_fits Scalar.decimal_fits Scalar.edited_fits Scalar.tells exact_in narrow fits is_nan to_bits nan_bits of_bits every_by Edited.count_by Edited.lawful_from
every-fits = refl
