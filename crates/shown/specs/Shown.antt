-- "`show` reads layout.txt and record.bin, prints name (first spelling), kind, value lines".
use Rattle.std.specs.Borrow.{Bor}
use Rattle.std.specs.Prelude.{ℕ, zero, suc, Option, Some, None, Bool, true, false, ◌&&◌, ◌||◌, not, cond, List, [], ◌∷◌, ◌++◌, eqb, leb, ltb, length, take, drop}
use Rattle.codes.specs.Codes.{tag_null, tag_text, tag_int, tag_decimal, tag_float, tag_bool, tag_list, tag_struct, element}
use Rattle.value.specs.Digits.{spread}
use Rattle.value.specs.declared.Scalar.{Scalar}
use Rattle.value.specs.declared.Scalar.TheVariants.{Int}
use Rattle.binary.specs.Bytes.{bytes_of}
use Rattle.hex_field.specs.Hex.{hex_of}
use Rattle.text.specs.Shown.{Shows, shows, none, shown_of}
use Rattle.items.specs.declared.Item.{Item}
use Rattle.items.specs.Items.{scalar_in, item_count, item_at}
use Rattle.layout_text.specs.Form.{name_word, kind_word}
use Rattle.layout_text.specs.Reading as L
use Rattle.walks.specs.Records.{most, Decoded, refused, decode_record, number_of, items_of, texts_of}

-- `value=` and `refused=`; `name=` and `kind=` are those of a layout's text
abbrev pub value_word : List ℕ
value_word = 0x76 ∷ 0x61 ∷ 0x6C ∷ 0x75 ∷ 0x65 ∷ 0x3D ∷ []

abbrev pub refused_word : List ℕ
refused_word = 0x72 ∷ 0x65 ∷ 0x66 ∷ 0x75 ∷ 0x73 ∷ 0x65 ∷ 0x64 ∷ 0x3D ∷ []

-- the end of a line
abbrev pub ended : List ℕ
ended = 0x0A ∷ []

-- ---- values

-- "text other than 0x20-0x7E and backslash as backslash and two such digits"
abbrev pub is_plain : ℕ → Bool
is_plain b = leb 0x20 b && (leb b 0x7E && not (eqb b 0x5C))

abbrev pub escape : ℕ → List ℕ
escape b = cond (is_plain b) (b ∷ []) (0x5C ∷ hex_of 0 (b ∷ []))

unfoldable pub escaped : List ℕ → List ℕ
escaped s = spread escape s

-- a number's text, a Decimal's with its point; a Null, and whatever has no such text, shows nothing
abbrev pub text_of : Shows → List ℕ
text_of (shows t) = t
text_of none = []

unfoldable pub number_text : Scalar → List ℕ
number_text v = text_of (shown_of v)

-- "float 16 lower-case hex digits": the eight bytes of its bits, the highest first
unfoldable pub float_text : ℕ → List ℕ
float_text w = hex_of 0 (bytes_of 0 8 w)

-- "List and struct show member counts, bool 0/1": the item's third word, which has no sign
abbrev pub counted : ℕ → Bool
counted tag = leb tag_bool tag && leb tag tag_struct

abbrev pub number_in : Item → Scalar
number_in it = cond (counted it.tag) (Int false it.a) (scalar_in it)

unfoldable pub value_of : List ℕ → Item → List ℕ
value_of text it =
    cond (eqb it.tag tag_text) (escaped (take it.b (drop it.a text)))
    (cond (eqb it.tag tag_float) (float_text it.a)
    (number_text (number_in it)))

-- ---- kinds: "Null, Text, Int, Decimal, Float or Bool (tags 0 to 5); 6 is List, 7 Struct"

unfoldable pub kind_name : ℕ → List ℕ
kind_name tag =
    cond (eqb tag tag_null) (0x6E ∷ 0x75 ∷ 0x6C ∷ 0x6C ∷ [])
    (cond (eqb tag tag_text) (0x74 ∷ 0x65 ∷ 0x78 ∷ 0x74 ∷ [])
    (cond (eqb tag tag_int) (0x69 ∷ 0x6E ∷ 0x74 ∷ [])
    (cond (eqb tag tag_decimal) (0x64 ∷ 0x65 ∷ 0x63 ∷ 0x69 ∷ 0x6D ∷ 0x61 ∷ 0x6C ∷ [])
    (cond (eqb tag tag_float) (0x66 ∷ 0x6C ∷ 0x6F ∷ 0x61 ∷ 0x74 ∷ [])
    (cond (eqb tag tag_bool) (0x62 ∷ 0x6F ∷ 0x6F ∷ 0x6C ∷ [])
    (cond (eqb tag tag_list) (0x6C ∷ 0x69 ∷ 0x73 ∷ 0x74 ∷ [])
    (cond (eqb tag tag_struct) (0x73 ∷ 0x74 ∷ 0x72 ∷ 0x75 ∷ 0x63 ∷ 0x74 ∷ [])
    [])))))))

-- ---- names: "first spelling"; "65536 for list elements", which have none

unfoldable pub name_of : List ℕ → ℕ → List ℕ
name_of layout name = cond (ltb name element) (L.spelling layout name) []

-- ---- an item's lines, and those of a list, item after item

abbrev pub name_line : List ℕ → Item → List ℕ
name_line layout it = name_word ++ (name_of layout it.name ++ ended)

abbrev pub kind_line : Item → List ℕ
kind_line it = kind_word ++ (kind_name it.tag ++ ended)

abbrev pub value_line : List ℕ → Item → List ℕ
value_line text it = value_word ++ (value_of text it ++ ended)

unfoldable pub lines_of : List ℕ → List ℕ → Item → List ℕ
lines_of layout text it = name_line layout it ++ (kind_line it ++ value_line text it)

-- n items from the k-th on
unfoldable pub listed_from : List ℕ → List ℕ → List ℕ → ℕ → ℕ → List ℕ
listed_from layout items text zero k = []
listed_from layout items text (suc n) k = lines_of layout text (item_at items k) ++ listed_from layout items text n (suc k)

abbrev pub listed : List ℕ → List ℕ → List ℕ → List ℕ
listed layout items text = listed_from layout items text (item_count items) 0

-- "a refusal is `refused=` and number"
unfoldable pub refused_text : ℕ → List ℕ
refused_text number = refused_word ++ (number_text (Int false number) ++ ended)

-- ---- the whole: "no buffer above 65,536 bytes, else 4 for the record, 16 for the rest"

-- so many layout words, item words and words of work space
abbrev pub layout_words : ℕ
layout_words = 6144

abbrev pub item_room : ℕ
item_room = 8192

abbrev pub work_words : ℕ
work_words = 1024

-- a file that has more bytes than the ones given, or more than a buffer holds, is too long
abbrev pub too_long : List ℕ → Bool → Bool
too_long bytes more = more || ltb most (length bytes)

-- what reading says of a record, by what reading its layout's text said
unfoldable pub answer_by : L.Read → List ℕ → Bool → Decoded
answer_by (L.refused n) bytes more = refused n
answer_by (L.read page words masks) bytes more = cond (too_long bytes more) (refused 4) (decode_record words masks page bytes item_room most work_words)

-- the layout's questions first, then the record's
unfoldable pub answer : List ℕ → Bool → List ℕ → Bool → Decoded
answer layout layout_more bytes more = cond (too_long layout layout_more) (refused 16) (answer_by (L.read_of layout layout_words most) bytes more)

-- "A call that refuses returns its number", which is never 0
unfoldable pub printed : List ℕ → Decoded → List ℕ
printed layout d = cond (eqb (number_of d) 0) (listed layout (items_of d) (texts_of d)) (refused_text (number_of d))

-- what `show` prints of the two files: of each the bytes, and whether it has more
unfoldable pub shown : List ℕ → Bool → List ℕ → Bool → List ℕ
shown layout layout_more bytes more = printed layout (answer layout layout_more bytes more)

-- a file as it is handed over: its bytes, or that it has more than a buffer holds
abbrev pub bytes_in : Option (Bor (List ℕ)) → List ℕ
bytes_in (Some bytes) = bytes.now
bytes_in None = []

abbrev pub more_in : Option (Bor (List ℕ)) → Bool
more_in (Some bytes) = false
more_in None = true

abbrev pub shown_files : Option (Bor (List ℕ)) → Option (Bor (List ℕ)) → List ℕ
shown_files layout bytes = shown (bytes_in layout) (more_in layout) (bytes_in bytes) (more_in bytes)

-- ---- a piece of it: at most so many bytes from a place on

abbrev pub piece : ℕ → ℕ → List ℕ → List ℕ
piece at room bytes = take room (drop at bytes)
