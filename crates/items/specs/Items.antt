-- "Value list": "Items of four 64-bit words, depth first: name (65536 for list elements), tag, and two words".
use Rattle.std.specs.Prelude.{Bool, true, false, ◌&&◌, ◌||◌, cond, List, [], ◌∷◌, ◌++◌, ℕ, zero, suc, ◌+◌, ◌-◌, ◌*◌, ◌/◌, ◌%◌, ltb, leb, eqb, min, length, get_or, take, drop}
use Rattle.codes.specs.Codes.{tag_null, tag_text, tag_int, tag_decimal, tag_float, tag_bool, tag_list, tag_struct, element}
use Rattle.items.specs.declared.Item.{Item}
use Rattle.spans.specs.Tree.{Tree, none, node, tree, size}
use Rattle.value.specs.Digits.{limit}
use Rattle.value.specs.Word.{size_in}
use Rattle.value.specs.declared.Scalar.{Scalar}
use Rattle.value.specs.declared.Scalar.TheVariants.{Null}
use Rattle.value.specs.Scalar.{tag_of, first_of, second_of, scalar_of}

-- "Items of four 64-bit words": this file alone knows which they are
abbrev pub item_words : ℕ
item_words = 4

abbrev pub words_of : Item → List ℕ
words_of it = it.name ∷ it.tag ∷ it.a ∷ it.b ∷ []

-- the i-th item; words past the end are 0
abbrev pub item_at : List ℕ → ℕ → Item
item_at v i = record {
  name = get_or v (i * item_words) 0;
  tag = get_or v (i * item_words + 1) 0;
  a = get_or v (i * item_words + 2) 0;
  b = get_or v (i * item_words + 3) 0;
}

-- how many items so many words are
abbrev pub item_count : List ℕ → ℕ
item_count v = length v / item_words

-- the item of a scalar, and the scalar of an item
abbrev pub item_of : ℕ → Scalar → Item
item_of name v = record { name = name; tag = tag_of v; a = first_of v; b = second_of v }

abbrev pub scalar_in : Item → Scalar
scalar_in it = scalar_of it.tag it.a it.b

-- the item of a List or Struct: "member count and span, itself counted"
abbrev pub header : ℕ → ℕ → ℕ → ℕ → Item
header name tag members span = record { name = name; tag = tag; a = members; b = span }

-- the bytes of a Text item in its text buffer; no other item has any
abbrev pub text_of : List ℕ → Item → List ℕ
text_of source it = cond (eqb it.tag tag_text) (take it.b (drop it.a source)) []

-- where they start: at the buffer's end where the item says a place behind it
abbrev pub text_start : List ℕ → Item → ℕ
text_start source it = cond (eqb it.tag tag_text) (min it.a (length source)) 0

-- "6 is List, 7 Struct": these have members
abbrev pub holds : ℕ → Bool
holds tag = eqb tag tag_list || eqb tag tag_struct

-- "List or Struct member count and span, itself counted"; any other item stands alone
abbrev pub span_of : Item → ℕ
span_of it = cond (holds it.tag) it.b 1

-- A sequence of items, each with its members.
abbrev pub Values : Type 0
Values = Tree Item

-- the items lo up to hi of a list
unfoldable pub values : List ℕ → ℕ → ℕ → Values
values v lo hi = tree (item_at v) span_of lo hi

-- "Null 0, 0"
abbrev pub null_ok : ℕ → ℕ → Bool
null_ok a b = eqb a 0 && eqb b 0

-- "Text start and length in a text buffer"
abbrev pub text_ok : ℕ → ℕ → ℕ → Bool
text_ok text_bytes a b = leb (a + b) text_bytes

-- "Int two's complement, 0", "Float bits, 0"
abbrev pub word_ok : ℕ → Bool
word_ok b = eqb b 0

-- "Decimal unscaled (below 10^18 in size), scale 0..18"
abbrev pub decimal_ok : ℕ → ℕ → Bool
decimal_ok a b = ltb (size_in a) limit && leb b 18

-- "Bool 0/1, 0"
abbrev pub bool_ok : ℕ → ℕ → Bool
bool_ok a b = leb a 1 && eqb b 0

-- "a scalar is Null, Text, Int, Decimal, Float or Bool (tags 0 to 5)"
unfoldable pub scalar_ok : ℕ → Item → Bool
scalar_ok text_bytes it =
    cond (eqb it.tag tag_null) (null_ok it.a it.b)
    (cond (eqb it.tag tag_text) (text_ok text_bytes it.a it.b)
    (cond (eqb it.tag tag_int) (word_ok it.b)
    (cond (eqb it.tag tag_decimal) (decimal_ok it.a it.b)
    (cond (eqb it.tag tag_float) (word_ok it.b)
    (cond (eqb it.tag tag_bool) (bool_ok it.a it.b)
    false)))))

-- "name (65536 for list elements)": any other name is at most 65535
abbrev pub name_ok : Bool → ℕ → Bool
name_ok in_list name = cond in_list (eqb name element) (leb name 65535)

-- "List or Struct member count and span, itself counted": so many members, and so many items below it
unfoldable pub holder_ok : Item → ℕ → ℕ → Bool
holder_ok it members below = holds it.tag && eqb it.a members && eqb it.b (suc below)

-- Whether an item is lawful where it stands.
unfoldable pub item_ok : ℕ → Bool → Item → ℕ → ℕ → Bool
item_ok text_bytes in_list it members below = name_ok in_list it.name && (scalar_ok text_bytes it || holder_ok it members below)

-- how many items a sequence has at its own level
unfoldable pub count : Values → ℕ
count none = 0
count (node it members rest) = suc (count rest)

-- Whether every item of a sequence is lawful, in at most so many levels.
unfoldable pub list_ok : ℕ → Bool → ℕ → Values → Bool
list_ok text_bytes in_list levels none = true
list_ok text_bytes in_list zero (node it members rest) = false
list_ok text_bytes in_list (suc levels) (node it members rest) =
    item_ok text_bytes in_list it (count members) (size members) && list_ok text_bytes (eqb it.tag tag_list) levels members && list_ok text_bytes in_list (suc levels) rest

-- "Depth is at most 16"
abbrev pub depth : ℕ
depth = 16

-- Question 11: the words are whole items, and these are lawful; at the top they are no elements of a List.
unfoldable pub well_formed : List ℕ → ℕ → Bool
well_formed items text_bytes = eqb (length items % item_words) 0 && list_ok text_bytes false depth (values items 0 (item_count items))

-- A value is the suffix of its sequence that begins with it: its item, a Null where there is none,
abbrev pub head_of : Values → Item
head_of none = item_of 0 Null
head_of (node it members rest) = it

-- its members,
abbrev pub members_of : Values → Values
members_of none = none
members_of (node it members rest) = members

-- and what stands behind it
abbrev pub rest_of : Values → Values
rest_of none = none
rest_of (node it members rest) = rest

-- the suffix from the first item of a name on; none where no item has it
unfoldable pub lookup : ℕ → Values → Values
lookup name none = none
lookup name (node it members rest) = cond (eqb it.name name) (node it members rest) (lookup name rest)

-- whether there is no value
abbrev pub missing : Values → Bool
missing none = true
missing (node it members rest) = false

-- where that suffix of the items lo up to hi starts; hi where no item has the name
abbrev pub place_of : List ℕ → ℕ → ℕ → ℕ → ℕ
place_of v name lo hi = hi - size (lookup name (values v lo hi))

-- the words of a sequence of items, each before its members
abbrev pub flat : Values → List ℕ
flat none = []
flat (node it members rest) = words_of it ++ (flat members ++ flat rest)
