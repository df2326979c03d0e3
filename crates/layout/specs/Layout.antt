-- "The layout is a lent run of 32-bit words, twelve an entry, 0 to 512 entries, depth first."
use Rattle.std.specs.Prelude.{Bool, true, false, ◌&&◌, ◌||◌, not, cond, List, ℕ, zero, suc, ◌+◌, ◌*◌, ◌/◌, ◌%◌, max, eqb, leb, length, get_or}
use Rattle.codes.specs.Codes.{kind_text, kind_int, kind_binary, kind_float, kind_hex, kind_bool, kind_pad, kind_decimal, kind_edited, kind_group}
use Rattle.layout.specs.declared.Entry.{Entry}
pub use Rattle.codes.specs.Codes.{absent}
use Rattle.spans.specs.Tree.{Tree, none, node, tree, nested}

abbrev pub present : ℕ → Bool
present n = not (eqb n absent)

-- the i-th entry; a word past the layout's end is 0
unfoldable pub entry_at : List ℕ → ℕ → Entry
entry_at l i = record {
  name = get_or l (i * 12) 0;
  offset = get_or l (i * 12 + 1) 0;
  width = get_or l (i * 12 + 2) 0;
  kind = get_or l (i * 12 + 3) 0;
  occurs = get_or l (i * 12 + 4) 0;
  depending = get_or l (i * 12 + 5) 0;
  span = get_or l (i * 12 + 6) 0;
  p = get_or l (i * 12 + 7) 0;
  q = get_or l (i * 12 + 8) 0;
  r = get_or l (i * 12 + 9) 0;
  s = get_or l (i * 12 + 10) 0;
  mask = get_or l (i * 12 + 11) 0;
}

abbrev pub entry_count : List ℕ → ℕ
entry_count l = length l / 12

abbrev pub span_of : Entry → ℕ
span_of e = e.span

-- "members only in groups": kind 9 is Group
abbrev pub is_group : Entry → Bool
is_group e = eqb e.kind kind_group

-- "Pads yield no item": kind 6 is Pad
unfoldable pub is_pad : Entry → Bool
is_pad e = eqb e.kind kind_pad

-- "unrepeated: occurs and depending absent"
unfoldable pub unrepeated : Entry → Bool
unrepeated e = not (present e.occurs) && not (present e.depending)

-- an unrepeated scalar or Pad
abbrev pub unrepeated_leaf : Entry → Bool
unrepeated_leaf e = unrepeated e && not (is_group e)

-- What controls a table: "An unrepeated Int or Binary sets the count for its name."
-- 02, S-1: "An unrepeated Decimal of scale 0 now sets the count for its name, in all three forms."
abbrev pub holds_count : ℕ → ℕ → Bool
holds_count kind scale = eqb kind kind_int || eqb kind kind_binary || (eqb kind kind_decimal && eqb scale 0)

unfoldable pub controls : Entry → Bool
controls e = unrepeated e && holds_count e.kind e.r

-- the entries lo up to hi as a tree, and all of them
abbrev pub part : List ℕ → ℕ → ℕ → Tree Entry
part l lo hi = tree (entry_at l) span_of lo hi

abbrev pub entries : List ℕ → Tree Entry
entries l = part l 0 (entry_count l)

-- a test of the numbers below n: it holds of each, and of one
unfoldable pub all_below : (ℕ → Bool) → ℕ → Bool
all_below f zero = true
all_below f (suc n) = all_below f n && f n

unfoldable pub some_below : (ℕ → Bool) → ℕ → Bool
some_below f zero = false
some_below f (suc n) = some_below f n || f n

-- Question 1. "Word count and page lawful?" Page: 0 ASCII, 1 EBCDIC.
unfoldable pub words_ok : List ℕ → ℕ → Bool
words_ok l page = eqb (length l % 12) 0 && leb (entry_count l) 512 && leb page 1

-- Question 2. "Every entry's words in range?" p, q, r and s by kind, each from 0 to a greatest value; "unused words are 0".
unfoldable pub up_to : Entry → ℕ → ℕ → ℕ → ℕ → Bool
up_to e p q r s = leb e.p p && leb e.q q && leb e.r r && leb e.s s

-- a kind that has no mask
unfoldable pub plain_ok : Entry → ℕ → ℕ → ℕ → ℕ → Bool
plain_ok e p q r s = up_to e p q r s && eqb e.mask 0

-- Float: "p order, q bits 16/32/64, width bits/8"
unfoldable pub float_ok : Entry → Bool
float_ok e = plain_ok e 1 64 0 0 && (eqb e.q 16 || eqb e.q 32 || eqb e.q 64) && eqb (e.width * 8) e.q

-- Bool: "width from 1"
unfoldable pub bool_ok : Entry → Bool
bool_ok e = plain_ok e 0 0 0 0 && leb 1 e.width

-- Edited: "p signed 0/1, r scale 0..18; mask as long as width, inside its slice"
unfoldable pub edited_ok : Entry → ℕ → Bool
edited_ok e masks = up_to e 1 0 18 0 && leb (e.mask + e.width) masks

unfoldable pub kind_ok : ℕ → Entry → ℕ → Bool
kind_ok kind e masks =
    -- Text: "p right-justified 0/1, q trim 0/1, r pad byte"
    cond (eqb kind kind_text) (plain_ok e 1 1 255 0)
    -- Int: "p signed 0/1, q sign"
    (cond (eqb kind kind_int) (plain_ok e 1 3 0 0)
    -- Binary: "p order, q signed 0/1"
    (cond (eqb kind kind_binary) (plain_ok e 1 1 0 0)
    (cond (eqb kind kind_float) (float_ok e)
    -- Hex: "p order"
    (cond (eqb kind kind_hex) (plain_ok e 1 0 0 0)
    (cond (eqb kind kind_bool) (bool_ok e)
    -- Pad: "r pad byte"
    (cond (eqb kind kind_pad) (plain_ok e 0 0 255 0)
    -- Decimal: "p 0 Display 1 Comp3 2 Zoned, q sign, r scale 0..18, s precision 0..38"
    (cond (eqb kind kind_decimal) (plain_ok e 2 3 18 38)
    (cond (eqb kind kind_edited) (edited_ok e masks)
    -- Group: "none"
    (cond (eqb kind kind_group) (plain_ok e 0 0 0 0)
    false)))))))))

-- "name (number 0..65535 ..)"; "Offset, width, occurs are 0..65535"
abbrev pub number_ok : ℕ → Bool
number_ok n = leb n 65535

-- "occurs and depending may be 4294967295, absent"
unfoldable pub option_ok : ℕ → Bool
option_ok n = leb n 65535 || eqb n absent

unfoldable pub place_ok : Entry → Bool
place_ok e = number_ok e.name && number_ok e.offset && number_ok e.width && option_ok e.occurs && option_ok e.depending

-- an entry's words, but for its span, with so many mask bytes
unfoldable pub entry_ok : Entry → ℕ → Bool
entry_ok e masks = place_ok e && kind_ok e.kind e masks

unfoldable pub entries_ok : List ℕ → ℕ → Bool
entries_ok l masks = all_below (λ i. entry_ok (entry_at l i) masks) (entry_count l)

-- Question 3. "Spans, levels, members only in groups?" "Subtrees nest to at most 8 levels."
unfoldable pub spans_ok : List ℕ → Bool
spans_ok l = nested span_of is_group 8 (entries l)

-- 0, or the number of the first question that fails; 2 is asked of every entry before 3 of any
unfoldable pub checked_of : List ℕ → List ℕ → ℕ → ℕ
checked_of l masks page =
    cond (words_ok l page)
    (cond (entries_ok l (length masks))
    (cond (spans_ok l) 0 3) 2) 1

-- "work space of two 64-bit words an entry"
abbrev pub work_for : List ℕ → ℕ
work_for l = entry_count l * 2

-- The questions that reader and writer ask of their layout first, with so many words of work space: 1, 2, 3, then "work space ..? Else 16"; 0 where all are passed.
unfoldable pub layout_asks : List ℕ → List ℕ → ℕ → ℕ → ℕ
layout_asks l masks page work =
    cond (eqb (checked_of l masks page) 0) (cond (leb (work_for l) work) 0 16) (checked_of l masks page)

-- "width × occurs, occurs absent counting 1, or 0 under depending: its reserved bytes"
abbrev pub times : Entry → ℕ
times e = cond (eqb e.occurs absent) 1 e.occurs

unfoldable pub reserved_width : Entry → ℕ
reserved_width e = cond (present e.depending) 0 (e.width * times e)

-- "The record length, greatest top-level offset + reserved bytes"
unfoldable pub furthest : Tree Entry → ℕ
furthest none = 0
furthest (node e members rest) = max (e.offset + reserved_width e) (furthest rest)

unfoldable pub record_length : List ℕ → ℕ
record_length l = furthest (entries l)

-- whether some entry, at any depth, is under depending
unfoldable pub depends_in : List ℕ → Bool
depends_in l = some_below (λ i. present (entry_at l i).depending) (entry_count l)
