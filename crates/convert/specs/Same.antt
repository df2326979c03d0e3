-- 02, S-8: "every item of such a name reads back equal to the first of that name in the old: Ints and Decimals as exact decimals, texts by their bytes,
-- Bools as Bools, lists and structs member by member in order, names too, a Float only to a Float of the same bits and never NaN."
use Rattle.std.specs.Prelude.{Bool, true, false, ◌&&◌, ◌||◌, not, cond, List, ℕ, ◌*◌, ◌^◌, eqb, length, take, drop}
use Rattle.std.specs.Float.{binary64}
use Rattle.std.specs.Float.Ieee.{nan_bits}
use Rattle.codes.specs.Codes.{tag_null, tag_text, tag_int, tag_decimal, tag_float, tag_bool}
use Rattle.items.specs.declared.Item.{Item}
use Rattle.items.specs.Items.{Values, holds, text_ok, lookup}
use Rattle.spans.specs.Tree.{none, node}
use Rattle.value.specs.Word.{minus_in, size_in}
use Rattle.walks.specs.Decide.{same}

-- ---- "Ints and Decimals as exact decimals"

-- a decimal: size / 10^scale, less than 0 where there is a minus
pub record Exact : Type 0 where
  pub minus : Bool
  pub size : ℕ
  pub scale : ℕ

abbrev pub exact : Bool → ℕ → ℕ → Exact
exact minus size scale = record { minus = minus; size = size; scale = scale }

-- the decimal of a Decimal item, or of an Int, whose scale is 0
unfoldable pub exact_in : Item → Exact
exact_in x = exact (minus_in x.a) (size_in x.a) (cond (eqb x.tag tag_decimal) x.b 0)

abbrev pub same_bool : Bool → Bool → Bool
same_bool true b = b
same_bool false b = not b

-- x / 10^k is y / 10^m
abbrev pub same_size : ℕ → ℕ → ℕ → ℕ → Bool
same_size x k y m = eqb (x * 10 ^ m) (y * 10 ^ k)

unfoldable pub same_decimal : Exact → Exact → Bool
same_decimal x y = same_bool x.minus y.minus && same_size x.size x.scale y.size y.scale

abbrev pub is_number : ℕ → Bool
is_number tag = eqb tag tag_int || eqb tag tag_decimal

-- ---- "texts by their bytes"

-- of start and length in a buffer each; a text that is not inside its buffer is the same as no other
unfoldable pub same_text : List ℕ → ℕ → ℕ → List ℕ → ℕ → ℕ → Bool
same_text t a n u b m = text_ok (length t) a n && text_ok (length u) b m && same (take n (drop a t)) (take m (drop b u))

-- ---- "a Float only to a Float of the same bits and never NaN"

unfoldable pub same_float : ℕ → ℕ → Bool
same_float a b = eqb a b && not (nan_bits binary64 a)

-- ---- items

-- two items of one tag that are no numbers: of a List or Struct the member count
unfoldable pub same_kind : List ℕ → List ℕ → Item → Item → Bool
same_kind t u x y =
    cond (eqb x.tag tag_null) true
    (cond (eqb x.tag tag_text) (same_text t x.a x.b u y.a y.b)
    (cond (eqb x.tag tag_float) (same_float x.a y.a)
    (cond (eqb x.tag tag_bool || holds x.tag) (eqb x.a y.a)
    false)))

-- two items, each with the buffer of its texts, without names and members; an Int and a Decimal may be the same, items of any other two tags are not
unfoldable pub same_item : List ℕ → List ℕ → Item → Item → Bool
same_item t u x y =
    cond (is_number x.tag && is_number y.tag) (same_decimal (exact_in x) (exact_in y))
    (eqb x.tag y.tag && same_kind t u x y)

-- two sequences: "member by member in order, names too"
unfoldable pub same_all : List ℕ → List ℕ → Values → Values → Bool
same_all t u none none = true
same_all t u none (node y ns s) = false
same_all t u (node x ms r) none = false
same_all t u (node x ms r) (node y ns s) = eqb x.name y.name && same_item t u x y && same_all t u ms ns && same_all t u r s

-- two values, each the suffix of its sequence that begins with it; no value is the same as none
unfoldable pub same_value : List ℕ → List ℕ → Values → Values → Bool
same_value t u none ws = false
same_value t u (node x ms r) none = false
same_value t u (node x ms r) (node y ns s) = eqb x.name y.name && same_item t u x y && same_all t u ms ns

-- every item of a list is the same as the first of its name in the old one
unfoldable pub all_kept : List ℕ → List ℕ → Values → Values → Bool
all_kept t u old none = true
all_kept t u old (node y ns s) = same_value t u (lookup y.name old) (node y ns s) && all_kept t u old s
