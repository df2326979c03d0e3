-- 02, S-2: "two top-level unrepeated Decimals of equal scale, given by entry number from 0". The number counts all entries of the layout, depth first.
use Rattle.std.specs.Prelude.{ℕ, zero, suc, ◌+◌, ◌-◌, Bool, true, false, cond, not, ◌&&◌, List, ◌==◌, nat_le}
use Rattle.codes.specs.Codes.{kind_decimal}
use Rattle.layout.specs.declared.Entry.{Entry}
use Rattle.layout.specs.Layout.{is_pad, unrepeated, entry_at, entries}
use Rattle.spans.specs.Tree.{Tree, none, node, size}
use Rattle.items.specs.Items.{Values, item_count, values, head_of, rest_of}
use Rattle.window.specs.Window.{Pair, pair}

-- whether the entry of a number stands at the top level
unfoldable pub is_top : Tree Entry → ℕ → Bool
is_top none i = false
is_top (node e members rest) zero = true
is_top (node e members rest) (suc i) = nat_le (size members) i && is_top rest (i - size members)

-- an entry of the top level yields one item there; "Pads yield no item"
abbrev pub items_for : Entry → ℕ
items_for e = cond (is_pad e) 0 1

-- how many items of the top level stand before that of the entry of a number
unfoldable pub items_before : Tree Entry → ℕ → ℕ
items_before none i = 0
items_before (node e members rest) zero = 0
items_before (node e members rest) (suc i) = items_for e + items_before rest (i - size members)

unfoldable pub is_summable : Entry → Bool
is_summable e = unrepeated e && e.kind == kind_decimal

-- one of the two entries
unfoldable pub summed : List ℕ → ℕ → Bool
summed l i = is_top (entries l) i && is_summable (entry_at l i)

-- the scale of the Decimal entry of a number
abbrev pub scale_at : List ℕ → ℕ → ℕ
scale_at l i = (entry_at l i).r

-- "such a pair of different entries"
unfoldable pub pair_ok : List ℕ → ℕ → ℕ → Bool
pair_ok l first second =
    summed l first && summed l second && scale_at l first == scale_at l second && not (first == second)

-- Question 18. "W is outside 1 to 4,096 or the entries are not such a pair of different entries"; S-7: "a display scale below its entries' scale (any other is refused
-- with 18)", given as a display word: 0 for none, else that scale plus 1
unfoldable pub pair_asks : List ℕ → ℕ → ℕ → ℕ → ℕ → ℕ
pair_asks l w first second display = cond (nat_le 1 w && nat_le w 4096 && pair_ok l first second && nat_le display (scale_at l first)) 0 18

-- the values of a sequence from the k-th on
unfoldable pub values_from : ℕ → Values → Values
values_from zero vs = vs
values_from (suc k) vs = values_from k (rest_of vs)

-- the number of a list's k-th item at the top level, word three of it: of a Decimal the unscaled one; 0 where there is none
unfoldable pub word_at : ℕ → List ℕ → ℕ
word_at k ws = (head_of (values_from k (values ws 0 (item_count ws)))).a

-- the pair that a list read by a layout gives: each entry's own item, by its place and never by its name
unfoldable pub pair_in : List ℕ → ℕ → ℕ → List ℕ → Pair ℕ
pair_in l first second ws = pair (word_at (items_before (entries l) first) ws) (word_at (items_before (entries l) second) ws)
