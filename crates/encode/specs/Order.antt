-- Entries that are written at once; and items that stand in the entries' order, which are found at once.
use Rattle.std.specs.Prelude.{◌≡◌, Bool, false, not, ◌&&◌, cond, ℕ, ◌≤◌, eqb, leb}
use Rattle.spans.specs.Tree.{none, node}
use Rattle.layout.specs.declared.Entry.{Entry}
use Rattle.layout.specs.Layout.{is_group, unrepeated, is_pad}
use Rattle.items.specs.Items.{Values, lookup}

-- an entry that is no group and no table, and has no members
unfoldable pub lone : Entry → Bool
lone e = not (is_group e) && (unrepeated e && leb e.span 1)

-- the items from an entry's own on: the first of its name; a Pad that is no table has none
unfoldable pub value_of : Entry → Values → Values
value_of e all = cond (is_pad e && unrepeated e) none (lookup e.name all)

-- whether the first of these items has the name
abbrev pub heads : ℕ → Values → Bool
heads name none = false
heads name (node it members rest) = eqb it.name name

-- the items from an entry's own on: these, if the first has its name, or else those of the whole list from the first of the name on; a Pad has none
abbrev pub sought : Entry → Values → Values → Values
sought e vs all = cond (is_pad e) vs (cond (heads e.name vs) vs (lookup e.name all))

-- no item of all in front of the rest has a name from `low` on
abbrev pub Ahead : Values → Values → ℕ → Type 0
Ahead all rest low = (name : ℕ) → low ≤ name → lookup name all ≡ lookup name rest
