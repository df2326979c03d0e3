-- "A list needs the greatest of 0, the record length and the ends of all scalars and Pads when the walk goes by the list's table lengths."
use Rattle.std.specs.Prelude.{cond, List, ℕ, zero, suc, ◌+◌, ◌-◌, max}
use Rattle.layout.specs.declared.Entry.{Entry}
use Rattle.layout.specs.Layout.{is_group, is_pad, unrepeated, reserved_width, entries, record_length}
use Rattle.spans.specs.Tree.{Tree, none, node}
use Rattle.items.specs.Items.{Values, item_count, values, count, members_of, rest_of, lookup}

-- the bytes that a part of the walk takes, and the furthest end of its scalars and Pads
pub record Extent : Type 0 where
  pub taken : ℕ
  pub far : ℕ

-- the extent of a value at a position
abbrev pub Measure : Type 0
Measure = Values → ℕ → Extent

abbrev pub nothing : Extent
nothing = record { taken = 0; far = 0 }

abbrev pub then_element : Extent → Extent → Extent
then_element x y = record { taken = x.taken + y.taken; far = max x.far y.far }

abbrev pub then_entry : ℕ → Extent → Extent → Extent
then_entry stop x y = record { taken = max stop y.taken; far = max x.far y.far }

unfoldable pub one : Entry → Measure → Measure
one e inner vs at = cond (is_group e) (inner (members_of vs) at) (record { taken = e.width; far = at + e.width })

unfoldable pub elements : Measure → ℕ → Measure
elements f zero vs at = nothing
elements f (suc n) vs at = then_element (f vs at) (elements f n (rest_of vs) (at + (f vs at).taken))

-- a list's table length; a table of Pads has no list
unfoldable pub long : Entry → Values → ℕ
long e vs = cond (is_pad e) e.occurs (count (members_of vs))

unfoldable pub field : Entry → Measure → Measure
field e inner vs at = cond (unrepeated e) (one e inner vs at) (elements (one e inner) (long e vs) (members_of vs) at)

-- an entry's extent, and the rest of the sequence by the bytes that the entry takes
abbrev pub entry_then : ℕ → Extent → (ℕ → Extent) → Extent
entry_then at x rest = then_entry (at + x.taken) x (rest x.taken)

unfoldable pub seq : Tree Entry → Values → ℕ → ℕ → Extent
seq none all base shift = nothing
seq (node e members rest) all base shift =
    entry_then (e.offset + shift) (field e (λ vs base'. seq members vs base' 0) (lookup e.name all) (base + (e.offset + shift)))
    (λ t. seq rest all base (shift + (t - reserved_width e)))

unfoldable pub needed : List ℕ → List ℕ → ℕ
needed l items = max (record_length l) (seq (entries l) (values items 0 (item_count items)) 0 0).far
