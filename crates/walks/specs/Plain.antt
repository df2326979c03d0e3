-- "Plain layouts", clause by clause.
use Rattle.std.specs.Prelude.{Bool, true, false, ◌&&◌, ◌||◌, not, cond, List, [], ◌∷◌, ◌++◌, ℕ, ◌+◌, eqb, leb}
use Rattle.codes.specs.Codes.{kind_binary, kind_bool}
use Rattle.layout.specs.declared.Entry.{Entry}
use Rattle.layout.specs.Layout.{is_group, is_pad, unrepeated, unrepeated_leaf, controls, present, reserved_width, checked_of, entries}
use Rattle.spans.specs.Tree.{Tree, none, node}

abbrev pub is_in : ℕ → List ℕ → Bool
is_in x [] = false
is_in x (y ∷ ys) = eqb x y || is_in x ys

-- "names distinct": the names of all entries
unfoldable pub names_of : Tree Entry → List ℕ
names_of none = []
names_of (node e members rest) = e.name ∷ names_of members ++ names_of rest

unfoldable pub distinct : List ℕ → Bool
distinct [] = true
distinct (x ∷ xs) = not (is_in x xs) && distinct xs

-- "no Pad itself under depending"
unfoldable pub pad_ok : Entry → Bool
pad_ok e = not (is_pad e && present e.depending)

-- "widths of non-groups from 1, Bool 1, Binary to 8"
unfoldable pub width_ok : Entry → Bool
width_ok e = is_group e || (leb 1 e.width && (not (eqb e.kind kind_bool) || leb e.width 1) && (not (eqb e.kind kind_binary) || leb e.width 8))

abbrev pub some : Tree Entry → Bool
some none = false
some (node e members rest) = true

-- an unrepeated entry that is no group
unfoldable pub sure : Tree Entry → Bool
sure none = false
sure (node e members rest) = unrepeated_leaf e || sure rest

-- "groups have members, a repeated group an unrepeated non-group one"
unfoldable pub group_ok : Entry → Tree Entry → Bool
group_ok e members = not (is_group e) || (some members && (unrepeated e || sure members))

-- the clauses on each entry alone
unfoldable pub each_ok : Tree Entry → Bool
each_ok none = true
each_ok (node e members rest) = pad_ok e && width_ok e && group_ok e members && each_ok members && each_ok rest

-- "within a sequence each offset is at least the previous offset + reserved bytes"
unfoldable pub in_order : ℕ → Tree Entry → Bool
in_order from none = true
in_order from (node e members rest) = leb from e.offset && in_order 0 members && in_order (e.offset + reserved_width e) rest

-- the controllers of a sequence that may serve a table behind it: those in repeated groups may not
unfoldable pub offers : Tree Entry → List ℕ
offers none = []
offers (node e members rest) = (cond (controls e) (e.name ∷ []) [] ++ cond (unrepeated e) (offers members) []) ++ offers rest

-- "each controller is an unrepeated Int or Binary standing earlier, every repeated group around it being around the table"; 02, S-1: a Decimal of scale 0 too.
-- `known` are those that stand earlier and in no other repeated group than those around this sequence
unfoldable pub controlled : List ℕ → Tree Entry → Bool
controlled known none = true
controlled known (node e members rest) =
    (not (present e.depending) || is_in e.depending known) && controlled known members && controlled (offers (node e members none) ++ known) rest

-- "Plain (unrepeated: occurs and depending absent): questions 1 to 3 passed; ..": the layout's words, its masks, the page
unfoldable pub plain : List ℕ → List ℕ → ℕ → Bool
plain l masks page =
    eqb (checked_of l masks page) 0 && distinct (names_of (entries l)) && each_ok (entries l) && in_order 0 (entries l) && controlled [] (entries l)
