-- The writer's walk as its loops do it: the record buffer and the bytes taken are carried along, sums stop at 2^63, and elements that would all go alike
-- are settled at once. A law joins it to the walk that yields puts.
use Rattle.std.specs.Prelude.{Bool, ◌&&◌, ◌||◌, cond, List, ℕ, zero, suc, ◌+◌, ◌-◌, ◌*◌, max, eqb, leb, length}
use Rattle.codes.specs.Codes.{tag_null, tag_list, tag_struct}
use Rattle.layout.specs.declared.Entry.{Entry}
use Rattle.layout.specs.Layout.{is_group, reserved_width, unrepeated}
use Rattle.spans.specs.Tree.{Tree, none, node}
use Rattle.items.specs.declared.Item.{Item}
use Rattle.items.specs.Items.{Values, head_of, members_of, rest_of, lookup, missing}
use Rattle.positions.specs.Positions.{sat}
use Rattle.walks.specs.Walk.{Coded, unfit, bytes, Codec}
use Rattle.walks.specs.Writing.{lay, table_length}

-- A refusal; or the buffer, one more than the furthest end of what was put (0 where nothing was), and the bytes taken.
pub data Laid : Type 0 where
  refused : ℕ → Laid
  laid : List ℕ → ℕ → ℕ → Laid

-- what writes a value at a position into a buffer
abbrev pub Layer : Type 0
Layer = Values → ℕ → List ℕ → Laid

abbrev pub bind : Laid → (List ℕ → ℕ → ℕ → Laid) → Laid
bind (refused n) f = refused n
bind (laid b past t) f = f b past t

abbrev pub coded : ℕ → ℕ → ℕ → List ℕ → Coded → Laid
coded room width at b (unfit n) = refused n
coded room width at b (bytes bs) = cond (leb (at + length bs) room) (laid (lay b at bs) (suc (at + length bs)) width) (refused 16)

-- a scalar or Pad
unfoldable pub leaf : {S : Type 0} → Codec S → ℕ → Entry → Item → ℕ → List ℕ → Laid
leaf k room e it at b = coded room e.width at b (k.enc e it)

-- a List (tag 6) or Struct (tag 7) by its members, Null as one of none
unfoldable pub container : ℕ → (Values → Laid) → Values → Laid
container tag f vs = cond (eqb (head_of vs).tag tag) (f (members_of vs)) (cond (eqb (head_of vs).tag tag_null) (f none) (refused 13))

-- an element: of a group, and of any other entry
abbrev pub group : Layer → Layer
group inner vs at b = container tag_struct (λ ms. inner ms at b) vs

abbrev pub leaves : {S : Type 0} → Codec S → ℕ → Entry → Layer
leaves k room e vs at b = leaf k room e (head_of vs) at b

unfoldable pub one : {S : Type 0} → Codec S → ℕ → Entry → Layer → Layer
one k room e inner vs at b = cond (is_group e) (group inner vs at b) (leaves k room e vs at b)

-- an element that is missing and took or put nothing: all behind it are missing, and go alike
abbrev pub settled : Values → ℕ → ℕ → Bool
settled vs past t = missing vs && (eqb t 0 || eqb past 0)

-- the elements that are left from a position on, behind those that took so many bytes
unfoldable pub elements : Layer → ℕ → Values → ℕ → ℕ → ℕ → List ℕ → Laid
elements f zero vs at taken past b = laid b past taken
elements f (suc n) vs at taken past b =
    bind (f vs at b)
    (λ b' past' t. cond (settled vs past' t) (laid b' (max past past') (sat (taken + sat (suc n * t))))
    (elements f n (rest_of vs) (sat (at + t)) (sat (taken + t)) (max past past') b'))

unfoldable pub table : Entry → Layer → Layer
table e f vs at b = container tag_list (λ ms. elements f (table_length e ms) ms at 0 0 b) vs

unfoldable pub field : {S : Type 0} → Codec S → ℕ → Entry → Layer → Layer
field k room e inner vs at b = cond (unrepeated e) (one k room e inner vs at b) (table e (one k room e inner) vs at b)

-- the entries that are left, behind those that took so many bytes
unfoldable pub seq : {S : Type 0} → Codec S → ℕ → Tree Entry → Values → ℕ → ℕ → ℕ → ℕ → List ℕ → Laid
seq k room none all base shift taken past b = laid b past taken
seq k room (node e members rest) all base shift taken past b =
    bind (field k room e (λ vs base' b'. seq k room members vs base' 0 0 0 b') (lookup e.name all) (sat (base + sat (e.offset + shift))) b)
    (λ b' past' t. seq k room rest all base (sat (shift + (t - reserved_width e))) (max taken (sat (sat (e.offset + shift) + t))) (max past past') b')

abbrev pub start : {S : Type 0} → Codec S → ℕ → Tree Entry → Layer
start k room t vs base b = seq k room t vs base 0 0 0 b
