-- The writer's walk. It yields puts, bytes at a position, in the order of the walk; the record is these puts done on zeros.
use Rattle.std.specs.Prelude.{cond, List, [], ◌∷◌, ◌++◌, ℕ, zero, suc, ◌+◌, ◌-◌, max, eqb, leb, length, take, drop}
use Rattle.codes.specs.Codes.{tag_null, tag_list, tag_struct}
use Rattle.layout.specs.declared.Entry.{Entry}
use Rattle.layout.specs.Layout.{is_group, unrepeated, present, reserved_width}
use Rattle.spans.specs.Tree.{Tree, none, node}
use Rattle.items.specs.Items.{Values, count, head_of, members_of, rest_of, lookup}
use Rattle.walks.specs.Walk.{Coded, unfit, bytes, Codec}

pub record Put : Type 0 where
  pub at : ℕ
  pub bs : List ℕ

-- the furthest end of puts
abbrev pub reach : List Put → ℕ
reach [] = 0
reach (p ∷ ps) = max (p.at + length p.bs) (reach ps)

abbrev pub lay : List ℕ → ℕ → List ℕ → List ℕ
lay buffer at bs = take at buffer ++ (bs ++ drop (at + length bs) buffer)

-- the puts done one after the other: "later fields overwrite earlier ones"
abbrev pub apply : List Put → List ℕ → List ℕ
apply [] buffer = buffer
apply (p ∷ ps) buffer = apply ps (lay buffer p.at p.bs)

-- What a part of the walk comes to: the number that refuses it; or its puts and the bytes taken.
pub data Wrote : Type 0 where
  refused : ℕ → Wrote
  wrote : List Put → ℕ → Wrote

-- what writes a value at a position; a value is the suffix of its sequence that begins with it, and "missing elements and members are Null"
abbrev pub Writer : Type 0
Writer = Values → ℕ → Wrote

abbrev pub bind : Wrote → (List Put → ℕ → Wrote) → Wrote
bind (refused n) f = refused n
bind (wrote ps t) f = f ps t

abbrev pub then_element : List Put → ℕ → Wrote → Wrote
then_element ps t (refused n) = refused n
then_element ps t (wrote ps' t') = wrote (ps ++ ps') (t + t')

abbrev pub then_entry : List Put → ℕ → Wrote → Wrote
then_entry ps stop (refused n) = refused n
then_entry ps stop (wrote ps' far) = wrote (ps ++ ps') (max stop far)

-- "Bytes within the buffer and 65,536? 16."
abbrev pub coded : ℕ → ℕ → ℕ → Coded → Wrote
coded room width at (unfit n) = refused n
coded room width at (bytes bs) = cond (leb (at + length bs) room) (wrote (record { at = at; bs = bs } ∷ []) width) (refused 16)

-- a List (tag 6) or Struct (tag 7) by its members, Null as one of none
abbrev pub container : ℕ → (Values → Wrote) → Values → Wrote
container tag f vs = cond (eqb (head_of vs).tag tag) (f (members_of vs)) (cond (eqb (head_of vs).tag tag_null) (f none) (refused 13))

unfoldable pub one : {S : Type 0} → Codec S → ℕ → Entry → Writer → Writer
one k room e inner vs at =
    cond (is_group e)
    (container tag_struct (λ ms. inner ms at) vs)
    (coded room e.width at (k.enc e (head_of vs)))

unfoldable pub elements : Writer → ℕ → Writer
elements f zero vs at = wrote [] 0
elements f (suc n) vs at = bind (f vs at) (λ ps t. then_element ps t (elements f n (rest_of vs) (at + t)))

-- how many elements are written of these: occurs, or under depending as many as there are
unfoldable pub table_length : Entry → Values → ℕ
table_length e vs = cond (present e.depending) (count vs) e.occurs

unfoldable pub table : Entry → Writer → Writer
table e f vs at = container tag_list (λ ms. elements f (table_length e ms) ms at) vs

unfoldable pub field : {S : Type 0} → Codec S → ℕ → Entry → Writer → Writer
field k room e inner vs at = cond (unrepeated e) (one k room e inner vs at) (table e (one k room e inner) vs at)

-- the reader's positions; values by name, "the first of that name"
unfoldable pub seq : {S : Type 0} → Codec S → ℕ → Tree Entry → Values → ℕ → ℕ → Wrote
seq k room none all base shift = wrote [] 0
seq k room (node e members rest) all base shift =
    bind (field k room e (λ vs base'. seq k room members vs base' 0) (lookup e.name all) (base + (e.offset + shift)))
    (λ ps t. then_entry ps (e.offset + shift + t) (seq k room rest all base (shift + (t - reserved_width e))))
