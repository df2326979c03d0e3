-- "Fitting" lists: which value list fits a layout, by the trees that their spans make.
use Rattle.std.specs.Prelude.{◌≡◌, true, false, cond, List, ℕ, suc, ◌^◌, ◌<◌, eqb, length}
use Rattle.codes.specs.Codes.{tag_text, tag_list, tag_struct, element}
use Rattle.layout.specs.declared.Entry.{Entry}
use Rattle.layout.specs.Layout.{is_group, is_pad, unrepeated, entries}
use Rattle.spans.specs.Tree.{Tree, none, node, size}
use Rattle.items.specs.declared.Item.{Item}
use Rattle.items.specs.Items.{Values, item_count, header, scalar_in, text_of, values, count, scalar_ok, well_formed}
use Rattle.fits.specs.Fits as Scalar
use Rattle.walks.specs.Walk.{times, how_many}
use Rattle.walks.specs.Kinds.{State, start, noted, said, held, mask_of}

-- the state behind a fitting item: a text stands behind the texts so far, and a number may set a count
abbrev pub after : List ℕ → Entry → Item → State → State
after source e it s = cond (eqb it.tag tag_text) (said (text_of source it) s) (noted e (scalar_in it) s)

-- A scalar item fits an entry: "Text for Text and Hex, Int for Int and Binary, ..", and each kind's range. "Texts are packed in item order, from 0."
pub record Good (masks source : List ℕ) (e : Entry) (it : Item) (s : State) : Type 0 where
  pub lawful : scalar_ok (length source) it ≡ true
  pub word : it.a < 2 ^ 64
  pub fits : Scalar.Fits e.p e.q e.r e.s (mask_of masks e) e.width e.kind (scalar_in it) (text_of source it)
  pub packed : it.tag ≡ tag_text → it.a ≡ length s.text

-- "List or Struct member count and span, itself counted"
abbrev pub holder : ℕ → ℕ → Values → Item
holder name tag members = header name tag (count members) (suc (size members))

-- what values are fitted to: the entries of a sequence, or the elements of a table
pub data Sort : Type 0 where
  sequence : Tree Entry → Sort
  elements : Entry → Tree Entry → Sort

pub data Fits (masks source : List ℕ) : Sort → Values → State → State → Type 0 where
  done : {s : State} → Fits masks source (sequence none) none s s
  -- "a sequence has one item for each entry but Pads, in layout order, under its name"
  pads : {e : Entry} {ms rest : Tree Entry} {vs : Values} {s s' : State}
      → is_pad e ≡ true → Fits masks source (sequence rest) vs s s' → Fits masks source (sequence (node e ms rest)) vs s s'
  scalar : {e : Entry} {ms rest : Tree Entry} {it : Item} {vs : Values} {s s' : State}
      → is_pad e ≡ false → unrepeated e ≡ true → is_group e ≡ false → it.name ≡ e.name → Good masks source e it s
      → Fits masks source (sequence rest) vs (after source e it s) s'
      → Fits masks source (sequence (node e ms rest)) (node it none vs) s s'
  -- "a Struct of its members' items for a group"
  group : {e : Entry} {ms rest : Tree Entry} {ns vs : Values} {s s₁ s' : State}
      → is_pad e ≡ false → unrepeated e ≡ true → is_group e ≡ true → Fits masks source (sequence ms) ns s s₁ → Fits masks source (sequence rest) vs s₁ s'
      → Fits masks source (sequence (node e ms rest)) (node (holder e.name tag_struct ns) ns vs) s s'
  -- "a repeated entry has, under its name, a List of such items": "exactly occurs elements; under depending, as many as the value its controller holds,
  -- last before it in the walk, and at most occurs where given"
  table : {e : Entry} {ms rest : Tree Entry} {ns vs : Values} {s s₁ s' : State}
      → is_pad e ≡ false → unrepeated e ≡ false → how_many held e s ≡ times (count ns)
      → Fits masks source (elements e ms) ns s s₁ → Fits masks source (sequence rest) vs s₁ s'
      → Fits masks source (sequence (node e ms rest)) (node (holder e.name tag_list ns) ns vs) s s'
  -- "each under 65536"
  last : {e : Entry} {ms : Tree Entry} {s : State} → Fits masks source (elements e ms) none s s
  scalars : {e : Entry} {ms : Tree Entry} {it : Item} {vs : Values} {s s' : State}
      → is_group e ≡ false → it.name ≡ element → Good masks source e it s
      → Fits masks source (elements e ms) vs (after source e it s) s'
      → Fits masks source (elements e ms) (node it none vs) s s'
  groups : {e : Entry} {ms : Tree Entry} {ns vs : Values} {s s₁ s' : State}
      → is_group e ≡ true → Fits masks source (sequence ms) ns s s₁ → Fits masks source (elements e ms) vs s₁ s'
      → Fits masks source (elements e ms) (node (holder element tag_struct ns) ns vs) s s'

-- A value list with its texts fits a layout: it is a value list, its items fit, and their texts, one after the other, are the text bytes.
pub record Fitting (l masks items text : List ℕ) : Type 0 where
  pub well_formed : well_formed items (length text) ≡ true
  pub counts : State
  pub fits : Fits masks text (sequence (entries l)) (values items 0 (item_count items)) start counts
  pub texts : counts.text ≡ text
