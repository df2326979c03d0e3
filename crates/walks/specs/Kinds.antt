-- The codec of all kinds on both pages, from the definitions that the scalar fields' contracts cite; and the counts.
use Rattle.std.specs.Prelude.{Bool, ◌&&◌, cond, List, [], ◌∷◌, ◌++◌, ℕ, ◌+◌, eqb, leb, ltb, min, length, take, drop}
use Rattle.layout.specs.declared.Entry.{Entry}
use Rattle.layout.specs.Layout.{controls}
use Rattle.items.specs.declared.Item.{Item}
use Rattle.items.specs.Items.{scalar_in, text_of}
use Rattle.value.specs.declared.Scalar.{Scalar}
use Rattle.value.specs.declared.Scalar.TheVariants.{Null, Text, Int, Decimal, Float as FloatV, FloatBits, Bool as BoolV}
use Rattle.decode_scalar.specs.declared.Field.{Field}
use Rattle.decode_scalar.specs.Decode.{Says, refused, value, text, says}
use Rattle.encode_scalar.specs.Encode.{judged_of, bytes_of}
use Rattle.walks.specs.Walk.{Many, never, times, Coded, unfit, bytes, Leaf, bad, leaf, Codec}

-- a count that was set: the name, and the number by sign and size
pub record Count : Type 0 where
  pub name : ℕ
  pub negative : Bool
  pub size : ℕ

-- the counts set in the walk, the latest first; the texts so far, one after the other
pub record State : Type 0 where
  pub counts : List Count
  pub text : List ℕ

abbrev pub start : State
start = record { counts = []; text = [] }

-- the count that a scalar sets for a name, if it sets one; the Decimal of an entry that controls a table has scale 0
abbrev pub count_in : ℕ → Scalar → List Count
count_in name (Int negative size) = record { name = name; negative = negative; size = size } ∷ []
count_in name (Decimal negative size scale) = record { name = name; negative = negative; size = size } ∷ []
count_in name Null = []
count_in name (Text a b) = []
count_in name (FloatV x) = []
count_in name (FloatBits x) = []
count_in name (BoolV b) = []

-- the count that an entry's scalar sets: only what controls a table sets one
abbrev pub count_of : Entry → Scalar → List Count
count_of e v = cond (controls e) (count_in e.name v) []

abbrev pub noted : Entry → Scalar → State → State
noted e v s = record { counts = count_of e v ++ s.counts; text = s.text }

abbrev pub said : List ℕ → State → State
said t s = record { counts = s.counts; text = s.text ++ t }

-- "Controller known? 5. Count from 0 ..? 6." The latest count of the name
unfoldable pub look : List Count → ℕ → Many
look [] name = never 5
look (c ∷ cs) name = cond (eqb c.name name) (cond (c.negative && ltb 0 c.size) (never 6) (times c.size)) (look cs name)

abbrev pub held : ℕ → State → Many
held name s = look s.counts name

-- the words of an entry that tell what its bytes say
abbrev pub field_of : Entry → Field
field_of e = record { kind = e.kind; p = e.p; q = e.q; r = e.r; s = e.s }

-- an Edited's mask: "mask as long as width, inside its slice"
abbrev pub mask_of : List ℕ → Entry → List ℕ
mask_of masks e = take e.width (drop e.mask masks)

-- where it starts: at the slice's end where the entry says a place behind it
abbrev pub mask_start : List ℕ → Entry → ℕ
mask_start masks e = min e.mask (length masks)

abbrev pub coded_of : ℕ → List ℕ → Coded
coded_of refusal bs = cond (eqb refusal 0) (bytes bs) (unfit refusal)

-- the masks and the page; the items' texts that the writer reads; the bytes that the reader's text buffer has
module _ (masks : List ℕ) (page : ℕ) (source : List ℕ) (room : ℕ) where
  unfoldable pub enc : Entry → Item → Coded
  enc e it =
      coded_of (judged_of e.kind e.p e.q e.r e.s (mask_of masks e) e.width it.tag (scalar_in it) (text_of source it))
      (bytes_of e.kind e.p e.q e.r (mask_of masks e) page e.width (scalar_in it) (text_of source it))

  -- texts are "packed from 0 in item order"; "Place for item and text? 16."
  abbrev pub leaf_of : Entry → State → Says → Leaf State
  leaf_of e s (refused n) = bad n
  leaf_of e s (value v) = leaf v (noted e v s)
  leaf_of e s (text t) = cond (leb (length s.text + length t) room) (leaf (Text (length s.text) (length t)) (said t s)) (bad 16)

  unfoldable pub dec : Entry → List ℕ → State → Leaf State
  dec e bs s = leaf_of e s (says e.kind e.p e.q e.r page bs)

  abbrev pub kinds : Codec State
  kinds = record { enc = enc; dec = dec; held = held }
