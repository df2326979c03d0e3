-- What the walks share: the values behind an entry's own, how many elements a table has, and the codec of the scalars.
use Rattle.std.specs.Prelude.{cond, List, ℕ, leb}
use Rattle.layout.specs.declared.Entry.{Entry}
use Rattle.layout.specs.Layout.{present, is_pad}
use Rattle.value.specs.declared.Scalar.{Scalar}
use Rattle.items.specs.declared.Item.{Item}
use Rattle.items.specs.Items.{Values, rest_of}

-- the values behind an entry's own: a Pad has none
abbrev pub values_after : Entry → Values → Values
values_after e vs = cond (is_pad e) vs (rest_of vs)

-- how many elements a table has, or the number that refuses it
pub data Many : Type 0 where
  never : ℕ → Many
  times : ℕ → Many

-- "Count from 0 to the given maximum? 6."
abbrev pub at_most : ℕ → Many → Many
at_most occurs (never n) = never n
at_most occurs (times n) = cond (present occurs) (cond (leb n occurs) (times n) (never 6)) (times n)

-- The bytes of a scalar, or the number that refuses it.
pub data Coded : Type 0 where
  unfit : ℕ → Coded
  bytes : List ℕ → Coded

-- A scalar, with the state behind it; or the number that refuses its bytes.
pub data Leaf (S : Type 0) : Type 0 where
  bad : ℕ → Leaf S
  leaf : Scalar → S → Leaf S

-- The scalars of all kinds, as the walks see them. The reader carries a state along: the counts set so far and the texts so far.
pub record Codec (S : Type 0) : Type 0 where
  -- what an item is written as in an entry's field
  pub enc : Entry → Item → Coded
  -- what the bytes of an entry's field are read as
  pub dec : Entry → List ℕ → S → Leaf S
  -- the count that the controller of this name holds
  pub held : ℕ → S → Many

-- how many elements the reader finds in a table: "occurs", or under depending what the controller holds
unfoldable pub how_many : {S : Type 0} → (ℕ → S → Many) → Entry → S → Many
how_many held e s = cond (present e.depending) (at_most e.occurs (held e.depending s)) (times e.occurs)
