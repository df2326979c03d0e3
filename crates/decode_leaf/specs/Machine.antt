-- What the reader's inner functions promise: the walk with the state as the code holds it, by its own answer.
use Rattle.std.specs.Prelude.{◌≡◌, ⊤, Result, Ok, Err, Bool, ◌||◌, ◌&&◌, not, cond, List, ◌++◌, ℕ, ◌+◌, ◌/◌, ◌≤◌, eqb, leb, ℤ, length, take, drop}
use Rattle.codes.specs.Codes.{kind_pad, tag_list}
use Rattle.codes.specs.declared.Refusal.{Refusal}
use Rattle.codes.specs.Refusals.{number_of}
use Rattle.layout.specs.declared.Entry.{Entry}
use Rattle.value.specs.declared.Scalar.{Scalar}
use Rattle.value.specs.declared.Scalar.TheVariants.{Null, Text, Int, Decimal, Float as FloatV, FloatBits, Bool as BoolV}
use Rattle.value.specs.Scalar.{decimal}
use Rattle.items.specs.Items.{item_words, words_of, header}
use Rattle.decode_scalar.specs.Decode.{Says, refused, value, text, says, text_after}
use Rattle.walks.specs.Walk.{Many, never, times, unfit, Leaf, bad, leaf, Codec}
use Rattle.layout.specs.Layout.{unrepeated, is_pad}
use Rattle.walks.specs.Reading as R
use Rattle.walks.specs.Reading.{Outcome, Reader, read, scalar, pad}
use Rattle.decode_leaf.specs.declared.Out.{Out}
use Rattle.decode_leaf.specs.Counts.{note_in, held_in}

-- the run of counts, and the texts so far
pub record Held : Type 0 where
  pub run : List ℤ
  pub text : List ℕ

-- the first `told` bytes of the text buffer are the texts so far
abbrev pub state : List ℤ → ℕ → List ℕ → Held
state run told buffer = record { run = run; text = take told buffer }

-- the layout, the page, the bytes of the text buffer, whether some table depends on a count
module _ (l : List ℕ) (page room : ℕ) (deps : Bool) where
  abbrev pub leaf_of : Entry → Held → Says → Leaf Held
  leaf_of e s (refused n) = bad n
  leaf_of e s (value v) = leaf v (record { run = note_in l deps e v s.run; text = s.text })
  leaf_of e s (text t) =
      cond (leb (length s.text + length t) room) (leaf (Text (length s.text) (length t)) (record { run = s.run; text = s.text ++ t })) (bad 16)

  unfoldable pub dec : Entry → List ℕ → Held → Leaf Held
  dec e bs s = leaf_of e s (says e.kind e.p e.q e.r page bs)

  abbrev pub held : ℕ → Held → Many
  held name s = held_in l name s.run

  -- the codec of all kinds on this state
  abbrev pub kept : Codec Held
  kept = record { enc = λ e it. unfit 0; dec = dec; held = held }

-- every entry but a group
abbrev pub leaf_at : Codec Held → List ℕ → Entry → ℕ → Bool → Reader Held
leaf_at k r e name once at room s = cond (is_pad e) (pad r e at room s) (scalar k r e name once at room s)

-- a single entry and a table of Pads have no List's item
abbrev pub bare : Entry → Bool
bare e = unrepeated e || eqb e.kind kind_pad

-- the words of a table's own item
abbrev pub head_of : Entry → ℕ
head_of e = cond (bare e) 0 item_words

-- ---- a scalar as its item holds it: a text starts behind the texts so far

abbrev pub moved_in : ℕ → Scalar → Scalar
moved_in told (Text start n) = Text told n
moved_in told Null = Null
moved_in told (Int negative size) = Int negative size
moved_in told (Decimal negative size scale) = decimal negative size scale
moved_in told (FloatV x) = FloatV x
moved_in told (FloatBits x) = FloatBits x
moved_in told (BoolV b) = BoolV b

-- the text bytes with it
abbrev pub told_in : ℕ → Scalar → ℕ
told_in told (Text start n) = told + n
told_in told Null = told
told_in told (Int negative size) = told
told_in told (Decimal negative size scale) = told
told_in told (FloatV x) = told
told_in told (FloatBits x) = told
told_in told (BoolV b) = told

-- ---- promises, by the answer: what holds of one that refuses, and of one that does not

abbrev pub out : ℕ → ℕ → ℕ → ℕ → Out
out used members taken told = record { used = used; members = members; taken = taken; told = told }

-- how many elements a table has, as the code answers it
abbrev pub many_in : Result ℕ Refusal → Many
many_in (Ok n) = times n
many_in (Err e) = never (number_of e)

pub record Fine (o : Outcome Held) (r : Out) (items buffer : List ℕ) (run : List ℤ) : Type 0 where
  pub is : o ≡ read (take r.used items) r.members r.taken (state run r.told buffer)
  pub within : r.used ≤ length items
  pub told : r.told ≤ length buffer
  pub few : r.members ≤ r.used

abbrev pub Met : Outcome Held → Result Out Refusal → List ℕ → List ℕ → List ℤ → Type 0
Met o (Ok r) items buffer run = Fine o r items buffer run
Met o (Err e) items buffer run = o ≡ R.refused (number_of e)

-- the items behind the words that were read stay as they were: after a refusal all of them
abbrev pub Rest : Result Out Refusal → List ℕ → List ℕ → Type 0
Rest (Ok r) before items = drop r.used items ≡ drop r.used before
Rest (Err e) before items = items ≡ before

-- after a refusal the counts stay as they were
abbrev pub Still : Result Out Refusal → List ℤ → List ℤ → Type 0
Still (Ok r) held run = ⊤
Still (Err e) held run = run ≡ held

-- the text buffer behind a scalar that is inside the record: its text stays where it was put, though its item finds no place
abbrev pub text_in : ℕ → List ℕ → Entry → ℕ → ℕ → List ℕ → List ℕ
text_in page r e at told buffer = take told buffer ++ text_after (says e.kind e.p e.q e.r page (take e.width (drop at r))) (drop told buffer)

-- the text buffer behind a scalar or Pad
unfoldable pub text_behind : ℕ → List ℕ → Entry → ℕ → ℕ → List ℕ → List ℕ
text_behind page r e at told buffer = cond (leb (at + e.width) (length r) && not (is_pad e)) (text_in page r e at told buffer) buffer

-- one scalar or Pad that is no element of a table, with every item and count
pub record Lone (o : Outcome Held) (before : List ℕ) (held : List ℤ) (r : Result Out Refusal) (items buffer : List ℕ) (run : List ℤ) : Type 0 where
  pub met : Met o r items buffer run
  pub rest : Rest r before items
  pub counts : Still r held run

-- an element of a table, whatever the layout and the counts are, which it leaves alone
pub record Element (o : List ℕ → Bool → Held → Outcome Held) (told : ℕ) (text before : List ℕ) (r : Result Out Refusal) (items buffer : List ℕ) : Type 0 where
  pub met : (l : List ℕ) (deps : Bool) (run : List ℤ) → Met (o l deps (state run told text)) r items buffer run
  pub rest : Rest r before items

-- a table of such elements, whether or not some table of the layout depends on a count
pub record Elements (o : Bool → Outcome Held) (r : Result Out Refusal) (items buffer : List ℕ) (run : List ℤ) : Type 0 where
  pub met : (deps : Bool) → Met (o deps) r items buffer run

-- one item, whatever the state behind it
pub record OneItem (o : Held → Outcome Held) (behind width : ℕ) (r : Out) (items : List ℕ) : Type 0 where
  pub is : (s : Held) → o s ≡ read (take item_words items) 1 width s
  pub answer : r ≡ out item_words 1 width behind
  pub within : item_words ≤ length items

abbrev pub PlacedBy : (Held → Outcome Held) → ℕ → ℕ → Result Out Refusal → List ℕ → Type 0
PlacedBy o behind width (Ok r) items = OneItem o behind width r items
PlacedBy o behind width (Err e) items = (s : Held) → o s ≡ R.refused (number_of e)

pub record Placed (o : Held → Outcome Held) (behind width : ℕ) (before : List ℕ) (r : Result Out Refusal) (items : List ℕ) : Type 0 where
  pub met : PlacedBy o behind width r items
  pub rest : Rest r before items

-- a table's own item around the elements behind it
abbrev pub headed : Entry → ℕ → ℕ → List ℕ → List ℕ
headed e used members items = cond (bare e) items (words_of (header e.name tag_list members (used / item_words)) ++ drop item_words items)

pub record Listed (e : Entry) (end members width behind : ℕ) (r : Out) (before items : List ℕ) : Type 0 where
  pub is : items ≡ headed e end members before
  pub answer : r ≡ out end (cond (bare e) members 1) width behind
