-- The reader's walk: "a sequence reads fields, a field reads elements, a group element reads a sequence".
use Rattle.std.specs.Prelude.{Bool, true, false, ◌||◌, cond, List, [], ◌++◌, ℕ, zero, suc, ◌+◌, ◌-◌, max, eqb, leb, length, take, drop}
use Rattle.codes.specs.Codes.{tag_list, tag_struct, element}
use Rattle.layout.specs.declared.Entry.{Entry}
use Rattle.layout.specs.Layout.{is_group, is_pad, unrepeated, reserved_width}
use Rattle.spans.specs.Tree.{Tree, none, node}
use Rattle.items.specs.Items.{item_words, item_count, words_of, item_of, header}
use Rattle.walks.specs.Walk.{Many, never, times, Leaf, bad, leaf, Codec, how_many}

-- What a part of the walk comes to: the number that refuses it; or the item words, how many items these are at their own level,
-- the bytes taken, and the state behind it.
pub data Outcome (S : Type 0) : Type 0 where
  refused : ℕ → Outcome S
  read : List ℕ → ℕ → ℕ → S → Outcome S

-- what reads at a position of the record, with place for so many item words, in a state
abbrev pub Reader : Type 0 → Type 0
Reader S = ℕ → ℕ → S → Outcome S

module _ {S : Type 0} where
  abbrev pub bind : Outcome S → (List ℕ → ℕ → ℕ → S → Outcome S) → Outcome S
  bind (refused n) f = refused n
  bind (read ws m t s) f = f ws m t s

  -- a List or Struct around its members: "member count and span, itself counted"
  abbrev pub with_header : ℕ → ℕ → Outcome S → Outcome S
  with_header name tag (refused n) = refused n
  with_header name tag (read ws m t s) = read (words_of (header name tag m (item_count ws + 1)) ++ ws) 1 t s

  -- "Place for item and text? 16; for a List or Struct this comes before its members."
  unfoldable pub container : ℕ → ℕ → Reader S → Reader S
  container name tag inner at room s = cond (leb item_words room) (with_header name tag (inner at (room - item_words) s)) (refused 16)

  -- "Repeated element took a byte? 10. Place for item ..? 16."
  abbrev pub placed : ℕ → Bool → ℕ → ℕ → Leaf S → Outcome S
  placed name once width room (bad n) = refused n
  placed name once width room (leaf v s) =
      cond (once || leb 1 width) (cond (leb item_words room) (read (words_of (item_of name v)) 1 width s) (refused 16)) (refused 10)

  -- "Field inside the record? 7." "each field is given only its own stretch of the record"
  unfoldable pub scalar : Codec S → List ℕ → Entry → ℕ → Bool → Reader S
  scalar k r e name once at room s =
      cond (leb (at + e.width) (length r)) (placed name once e.width room (k.dec e (take e.width (drop at r)) s)) (refused 7)

  -- "Pads yield no item."
  unfoldable pub pad : List ℕ → Entry → Reader S
  pad r e at room s = cond (leb (at + e.width) (length r)) (read [] 0 e.width s) (refused 7)

  unfoldable pub one : Codec S → List ℕ → Entry → Reader S → ℕ → Bool → Reader S
  one k r e inner name once at room s =
      cond (is_group e) (container name tag_struct inner at room s) (cond (is_pad e) (pad r e at room s) (scalar k r e name once at room s))

  -- the bytes of a sequence are "those from its base through its members, gaps counted": up to the furthest end
  abbrev pub then_entry : List ℕ → ℕ → ℕ → Outcome S → Outcome S
  then_entry ws m stop (refused n) = refused n
  then_entry ws m stop (read ws' m' far s) = read (ws ++ ws') (m + m') (max stop far) s

-- the sum by which positions are added: plain addition, or one that stops
module _ {S : Type 0} (plus : ℕ → ℕ → ℕ) where
  abbrev pub then_element : List ℕ → ℕ → ℕ → Outcome S → Outcome S
  then_element ws m t (refused n) = refused n
  then_element ws m t (read ws' m' t' s) = read (ws ++ ws') (m + m') (plus t t') s

  -- the elements of a table, each behind the one before it; "Repeated element took a byte? 10."
  unfoldable pub elements : Reader S → ℕ → Reader S
  elements f zero at room s = read [] 0 0 s
  elements f (suc n) at room s =
      bind (f at room s) (λ ws m t s'. cond (eqb t 0) (refused 10) (then_element ws m t (elements f n (plus at t) (room - length ws) s')))

  -- "Controller known? 5. Count from 0 to the given maximum? 6.", then the List; a table of Pads is no List
  abbrev pub table : Entry → Reader S → Many → Reader S
  table e f (never n) at room s = refused n
  table e f (times n) at room s = cond (is_pad e) (elements f n at room s) (container e.name tag_list (elements f n) at room s)

  -- "65536 for list elements"
  unfoldable pub field : Codec S → List ℕ → Entry → Reader S → Reader S
  field k r e inner at room s =
      cond (unrepeated e) (one k r e inner e.name true at room s) (table e (one k r e inner element false) (how_many k.held e s) at room s)

  -- "an entry lies at base + offset + shift; then shift grows by bytes taken − its reserved bytes, never below 0"
  unfoldable pub seq : Codec S → List ℕ → Tree Entry → ℕ → ℕ → ℕ → S → Outcome S
  seq k r none base shift room s = read [] 0 0 s
  seq k r (node e members rest) base shift room s =
      bind (field k r e (λ base' room' s'. seq k r members base' 0 room' s') (plus base (plus e.offset shift)) room s)
      (λ ws m t s'. then_entry ws m (plus (plus e.offset shift) t) (seq k r rest base (plus shift (t - reserved_width e)) (room - length ws) s'))
