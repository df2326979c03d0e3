-- The item at an entry's place in the list read is one of the entry: it carries the entry's name and what bytes of the record, as many as the entry has, say under it.
use Rattle.std.specs.Prelude.{◌≡◌, ℕ, ◌+◌, ◌≤◌, true, List, [], length, take, drop}
use Rattle.layout.specs.declared.Entry.{Entry}
use Rattle.layout.specs.Layout.{entry_at, entries}
use Rattle.items.specs.declared.Item.{Item}
use Rattle.items.specs.Items.{item_count, item_of, values, head_of}
use Rattle.value.specs.declared.Scalar.{Scalar}
use Rattle.walks.specs.Walk.{leaf, Codec}
use Rattle.walks.specs.Kinds.{kinds}
use Rattle.walks.specs.Records.{decoded, decode_record}
use Rattle.window.specs.Pair.{summed, items_before, values_from}

-- an item of an entry: somewhere inside the record stand the bytes that say its scalar
pub record Own {S : Type 0} (k : Codec S) (r : List ℕ) (e : Entry) (it : Item) : Type 0 where
  pub at : ℕ
  pub scalar : Scalar
  pub before : S
  pub after : S
  pub inside : at + e.width ≤ length r
  pub says : k.dec e (take e.width (drop at r)) before ≡ leaf scalar after
  pub is : it ≡ item_of e.name scalar

-- of every record that is read, and each entry that a window may sum
abbrev pub OwnItem : Type 0
OwnItem = (l masks : List ℕ) (page : ℕ) (r : List ℕ) (items text work : ℕ) (ws t : List ℕ) (i : ℕ) → decode_record l masks page r items text work ≡ decoded ws t → summed l i ≡ true
    → Own (kinds masks page [] text) r (entry_at l i) (head_of (values_from (items_before (entries l) i) (values ws 0 (item_count ws))))
