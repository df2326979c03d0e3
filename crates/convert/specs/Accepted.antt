-- 02, S-8: "A record is accepted exactly if both halves accept, and every item of such a name reads back equal to the first of that name in the old".
use Rattle.std.specs.Prelude.{◌≡◌, true, List, ◌↔◌, ℕ}
use Rattle.items.specs.declared.Item.{Item}
use Rattle.items.specs.Items.{Values, head_of, lookup}
use Rattle.spans.specs.Tree.{node}
use Rattle.walks.specs.Records.{Decoded, number_of, items_of, texts_of, Encoded, refusal_of}
use Rattle.convert.specs.Same.{same_value}
use Rattle.convert.specs.Calls.{listed, wrote, back, read, convert_record}

-- a value of a sequence: the suffix that begins with it
pub data Stands : Values → Values → Type 0 where
  here : {x : Item} {ms r : Values} → Stands (node x ms r) (node x ms r)
  later : {v : Values} {x : Item} {ms r : Values} → Stands v r → Stands v (node x ms r)

-- every value read back is the same as the first of its name in the old list
abbrev pub AllSame : Decoded → Decoded → Type 0
AllSame old back = (v : Values) → Stands v (listed (items_of back)) → same_value (texts_of old) (texts_of back) (lookup (head_of v).name (listed (items_of old))) v ≡ true

-- both halves, the new record read back, and each of its values
module _ (old old_masks : List ℕ) (old_page : ℕ) (r new new_masks : List ℕ) (new_page room items text back_items back_text work : ℕ) where
  abbrev reading : Decoded
  reading = read old old_masks old_page r new new_masks new_page room items text back_items back_text work

  abbrev writing : Encoded
  writing = wrote new new_masks new_page (items_of reading) (texts_of reading) room back_items back_text work

  abbrev reading_back : Decoded
  reading_back = back new new_masks new_page (items_of reading) (texts_of reading) room back_items back_text work

  abbrev converting : Encoded
  converting = convert_record old old_masks old_page r new new_masks new_page room items text back_items back_text work

  abbrev pub AcceptedExactly : Type 0
  AcceptedExactly = (refusal_of converting ≡ 0) ↔ ((number_of reading ≡ 0) × ((refusal_of writing ≡ 0) × ((number_of reading_back ≡ 0) × AllSame reading reading_back)))

  -- and the record is the writer's own
  abbrev pub WritersOwn : Type 0
  WritersOwn = refusal_of converting ≡ 0 → converting ≡ writing
