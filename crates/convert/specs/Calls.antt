-- 02, S-8: "Convert a record under one layout and page into a record under another." The reader on the old layout, the writer on the new one with the list and the
-- texts just read, the reader on the new one with the record just written, and the comparison: each outcome, and what the call leaves.
use Rattle.std.specs.Prelude.{◌≡◌, Bool, cond, List, ℕ, eqb, ℤ, length, replicate}
use Rattle.items.specs.Items.{Values, item_count, values}
use Rattle.walks.specs.Records.{asking, Decoded, decode_record, number_of, items_of, texts_of, Encoded, refused, encode_record, refusal_of, bytes_of, RecordWritten}
use Rattle.convert.specs.Same.{all_kept}

-- the values of a list's words
abbrev pub listed : List ℕ → Values
listed ws = values ws 0 (item_count ws)

-- whether every item read back is the same as the first of its name in a list
abbrev pub kept_in : List ℕ → List ℕ → Decoded → Bool
kept_in items text back = all_kept text (texts_of back) (listed items) (listed (items_of back))

-- by the reader's number for the record written: "20: the values read back differ or reading back refuses by another number than 16"
abbrev pub back_asks : ℕ → Bool → ℕ
back_asks number kept = cond (eqb number 0) (cond kept 0 20) (cond (eqb number 16) 16 20)

-- the new layout, its masks and its page, the list and its texts; the bytes of the record buffer, then for reading back the words of the item buffer, the bytes
-- of the text buffer, the words of the work space
module _ (l masks : List ℕ) (page : ℕ) (items text : List ℕ) (room back_items back_text work : ℕ) where
  abbrev pub wrote : Encoded
  wrote = encode_record l masks page items text room work

  -- the reader on the bytes of the record just written
  abbrev pub back : Decoded
  back = decode_record l masks page (bytes_of wrote) back_items back_text work

  -- 20 is "asked after all questions of reader and writer, which keep their numbers"
  unfoldable pub rewritten : Encoded
  rewritten = asking refused (refusal_of wrote) (asking refused (back_asks (number_of back) (kept_in items text back)) wrote)

-- the old layout, its masks and its page, and the record; the new layout, its masks and its page; then the cells of the buffers, in the order of the call
module _ (old old_masks : List ℕ) (old_page : ℕ) (r new new_masks : List ℕ) (new_page room items text back_items back_text work : ℕ) where
  abbrev pub read : Decoded
  read = decode_record old old_masks old_page r items text work

  -- "The reading half comes first."
  unfoldable pub convert_record : Encoded
  convert_record = asking refused (number_of read) (rewritten new new_masks new_page (items_of read) (texts_of read) room back_items back_text work)

-- the outcome by the lent buffers themselves
abbrev pub converted_into : (old old_masks : List ℕ) (old_page : ℕ) (r new new_masks : List ℕ) (new_page : ℕ) (r' items text back_items back_text : List ℕ) (counts : List ℤ) → Encoded
converted_into old old_masks old_page r new new_masks new_page r' items text back_items back_text counts =
    convert_record old old_masks old_page r new new_masks new_page (length r') (length items) (length text) (length back_items) (length back_text) (length counts)

-- a buffer that is lent as work space: "Work space ends as zeros"
abbrev pub Cleared : List ℕ → List ℕ → Type 0
Cleared cells cells' = cells' ≡ replicate (length cells) 0

-- All that the call leaves: its number, the new record's length, its buffer and the counts, as the writer leaves them; the lists made on the way are work space.
pub record RecordConverted (e : Encoded) (number bytes : ℕ) (r r' items items' text text' back_items back_items' back_text back_text' : List ℕ) (counts counts' : List ℤ) : Type 0 where
  pub record_written : RecordWritten e number bytes r r' counts counts'
  pub items_left : Cleared items items'
  pub text_left : Cleared text text'
  pub back_items_left : Cleared back_items back_items'
  pub back_text_left : Cleared back_text back_text'
