-- Writing a list and reading the record back: what the buffers hold, and demand 3.
use Rattle.std.specs.Prelude.{◌≡◌, Result, Ok, Err, Bool, true, cond, List, [], ◌++◌, ℕ, ◌+◌, ◌-◌, ◌≤◌, eqb, ℤ, length, take}
use Rattle.codes.specs.declared.Refusal.{Refusal}
use Rattle.codes.specs.Refusals.{number_in}
use Rattle.decode.specs.Answered.{words_used, bytes_used}
use Rattle.layout.specs.Layout.{work_for}
use Rattle.walks.specs.Records.{most, filled, Decoded, decoded, decode_record, RecordRead, Encoded, encode_record, refusal_of, bytes_of}
use Rattle.walks.specs.Plain.{plain}
use Rattle.walks.specs.Decide.{fitting}
use Rattle.walks.specs.Needs.{needed}
use Rattle.roundtrip.specs.declared.Trip.{Trip}

-- The record's length, the number that refuses to read, the item words and the text bytes that were read: all 0 where writing refuses.
abbrev pub length_in : Result Trip Refusal → ℕ
length_in (Ok t) = t.length
length_in (Err e) = 0

abbrev pub read_in : Result Trip Refusal → ℕ
read_in (Ok t) = number_in t.read
read_in (Err e) = 0

abbrev pub words_in : Result Trip Refusal → ℕ
words_in (Ok t) = words_used t.read
words_in (Err e) = 0

abbrev pub bytes_in : Result Trip Refusal → ℕ
bytes_in (Ok t) = bytes_used t.read
bytes_in (Err e) = 0

-- the layout, its masks and its page, the list and its texts, the bytes to stand behind the record; the bytes of the record buffer, the words of the work space
module _ (l masks : List ℕ) (page : ℕ) (items text behind : List ℕ) (room work : ℕ) where
  unfoldable pub writing : Encoded
  writing = encode_record l masks page items text room work

  unfoldable pub accepted : Bool
  accepted = eqb (refusal_of writing) 0

  -- the written record and what stands behind it, as far as the buffer goes; nothing after a refusal
  unfoldable pub stands : List ℕ
  stands = cond accepted (bytes_of writing ++ take (room - length (bytes_of writing)) behind) []

  -- what reading gives, with the words of the item buffer and the bytes of the text buffer; after a refusal to write nothing is read
  unfoldable pub reading : ℕ → ℕ → Decoded
  reading item_room text_room = cond accepted (decode_record l masks page stands item_room text_room work) (decoded [] [])

  -- All that the two calls leave: the numbers and lengths that they answer, and the buffers as they were lent and as they are left.
  pub record RoundTrip (written bytes number words letters : ℕ) (r r' back back' said said' : List ℕ) (counts counts' : List ℤ) : Type 0 where
    pub writes : written ≡ refusal_of writing
    pub record_bytes : bytes ≡ length (bytes_of writing)
    pub record_left : r' ≡ filled (length r) stands
    pub reads : RecordRead (reading (length back) (length said)) number words letters back back' said said' counts counts'

-- "writing accepts, and reading the written record returns the same list"
-- "The same list: as many items, all words equal, and as many bytes of packed text, all equal." `back` and `said` are the buffers read into.
pub record Same (l items text : List ℕ) (r : Result Trip Refusal) (back said : List ℕ) : Type 0 where
  pub accepts : number_in r ≡ 0
  pub long : length_in r ≡ needed l items
  pub reads : read_in r ≡ 0
  pub many_items : words_in r ≡ length items
  pub many_bytes : bytes_in r ≡ length text
  pub same_items : back ≡ filled (length back) items
  pub same_text : said ≡ filled (length said) text

-- Demand 3: "for every plain layout, either page, every fitting list that needs at most 65,536 bytes"; "Enough room: for each call the work space that the questions
-- ask for, a record buffer of at least the bytes needed, place for the list's items and text bytes"; "whatever stands behind it", the whole at most 65,536 bytes.
abbrev pub Returns : (l masks : List ℕ) (page : ℕ) (items text behind : List ℕ) (room work : ℕ) → Result Trip Refusal → List ℕ → List ℕ → Type 0
Returns l masks page items text behind room work r back said =
    plain l masks page ≡ true → fitting l masks items text ≡ true → needed l items + length behind ≤ most → needed l items ≤ room → work_for l ≤ work
    → length items ≤ length back → length text ≤ length said → Same l items text r back said
