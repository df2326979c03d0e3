-- The whole calls: the questions before the walk, in order, and what the output buffers hold.
use Rattle.std.specs.Prelude.{◌≡◌, Bool, true, false, ◌&&◌, ◌||◌, cond, List, [], ℕ, ◌+◌, min, max, eqb, leb, ℤ, pos, length, replicate}
pub use Rattle.codes.specs.Codes.{most}
pub use Rattle.zeros.specs.Filled.{filled}
use Rattle.layout.specs.declared.Entry.{Entry}
use Rattle.layout.specs.Layout.{is_pad, entries, layout_asks, record_length, depends_in}
use Rattle.spans.specs.Tree.{Tree, none, node}
use Rattle.items.specs.Items.{Values, item_count, values, well_formed, lookup}
use Rattle.walks.specs.Kinds.{State, start, kinds}
use Rattle.walks.specs.Reading as R
use Rattle.walks.specs.Writing as W

-- the refusal of a question by its number, or what stands behind it where the number is 0
abbrev pub asking : {A : Type 0} → (ℕ → A) → ℕ → A → A
asking refuse n behind = cond (eqb n 0) behind (refuse n)

-- the number of the first of two questions that fails, or 0
abbrev pub first_of : ℕ → ℕ → ℕ
first_of a b = cond (eqb a 0) b a

-- ---- the reader

-- the number that refuses the call; or the item words and the text bytes
pub data Decoded : Type 0 where
  refused : ℕ → Decoded
  decoded : List ℕ → List ℕ → Decoded

-- "record at most 65,536 bytes and long enough? 4." The record length "binds the reader only in layouts without depending"
abbrev pub record_asks : List ℕ → ℕ → Bool → ℕ
record_asks l bytes deps = cond (leb bytes most && (deps || leb (record_length l) bytes)) 0 4

-- the number of the first of these questions that fails, or 0; `deps`: whether some table depends on a count
abbrev pub reader_asks : List ℕ → List ℕ → ℕ → ℕ → ℕ → Bool → ℕ
reader_asks l masks page bytes work deps = first_of (layout_asks l masks page work) (record_asks l bytes deps)

abbrev pub outcome : R.Outcome State → Decoded
outcome (R.refused n) = refused n
outcome (R.read ws m t s) = decoded ws s.text

-- the layout, its masks and its page, the record; the words of the item buffer, the bytes of the text buffer, the words of the work space
unfoldable pub decode_record : List ℕ → List ℕ → ℕ → List ℕ → ℕ → ℕ → ℕ → Decoded
decode_record l masks page r items text work =
    asking refused (reader_asks l masks page (length r) work (depends_in l))
    (outcome (R.seq ◌+◌ (kinds masks page [] text) r (entries l) 0 0 items start))

abbrev pub number_of : Decoded → ℕ
number_of (refused n) = n
number_of (decoded ws t) = 0

abbrev pub items_of : Decoded → List ℕ
items_of (refused n) = []
items_of (decoded ws t) = ws

abbrev pub texts_of : Decoded → List ℕ
texts_of (refused n) = []
texts_of (decoded ws t) = t

-- the outcome by the lent buffers themselves
abbrev pub read_into : List ℕ → List ℕ → ℕ → List ℕ → List ℕ → List ℕ → List ℤ → Decoded
read_into l masks page r items text counts = decode_record l masks page r (length items) (length text) (length counts)

-- All that a call of the reader leaves: its number, how many item words and text bytes there are, the buffers as they were lent and as they are left, and the
-- work space. "A call that refuses returns its number and length 0; all output buffers hold zeros. After success unused output is zero. Work space ends as zeros."
pub record RecordRead (d : Decoded) (number words bytes : ℕ) (items items' text text' : List ℕ) (counts counts' : List ℤ) : Type 0 where
  pub numbered : number ≡ number_of d
  pub words_read : words ≡ length (items_of d)
  pub text_bytes : bytes ≡ length (texts_of d)
  pub items_left : items' ≡ filled (length items) (items_of d)
  pub text_left : text' ≡ filled (length text) (texts_of d)
  pub counts_left : counts' ≡ replicate (length counts) (pos 0)

-- ---- the writer

-- the number that refuses the call; or the record
pub data Encoded : Type 0 where
  refused : ℕ → Encoded
  encoded : List ℕ → Encoded

abbrev pub found : Values → Bool
found none = false
found (node it members rest) = true

-- "Every top-level name but Pads supplied? 12."
unfoldable pub supplied : Tree Entry → Values → Bool
supplied none vs = true
supplied (node e members rest) vs = (is_pad e || found (lookup e.name vs)) && supplied rest vs

-- "Writing: zeros first"; "the writer always writes at least that many" bytes as the record length
abbrev pub finish : ℕ → W.Wrote → Encoded
finish least (W.refused n) = refused n
finish least (W.wrote ps t) = encoded (W.apply ps (replicate (max least (W.reach ps)) 0))

-- "list well formed? 11. Every top-level name but Pads supplied? 12. Record length within the buffer and 65,536? 16."
abbrev pub list_asks : List ℕ → List ℕ → List ℕ → ℕ → ℕ
list_asks l items text room =
    cond (well_formed items (length text))
    (cond (supplied (entries l) (values items 0 (item_count items)))
    (cond (leb (record_length l) (min room most)) 0 16) 12) 11

-- the questions before the walk, on the layout and then on the list: the number of the first that fails, or 0
unfoldable pub writer_asks : List ℕ → List ℕ → ℕ → List ℕ → List ℕ → ℕ → ℕ → ℕ
writer_asks l masks page items text room work = first_of (layout_asks l masks page work) (list_asks l items text room)

-- the layout, its masks and its page, the value list and its texts; the bytes of the record buffer, the words of the work space
unfoldable pub encode_record : List ℕ → List ℕ → ℕ → List ℕ → List ℕ → ℕ → ℕ → Encoded
encode_record l masks page items text room work =
    asking refused (writer_asks l masks page items text room work)
    (finish (record_length l) (W.seq (kinds masks page text 0) (min room most) (entries l) (values items 0 (item_count items)) 0 0))

abbrev pub refusal_of : Encoded → ℕ
refusal_of (refused n) = n
refusal_of (encoded bs) = 0

abbrev pub bytes_of : Encoded → List ℕ
bytes_of (refused n) = []
bytes_of (encoded bs) = bs

abbrev pub written_into : List ℕ → List ℕ → ℕ → List ℕ → List ℕ → List ℕ → List ℤ → Encoded
written_into l masks page items text r counts = encode_record l masks page items text (length r) (length counts)

-- All that a call of the writer leaves, in the same way: its number, the record's length, the record buffer and the work space.
pub record RecordWritten (e : Encoded) (number bytes : ℕ) (r r' : List ℕ) (counts counts' : List ℤ) : Type 0 where
  pub numbered : number ≡ refusal_of e
  pub record_bytes : bytes ≡ length (bytes_of e)
  pub record_left : r' ≡ filled (length r) (bytes_of e)
  pub counts_left : counts' ≡ replicate (length counts) (pos 0)
