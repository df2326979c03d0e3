-- What a lawful text says: its entries' words and its masks; and what a reader of it answers.
use Rattle.std.specs.Prelude.{◌≡◌, Bool, ◌&&◌, ◌||◌, not, cond, List, [], ◌∷◌, ◌++◌, map, ℕ, zero, suc, ◌/◌, ◌%◌, eqb, leb, length, drop, get_or, Result, Ok, Err}
pub use Rattle.zeros.specs.Filled.{filled}
use Rattle.codes.specs.Codes.{kind_decimal, kind_edited}
use Rattle.codes.specs.declared.Refusal.{Refusal}
use Rattle.layout.specs.declared.Entry.{Entry}
use Rattle.layout.specs.Layout.{absent, all_below, words_ok, entries_ok, spans_ok}
use Rattle.lines.specs.Lines.{number_of}
use Rattle.lines.specs.Names.{distinct, number_in, names_at}
use Rattle.layout_text.specs.declared.LayoutReading.{LayoutReading}
use Rattle.layout_text.specs.Form.{lines_of, name_word, offset_word, width_word, occurs_word, depending_word, span_word, p_word}
use Rattle.layout_text.specs.Form.{q_word, r_word, mask_word, page_word, is_none, worth, count_of, line_in, value_start, kind_said, lawful}

-- ---- the values of the k-th entry

-- a number, and an empty value: absent
abbrev pub number_said : List ℕ → List ℕ → ℕ
number_said word line = worth (number_of (drop (length word) line))

abbrev pub or_absent : List ℕ → ℕ → ℕ
or_absent s n = cond (is_none s) absent n

abbrev pub name_said : List (List ℕ) → ℕ → List ℕ
name_said l k = drop (length name_word) (line_in l k 0)

abbrev pub occurs_said : List (List ℕ) → ℕ → List ℕ
occurs_said l k = drop (length occurs_word) (line_in l k 4)

abbrev pub depending_said : List (List ℕ) → ℕ → List ℕ
depending_said l k = drop (length depending_word) (line_in l k 5)

abbrev pub width_said : List (List ℕ) → ℕ → ℕ
width_said l k = number_said width_word (line_in l k 2)

abbrev pub r_said : List (List ℕ) → ℕ → ℕ
r_said l k = number_said r_word (line_in l k 9)

abbrev pub mask_said : List (List ℕ) → ℕ → List ℕ
mask_said l k = drop (length mask_word) (line_in l k 10)

-- ---- names: "Name numbers follow first sight, from 0." Both `name=` and `depending=` lines are sights, in the order of the text.

-- a sight of a name: how it is spelled, and where that starts in the text
pub record Sight : Type 0 where
  pub name : List ℕ
  pub at : ℕ

abbrev pub sights_in : List (List ℕ) → ℕ → List Sight
sights_in l k =
    record { name = name_said l k; at = value_start name_word l k 0 }
    ∷ cond (is_none (depending_said l k)) [] (record { name = depending_said l k; at = value_start depending_word l k 5 } ∷ [])

-- the sights in the first k entries, and in all
unfoldable pub sights_below : List (List ℕ) → ℕ → List Sight
sights_below l zero = []
sights_below l (suc k) = sights_below l k ++ sights_in l k

abbrev pub sights_of : List (List ℕ) → List Sight
sights_of l = sights_below l (count_of l)

-- the names alone
abbrev pub names_in : List Sight → List (List ℕ)
names_in sights = map (λ s. s.name) sights

abbrev pub names_of : List (List ℕ) → List (List ℕ)
names_of l = names_in (sights_of l)

-- ---- masks: "packed in entry order"

unfoldable pub masks_below : List (List ℕ) → ℕ → List ℕ
masks_below l zero = []
masks_below l (suc k) = masks_below l k ++ mask_said l k

abbrev pub masks_of : List (List ℕ) → List ℕ
masks_of l = masks_below l (count_of l)

-- ---- words

-- "r of a Decimal is scale + 32 × precision"
abbrev pub scale_of : ℕ → ℕ → ℕ
scale_of kind r = cond (eqb kind kind_decimal) (r % 32) r

abbrev pub precision_of : ℕ → ℕ → ℕ
precision_of kind r = cond (eqb kind kind_decimal) (r / 32) 0

-- an Edited's mask starts at n; "unused words are 0"
abbrev pub mask_word_of : ℕ → ℕ → ℕ
mask_word_of kind n = cond (eqb kind kind_edited) n 0

-- the k-th entry, by the numbers of its names and its mask's start
abbrev pub entry_by : ℕ → ℕ → ℕ → List (List ℕ) → ℕ → Entry
entry_by name depending mask l k = record {
  name = name;
  offset = number_said offset_word (line_in l k 1);
  width = width_said l k;
  kind = kind_said l k;
  occurs = or_absent (occurs_said l k) (number_said occurs_word (line_in l k 4));
  depending = depending;
  span = number_said span_word (line_in l k 6);
  p = number_said p_word (line_in l k 7);
  q = number_said q_word (line_in l k 8);
  r = scale_of (kind_said l k) (r_said l k);
  s = precision_of (kind_said l k) (r_said l k);
  mask = mask_word_of (kind_said l k) mask;
}

unfoldable pub entry_said : List (List ℕ) → ℕ → Entry
entry_said l k =
    entry_by (number_in (names_of l) (name_said l k)) (or_absent (depending_said l k) (number_in (names_of l) (depending_said l k))) (length (masks_below l k)) l k

-- "name .., offset, width, kind, occurs, depending .., span .., p, q, r, s, mask"
unfoldable pub twelve : Entry → List ℕ
twelve e =
    e.name ∷ e.offset ∷ e.width ∷ e.kind ∷ e.occurs ∷ e.depending
    ∷ e.span ∷ e.p ∷ e.q ∷ e.r ∷ e.s ∷ e.mask ∷ []

unfoldable pub words_below : List (List ℕ) → ℕ → List ℕ
words_below l zero = []
words_below l (suc k) = words_below l k ++ twelve (entry_said l k)

abbrev pub words_of : List (List ℕ) → List ℕ
words_of l = words_below l (count_of l)

abbrev pub page_of : List (List ℕ) → ℕ
page_of l = number_said page_word (get_or l 0 [])

-- ---- the questions

-- "(2 unless width long)"
abbrev pub mask_long : List (List ℕ) → ℕ → Bool
mask_long l k = not (eqb (kind_said l k) kind_edited) || eqb (length (mask_said l k)) (width_said l k)

-- the number of the first question that fails, 0 if none does: "Layout text lawful? Else 17.", then 1, 2 and 3
abbrev pub judged : Bool → Bool → Bool → Bool → ℕ
judged lawful_text lawful_words in_range nests = cond lawful_text (cond lawful_words (cond in_range (cond nests 0 3) 2) 1) 17

-- "Place for words and masks of a layout text .. ? Else 16": asked last
abbrev pub placed : ℕ → Bool → ℕ
placed number room = cond (eqb number 0) (cond room 0 16) number

-- 17, and 1, 2 and 3 of the words that a text says
unfoldable pub text_checked : List ℕ → ℕ
text_checked text =
    let l = lines_of text in
    judged (lawful text) (words_ok (words_of l) (page_of l))
    (entries_ok (words_of l) (length (masks_of l)) && all_below (mask_long l) (count_of l))
    (spans_ok (words_of l))

-- all of them, of a text and buffers of so many words and mask bytes
unfoldable pub refusal : List ℕ → ℕ → ℕ → ℕ
refusal text words masks =
    let l = lines_of text in
    placed (text_checked text) (leb (length (words_of l)) words && leb (length (masks_of l)) masks)

-- ---- the whole call

-- the number that refuses it; or the page, the words and the mask bytes
pub data Read : Type 0 where
  refused : ℕ → Read
  read : ℕ → List ℕ → List ℕ → Read

-- the text; the words and the bytes that the buffers hold
unfoldable pub read_of : List ℕ → ℕ → ℕ → Read
read_of text words masks =
    let l = lines_of text in
    cond (eqb (refusal text words masks) 0) (read (page_of l) (words_of l) (masks_of l)) (refused (refusal text words masks))

-- the outcome by the lent buffers themselves
abbrev pub layout_into : List ℕ → List ℕ → List ℕ → Read
layout_into text words masks = read_of text (length words) (length masks)

abbrev pub number_read : Read → ℕ
number_read (refused n) = n
number_read (read page ws ms) = 0

abbrev pub page_read : Read → ℕ
page_read (refused n) = 0
page_read (read page ws ms) = page

abbrev pub words_read : Read → List ℕ
words_read (refused n) = []
words_read (read page ws ms) = ws

abbrev pub masks_read : Read → List ℕ
masks_read (refused n) = []
masks_read (read page ws ms) = ms

-- the page and the lengths that a call answers: 0 after a refusal
abbrev pub page_in : Result LayoutReading Refusal → ℕ
page_in (Ok reading) = reading.page
page_in (Err refusal) = 0

abbrev pub words_in : Result LayoutReading Refusal → ℕ
words_in (Ok reading) = reading.words
words_in (Err refusal) = 0

abbrev pub masks_in : Result LayoutReading Refusal → ℕ
masks_in (Ok reading) = reading.masks
masks_in (Err refusal) = 0

-- All that a call leaves: its number, the page, how many words and mask bytes there are, and the buffers as they were lent and as they are left.
-- "A call that refuses returns its number and length 0; all output buffers hold zeros. After success unused output is zero."
pub record LayoutRead (d : Read) (number page words bytes : ℕ) (layout layout' masks masks' : List ℕ) : Type 0 where
  pub numbered : number ≡ number_read d
  pub paged : page ≡ page_read d
  pub layout_words : words ≡ length (words_read d)
  pub mask_bytes : bytes ≡ length (masks_read d)
  pub layout_left : layout' ≡ filled (length layout) (words_read d)
  pub masks_left : masks' ≡ filled (length masks) (masks_read d)

-- the first spelling of the name with a number; nothing where the text is refused by 17, 1, 2 or 3, or where no name has the number
unfoldable pub spelling : List ℕ → ℕ → List ℕ
spelling text number = cond (eqb (text_checked text) 0) (get_or (distinct (names_of (lines_of text))) number []) []

-- where the first of these sights whose name has a number starts; 0 where none has it
unfoldable pub first_at : (List ℕ → ℕ) → ℕ → List Sight → ℕ
first_at numbered number [] = 0
first_at numbered number (s ∷ sights) = cond (eqb (numbered s.name) number) s.at (first_at numbered number sights)

-- where the first spelling of the name with a number starts, by a text's lines
abbrev pub first_start : List (List ℕ) → ℕ → ℕ
first_start l number = first_at (number_in (names_of l)) number (sights_of l)

-- the same by the text; 0 where it has no such spelling
unfoldable pub spelling_at : List ℕ → ℕ → ℕ
spelling_at text number = cond (eqb (text_checked text) 0) (first_start (lines_of text) number) 0

-- how many different names a text has; 0 where it is refused by 17, 1, 2 or 3
unfoldable pub name_count : List ℕ → ℕ
name_count text = cond (eqb (text_checked text) 0) (length (distinct (names_of (lines_of text)))) 0

-- a table of starts by which a name is found: for every number the name there is its first spelling, or none
abbrev pub Spells : List ℕ → List ℕ → ℕ → Type 0
Spells text starts count = (number : ℕ) → get_or (names_at text starts count) number [] ≡ spelling text number
