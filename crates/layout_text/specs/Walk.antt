-- How the passes walk over a text: line by line, by positions. Only inner functions cite this file.
use Rattle.std.specs.Prelude.{◌≡◌, Bool, true, false, ◌&&◌, ◌||◌, not, cond, List, [], ℕ, suc, ◌+◌, ◌-◌, ◌*◌, ◌≤◌, ◌<◌, eqb, length, take, drop, get_or, Option, Some, None, Result, Ok, Err}
use Rattle.std.specs.Fn.{FnReturnsAt, Shared}
use Rattle.std.specs.Borrow.{Bor}
use Rattle.codes.specs.Codes.{absent, kind_edited, kind_group}
use Rattle.spans.specs.Tree.{tree, nested}
use Rattle.layout.specs.declared.Entry.{Entry}
use Rattle.layout.specs.Layout.{all_below, entry_ok}
use Rattle.codes.specs.declared.Refusal.{Refusal}
use Rattle.codes.specs.Refusals.{number_of as refusal_number}
use Rattle.value.specs.Answer.{Answer, refused, given, answered}
use Rattle.lines.specs.declared.Found.{Found}
use Rattle.lines.specs.Lines.{Place, place, line_from, value_at, number_of}
use Rattle.layout_text.specs.declared.Number.{Number}
use Rattle.layout_text.specs.declared.Said.{Said}
use Rattle.layout_text.specs.declared.LayoutReading.{LayoutReading}
use Rattle.layout_text.specs.declared.Judged.{Judged}
use Rattle.layout_text.specs.Form.{lines_of, ended, is_none, worth, is_number, optional, says, line_in, value_start, count_of, kind_said, entry_lawful, lawful, page_word}
use Rattle.layout_text.specs.Form.{name_word, depending_word, offset_word, occurs_word, span_word, p_word, q_word}
use Rattle.layout_text.specs.Reading.{number_said, or_absent, name_said, occurs_said, depending_said, width_said, r_said, mask_said}
use Rattle.layout_text.specs.Reading.{entry_by, scale_of, precision_of, mask_word_of, masks_of, mask_long, page_of}
use Rattle.layout_text.specs.Reading.{Read, read, refused as not_read}

-- position `at` is where the i-th line of a text starts, or its end behind the last
pub record Here (text : List ℕ) (i at : ℕ) : Type 0 where
  pub inside : at ≤ length text
  pub ahead : i ≤ at
  pub there : i ≤ length (lines_of text)
  pub rest : drop i (lines_of text) ≡ lines_of (drop at text)
  pub same : ended text ≡ ended (drop at text)

-- ---- a line: the answer for its value, which a test judges

-- a closure answers of every value what this test answers
abbrev pub Judges : {F : Type 0} → Shared F (Bor (List ℕ) × Unit {0}) Bool → F → (List ℕ → Bool) → Type 0
Judges g f judge = (s : List ℕ) (b : Bool) → FnReturnsAt g f s b → b ≡ judge s

abbrev pub bytes_of : List ℕ → Found → List ℕ
bytes_of text f = take (f.end - f.start) (drop f.start text)

abbrev pub passed_by : (List ℕ → Bool) → List ℕ → Answer Place → Answer Found
passed_by test text (given (place a e n)) = cond (test (take (e - a) (drop a text))) (given (record { start = a; end = e; next = n })) (refused 17)
passed_by test text (refused question) = refused question

unfoldable pub line_by : (List ℕ → Bool) → List ℕ → List ℕ → ℕ → Answer Found
line_by test word text at = passed_by test text (value_at word text at)

-- ---- a line's number: the answer for its value, which a reader gives

-- a closure answers of every value what this reader answers
abbrev pub Reads : {F : Type 0} → Shared F (Bor (List ℕ) × Unit {0}) (Result ℕ Refusal) → F → (List ℕ → Answer ℕ) → Type 0
Reads g f reads = (s : List ℕ) (r : Result ℕ Refusal) → FnReturnsAt g f s r → answered r ≡ reads s

abbrev pub with_next : ℕ → Answer ℕ → Answer Number
with_next n (given v) = given (record { value = v; next = n })
with_next n (refused question) = refused question

abbrev pub read_by : (List ℕ → Answer ℕ) → List ℕ → Answer Place → Answer Number
read_by reads text (given (place a e n)) = with_next n (reads (take (e - a) (drop a text)))
read_by reads text (refused question) = refused question

-- a number, or absent for an empty value
abbrev pub option_of : List ℕ → Answer ℕ
option_of s = cond (is_none s) (given absent) (number_of s)

unfoldable pub number_by : (List ℕ → Answer ℕ) → List ℕ → List ℕ → ℕ → Answer Number
number_by reads word text at = read_by reads text (value_at word text at)

abbrev pub numbered : (Found → ℕ) → Answer Found → Answer Number
numbered value (given f) = given (record { value = value f; next = f.next })
numbered value (refused question) = refused question

abbrev pub number_in : List ℕ → Found → ℕ
number_in text f = worth (number_of (bytes_of text f))

abbrev pub option_in : List ℕ → Found → ℕ
option_in text f = or_absent (bytes_of text f) (number_in text f)

abbrev pub number_line : List ℕ → List ℕ → ℕ → Answer Number
number_line word text at = numbered (number_in text) (line_by is_number word text at)

abbrev pub option_line : List ℕ → List ℕ → ℕ → Answer Number
option_line word text at = numbered (option_in text) (line_by (optional is_number) word text at)

-- where a name starts, if there is one
abbrev pub start_of : Found → Option ℕ
start_of f = cond (eqb f.start f.end) None (Some f.start)

-- ---- the page's line

pub record PageTold (text : List ℕ) (n : Number) : Type 0 where
  pub here : Here text 1 n.next
  pub says-page : says page_word is_number (get_or (lines_of text) 0 []) ≡ true
  pub value : n.value ≡ page_of (lines_of text)
  pub short : n.next ≤ 16

abbrev pub PageTells : List ℕ → Result Number Refusal → Type 0
PageTells text (Ok n) = PageTold text n
PageTells text (Err e) = (refusal_number e ≡ 17) × (lawful text ≡ false)

-- ---- the eleven lines of the k-th entry, from `at`

-- the name that the k-th entry depends on, and where it starts
pub record Depends (text : List ℕ) (k d : ℕ) : Type 0 where
  pub named : is_none (depending_said (lines_of text) k) ≡ false
  pub name : line_from text d ≡ depending_said (lines_of text) k
  pub place : d ≡ value_start depending_word (lines_of text) k 5
  pub inside : d < length text

abbrev pub DependsOn : List ℕ → ℕ → Option ℕ → Type 0
DependsOn text k None = is_none (depending_said (lines_of text) k) ≡ true
DependsOn text k (Some d) = Depends text k d

pub record Told (text : List ℕ) (k at : ℕ) (s : Said) : Type 0 where
  pub fine : entry_lawful (lines_of text) k ≡ true
  pub here : Here text (suc k * 11 + 1) s.next
  pub name : line_from text s.name ≡ name_said (lines_of text) k
  pub name-at : s.name ≡ value_start name_word (lines_of text) k 0
  pub name-inside : s.name < length text
  pub offset : s.offset ≡ number_said offset_word (line_in (lines_of text) k 1)
  pub width : s.width ≡ width_said (lines_of text) k
  pub kind : s.kind ≡ kind_said (lines_of text) k
  pub occurs : s.occurs ≡ or_absent (occurs_said (lines_of text) k) (number_said occurs_word (line_in (lines_of text) k 4))
  pub depending : DependsOn text k s.depending
  pub span : s.span ≡ number_said span_word (line_in (lines_of text) k 6)
  pub p : s.p ≡ number_said p_word (line_in (lines_of text) k 7)
  pub q : s.q ≡ number_said q_word (line_in (lines_of text) k 8)
  pub r : s.r ≡ r_said (lines_of text) k
  pub mask : take s.length (drop s.mask text) ≡ mask_said (lines_of text) k
  pub mask-inside : s.mask + s.length ≤ length text
  pub long : s.length ≡ length (mask_said (lines_of text) k)
  pub empty : (s.kind ≡ kind_edited → ⊥) → s.length ≡ 0
  -- no mask is longer than its lines, and the other lines are short
  pub room : at + s.length < s.next
  pub short : s.next ≤ at + 207 + s.length

abbrev pub Tells : List ℕ → ℕ → Result Said Refusal → Type 0
Tells text at (Ok s) = (k : ℕ) → Here text (k * 11 + 1) at → Told text k at s
Tells text at (Err e) = (refusal_number e ≡ 17) × ((k : ℕ) → Here text (k * 11 + 1) at → (ended text && entry_lawful (lines_of text) k) ≡ false)

-- ---- question 2 of an entry

-- the entry, with the numbers of its names and its mask's start
unfoldable pub entry_with : Said → ℕ → ℕ → ℕ → Entry
entry_with said name depending mask = record {
  name = name;
  offset = said.offset;
  width = said.width;
  kind = said.kind;
  occurs = said.occurs;
  depending = depending;
  span = said.span;
  p = said.p;
  q = said.q;
  r = scale_of said.kind said.r;
  s = precision_of said.kind said.r;
  mask = mask_word_of said.kind mask;
}

unfoldable pub fine_alone : Said → Bool
fine_alone said = entry_ok (entry_with said 0 0 0) said.length && (not (eqb said.kind kind_edited) || eqb said.length said.width)

-- ---- what one pass finds

-- the k-th entry without the numbers of its names and its mask's start: these pass question 2 wherever the text is lawful and has at most 512 entries
unfoldable pub bare_said : List (List ℕ) → ℕ → Entry
bare_said l k = entry_by 0 0 0 l k

unfoldable pub fine_in : List (List ℕ) → ℕ → Bool
fine_in l k = entry_ok (bare_said l k) (length (mask_said l k)) && mask_long l k

pub record Finds (text : List ℕ) (j : Judged) (spans : List ℕ) (groups : List Bool) : Type 0 where
  pub is_lawful : lawful text ≡ true
  pub page : j.page ≡ page_of (lines_of text)
  pub count : j.count ≡ count_of (lines_of text)
  pub fine : j.fine ≡ all_below (fine_in (lines_of text)) (count_of (lines_of text))
  pub masks : j.masks ≡ length (masks_of (lines_of text))
  pub spans-kept : (i : ℕ) → i < count_of (lines_of text) → i < 512 → get_or spans i 0 ≡ number_said span_word (line_in (lines_of text) i 6)
  pub groups-kept : (i : ℕ) → i < count_of (lines_of text) → i < 512 → get_or groups i false ≡ eqb (kind_said (lines_of text) i) kind_group
  -- a text with few entries that pass is short
  pub short : length text ≤ 16 + j.count * 207 + j.masks
  pub small : j.fine ≡ true → j.masks ≤ j.count * 65535

abbrev pub FindsIn : List ℕ → Result Judged Refusal → List ℕ → List Bool → Type 0
FindsIn text (Ok j) spans groups = Finds text j spans groups
FindsIn text (Err e) spans groups = (refusal_number e ≡ 17) × (lawful text ≡ false)

-- ---- question 3, over the spans and the groups by themselves

abbrev pub span_in : List ℕ → ℕ → ℕ
span_in spans i = get_or spans i 0

abbrev pub group_in : List Bool → ℕ → Bool
group_in groups i = get_or groups i false

unfoldable pub nested_in : List ℕ → List Bool → ℕ → ℕ → ℕ → Bool
nested_in spans groups levels lo hi = nested (span_in spans) (group_in groups) levels (tree (λ i. i) (span_in spans) lo hi)

-- ---- the answer

-- the outcome of the call as the code hands it on
abbrev pub reading_of : Read → Answer LayoutReading
reading_of (not_read n) = refused n
reading_of (read page ws ms) = given (record { page = page; words = length ws; masks = length ms })

-- ---- a text whose words and masks are stored

pub record Lasts (text : List ℕ) (count : ℕ) : Type 0 where
  pub is_lawful : lawful text ≡ true
  pub counted : count ≡ count_of (lines_of text)
  pub few : count ≤ 512
  pub small : length text < 4294967296
