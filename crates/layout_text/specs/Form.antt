-- "As text (layout.txt): `page=` and its number, then per entry eleven lines `word=value`, each ended by 0x0A": which texts are lawful.
use Rattle.std.specs.Prelude.{Bool, true, false, ◌&&◌, ◌||◌, cond, List, [], ◌∷◌, ℕ, suc, ◌+◌, ◌*◌, ◌/◌, ◌%◌, eqb, length, take, drop, get_or}
use Rattle.codes.specs.Codes.{kind_edited}
use Rattle.layout.specs.Layout.{all_below}
use Rattle.value.specs.Answer.{Answer, refused, given}
use Rattle.lines.specs.Lines.{is_end, starts_with, number_of, name_ok, mask_ok}

-- a byte before a run of lines: the first byte of the first line
abbrev pub onto : ℕ → List (List ℕ) → List (List ℕ)
onto x [] = (x ∷ []) ∷ []
onto x (l ∷ ls) = (x ∷ l) ∷ ls

-- the lines of a text, each without the 0x0A that ends it
unfoldable pub lines_of : List ℕ → List (List ℕ)
lines_of [] = []
lines_of (x ∷ s) = cond (is_end x) ([] ∷ lines_of s) (onto x (lines_of s))

-- how many bytes lines take, each with the 0x0A that ends it
unfoldable pub size_of : List (List ℕ) → ℕ
size_of [] = 0
size_of (x ∷ l) = suc (length x) + size_of l

-- where the i-th line starts: behind the lines before it
abbrev pub line_start : List (List ℕ) → ℕ → ℕ
line_start l i = size_of (take i l)

-- "each ended by 0x0A": the last byte, if there is one, is 0x0A
unfoldable pub ended : List ℕ → Bool
ended [] = true
ended (x ∷ []) = is_end x
ended (x ∷ y ∷ s) = ended (y ∷ s)

-- the words, each with its `=`
-- page=
abbrev pub page_word : List ℕ
page_word = 0x70 ∷ 0x61 ∷ 0x67 ∷ 0x65 ∷ 0x3D ∷ []

-- name=
abbrev pub name_word : List ℕ
name_word = 0x6E ∷ 0x61 ∷ 0x6D ∷ 0x65 ∷ 0x3D ∷ []

-- offset=
abbrev pub offset_word : List ℕ
offset_word = 0x6F ∷ 0x66 ∷ 0x66 ∷ 0x73 ∷ 0x65 ∷ 0x74 ∷ 0x3D ∷ []

-- width=
abbrev pub width_word : List ℕ
width_word = 0x77 ∷ 0x69 ∷ 0x64 ∷ 0x74 ∷ 0x68 ∷ 0x3D ∷ []

-- kind=
abbrev pub kind_word : List ℕ
kind_word = 0x6B ∷ 0x69 ∷ 0x6E ∷ 0x64 ∷ 0x3D ∷ []

-- occurs=
abbrev pub occurs_word : List ℕ
occurs_word = 0x6F ∷ 0x63 ∷ 0x63 ∷ 0x75 ∷ 0x72 ∷ 0x73 ∷ 0x3D ∷ []

-- depending=
abbrev pub depending_word : List ℕ
depending_word = 0x64 ∷ 0x65 ∷ 0x70 ∷ 0x65 ∷ 0x6E ∷ 0x64 ∷ 0x69 ∷ 0x6E ∷ 0x67 ∷ 0x3D ∷ []

-- span=
abbrev pub span_word : List ℕ
span_word = 0x73 ∷ 0x70 ∷ 0x61 ∷ 0x6E ∷ 0x3D ∷ []

-- p=
abbrev pub p_word : List ℕ
p_word = 0x70 ∷ 0x3D ∷ []

-- q=
abbrev pub q_word : List ℕ
q_word = 0x71 ∷ 0x3D ∷ []

-- r=
abbrev pub r_word : List ℕ
r_word = 0x72 ∷ 0x3D ∷ []

-- mask=
abbrev pub mask_word : List ℕ
mask_word = 0x6D ∷ 0x61 ∷ 0x73 ∷ 0x6B ∷ 0x3D ∷ []

-- ---- values

abbrev pub is_none : List ℕ → Bool
is_none [] = true
is_none (x ∷ s) = false

abbrev pub is_value : Answer ℕ → Bool
is_value (given v) = true
is_value (refused question) = false

abbrev pub worth : Answer ℕ → ℕ
worth (given v) = v
worth (refused question) = 0

abbrev pub is_number : List ℕ → Bool
is_number s = is_value (number_of s)

-- "Absent is an empty value"
abbrev pub optional : (List ℕ → Bool) → List ℕ → Bool
optional test s = is_none s || test s

-- "A mask line holds an Edited's mask itself, bytes 0x20 to 0x7E ..; other kinds leave it empty."
abbrev pub mask_for : ℕ → List ℕ → Bool
mask_for kind s = cond (eqb kind kind_edited) (mask_ok s) (is_none s)

-- ---- lines

-- a line that starts with its word, and whose value passes a test
abbrev pub says : List ℕ → (List ℕ → Bool) → List ℕ → Bool
says word test line = starts_with word line && test (drop (length word) line)

-- "then per entry eleven lines": how many entries so many lines can hold, and the j-th line of the k-th entry
abbrev pub count_of : List (List ℕ) → ℕ
count_of l = length l / 11

abbrev pub line_in : List (List ℕ) → ℕ → ℕ → List ℕ
line_in l k j = get_or l (k * 11 + 1 + j) []

-- where its value starts, behind its word
abbrev pub value_start : List ℕ → List (List ℕ) → ℕ → ℕ → ℕ
value_start word l k j = line_start l (k * 11 + 1 + j) + length word

abbrev pub kind_said : List (List ℕ) → ℕ → ℕ
kind_said l k = worth (number_of (drop (length kind_word) (line_in l k 3)))

unfoldable pub all : List Bool → Bool
all [] = true
all (b ∷ bs) = b && all bs

-- "in this order: .."; "only occurs, depending and mask may be empty": what the eleven lines of the k-th entry must say
abbrev pub tests : List (List ℕ) → ℕ → List Bool
tests l k =
    says name_word name_ok (line_in l k 0)
    ∷ says offset_word is_number (line_in l k 1)
    ∷ says width_word is_number (line_in l k 2)
    ∷ says kind_word is_number (line_in l k 3)
    ∷ says occurs_word (optional is_number) (line_in l k 4)
    ∷ says depending_word (optional name_ok) (line_in l k 5)
    ∷ says span_word is_number (line_in l k 6)
    ∷ says p_word is_number (line_in l k 7)
    ∷ says q_word is_number (line_in l k 8)
    ∷ says r_word is_number (line_in l k 9)
    ∷ says mask_word (mask_for (kind_said l k)) (line_in l k 10)
    ∷ []

unfoldable pub entry_lawful : List (List ℕ) → ℕ → Bool
entry_lawful l k = all (tests l k)

-- the page's line, then eleven lines for each entry
unfoldable pub lawful : List ℕ → Bool
lawful text =
    all
    (ended text
    ∷ eqb (length (lines_of text) % 11) 1
    ∷ says page_word is_number (get_or (lines_of text) 0 [])
    ∷ all_below (entry_lawful (lines_of text)) (count_of (lines_of text))
    ∷ [])
