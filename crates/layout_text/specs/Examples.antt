-- Worked examples, by computation.
use Rattle.std.specs.Prelude.{◌≡◌, refl, true, List, [], ◌∷◌, ◌++◌, ℕ, length}
use Rattle.lists.specs.Scan.{every_by}
use Rattle.spans.specs.Tree.{tree, tree_in, size, nested}
use Rattle.layout.specs.Layout.{absent, entry_at, all_below, words_ok, up_to, plain_ok, edited_ok, kind_ok, option_ok, place_ok, entry_ok, entries_ok, spans_ok}
use Rattle.lines.specs.Lines.{starts_with, number_of}
use Rattle.lines.specs.Names.{equal, index_in, distinct}
use Rattle.layout_text.specs.Form.{lines_of, size_of, ended, all, entry_lawful, lawful, page_word, name_word, offset_word, width_word, kind_word, occurs_word}
use Rattle.layout_text.specs.Form.{depending_word, span_word, p_word, q_word, r_word, mask_word}
use Rattle.layout_text.specs.Reading.{sights_below, masks_below, entry_said, twelve, words_below, words_of, masks_of, text_checked, refusal, spelling, names_of, first_at, first_start}

abbrev line : List ℕ → List ℕ → List ℕ
line word value = word ++ (value ++ (0x0A ∷ []))

-- the lines of an entry with offset 0 and span 1: name, width, kind, occurs, depending, p, r, mask
abbrev entry : List ℕ → List ℕ → List ℕ → List ℕ → List ℕ → List ℕ → List ℕ → List ℕ → List ℕ
entry name width kind occurs depending p r mask =
    line name_word name ++ (line offset_word (0x30 ∷ []) ++ (line width_word width ++ (line kind_word kind ++ (line occurs_word occurs ++ (line depending_word depending
    ++ (line span_word (0x31 ∷ []) ++ (line p_word p ++ (line q_word (0x30 ∷ []) ++ (line r_word r ++ line mask_word mask)))))))))

-- 0, 1, 2, 5, 7, 8, 65
abbrev d0 : List ℕ
d0 = 0x30 ∷ []

abbrev d1 : List ℕ
d1 = 0x31 ∷ []

abbrev d2 : List ℕ
d2 = 0x32 ∷ []

abbrev d5 : List ℕ
d5 = 0x35 ∷ []

abbrev d7 : List ℕ
d7 = 0x37 ∷ []

abbrev d8 : List ℕ
d8 = 0x38 ∷ []

abbrev d65 : List ℕ
d65 = 0x36 ∷ 0x35 ∷ []

-- N Int of width 2; T packed of width 2, occurs 5, depending n, scale 1 and precision 2; A, Edited by `9-`
abbrev text : List ℕ
text =
    line page_word d0
    ++ (entry (0x4E ∷ []) d2 d1 [] [] d0 d0 [] ++ (entry (0x54 ∷ []) d2 d7 d5 (0x6E ∷ []) d1 d65 [] ++ entry (0x41 ∷ []) d2 d8 [] [] d0 d0 (0x39 ∷ 0x2D ∷ [])))

text-lawful : lawful text ≡ true
unfolding lawful all ended lines_of entry_lawful all_below starts_with number_of every_by
text-lawful = refl

-- n is N's number again, r is taken apart, and the mask starts at 0
text-words : words_of (lines_of text)
    ≡ 0 ∷ 0 ∷ 2 ∷ 1 ∷ absent ∷ absent ∷ 1 ∷ 0 ∷ 0 ∷ 0 ∷ 0 ∷ 0
    ∷ 1 ∷ 0 ∷ 2 ∷ 7 ∷ 5 ∷ 0 ∷ 1 ∷ 1 ∷ 0 ∷ 1 ∷ 2 ∷ 0
    ∷ 2 ∷ 0 ∷ 2 ∷ 8 ∷ absent ∷ absent ∷ 1 ∷ 0 ∷ 0 ∷ 0 ∷ 0 ∷ 0 ∷ []
unfolding words_below twelve entry_said sights_below masks_below lines_of number_of every_by index_in equal
text-words = refl

text-masks : masks_of (lines_of text) ≡ 0x39 ∷ 0x2D ∷ []
unfolding masks_below lines_of
text-masks = refl

text-accepted : refusal text 36 2 ≡ 0
unfolding refusal text_checked lawful all ended lines_of entry_lawful all_below starts_with number_of every_by words_below twelve entry_said sights_below masks_below index_in equal
    words_ok entries_ok entry_ok place_ok option_ok kind_ok plain_ok edited_ok up_to spans_ok nested size tree tree_in entry_at
text-accepted = refl

-- place for 36 words and for 2 mask bytes
no_place : refusal text 35 2 ≡ 16
unfolding refusal text_checked lawful all ended lines_of entry_lawful all_below starts_with number_of every_by words_below twelve entry_said sights_below masks_below index_in equal
    words_ok entries_ok entry_ok place_ok option_ok kind_ok plain_ok edited_ok up_to spans_ok nested size tree tree_in entry_at
no_place = refl

no-mask-place : refusal text 36 1 ≡ 16
unfolding refusal text_checked lawful all ended lines_of entry_lawful all_below starts_with number_of every_by words_below twelve entry_said sights_below masks_below index_in equal
    words_ok entries_ok entry_ok place_ok option_ok kind_ok plain_ok edited_ok up_to spans_ok nested size tree tree_in entry_at
no-mask-place = refl

-- no entries; the last line not ended; a line too many; nothing at all
empty-layout : refusal (line page_word d1) 0 0 ≡ 0
unfolding refusal text_checked lawful all ended lines_of entry_lawful all_below starts_with number_of every_by words_below masks_below words_ok entries_ok spans_ok nested tree tree_in
empty-layout = refl

open-line : refusal (page_word ++ d1) 0 0 ≡ 17
unfolding refusal text_checked lawful all ended lines_of
open-line = refl

extra-line : refusal (line page_word d1 ++ line page_word d1) 0 0 ≡ 17
unfolding refusal text_checked lawful all ended lines_of
extra-line = refl

no_line : refusal [] 0 0 ≡ 17
unfolding refusal text_checked lawful all ended lines_of
no_line = refl

-- page 2; a mask that is not width long, before place is asked; a mask on a Text
other-page : refusal (line page_word d2) 0 0 ≡ 1
unfolding refusal text_checked lawful all ended lines_of entry_lawful all_below starts_with number_of every_by words_below words_ok
other-page = refl

short-mask : refusal (line page_word d0 ++ entry (0x41 ∷ []) d2 d8 [] [] d0 d0 (0x39 ∷ [])) 0 0 ≡ 2
unfolding refusal text_checked lawful all ended lines_of entry_lawful all_below starts_with number_of every_by words_below twelve entry_said sights_below masks_below index_in equal
    words_ok entries_ok entry_ok place_ok option_ok kind_ok edited_ok up_to entry_at
short-mask = refl

masked-text : refusal (line page_word d0 ++ entry (0x41 ∷ []) d2 d0 [] [] d0 d0 (0x39 ∷ 0x39 ∷ [])) 0 0 ≡ 17
unfolding refusal text_checked lawful all ended lines_of entry_lawful all_below starts_with number_of every_by
masked-text = refl

-- the first spelling of number 0 is N, of 2 it is A, and 3 is nobody's number
first-name : spelling text 0 ≡ 0x4E ∷ []
unfolding spelling text_checked lawful all ended lines_of entry_lawful all_below starts_with number_of every_by words_below twelve entry_said sights_below masks_below index_in equal
    words_ok entries_ok entry_ok place_ok option_ok kind_ok plain_ok edited_ok up_to spans_ok nested size tree tree_in entry_at
first-name = refl

last_name : spelling text 2 ≡ 0x41 ∷ []
unfolding spelling text_checked lawful all ended lines_of entry_lawful all_below starts_with number_of every_by words_below twelve entry_said sights_below masks_below index_in equal
    words_ok entries_ok entry_ok place_ok option_ok kind_ok plain_ok edited_ok up_to spans_ok nested size tree tree_in entry_at
last_name = refl

no_name : spelling text 3 ≡ []
unfolding spelling text_checked lawful all ended lines_of entry_lawful all_below starts_with number_of every_by words_below twelve entry_said sights_below masks_below index_in equal
    words_ok entries_ok entry_ok place_ok option_ok kind_ok plain_ok edited_ok up_to spans_ok nested size tree tree_in entry_at
no_name = refl

-- these start behind `name=` of the first and of the third entry: n, which the second depends on, is no first spelling; three names
first-start : first_start (lines_of text) 0 ≡ 12
unfolding first_at sights_below lines_of size_of index_in equal
first-start = refl

last-start : first_start (lines_of text) 2 ≡ 165
unfolding first_at sights_below lines_of size_of index_in equal
last-start = refl

no_start : first_start (lines_of text) 3 ≡ 0
unfolding first_at sights_below lines_of size_of index_in equal
no_start = refl

three-names : length (distinct (names_of (lines_of text))) ≡ 3
unfolding sights_below lines_of index_in equal
three-names = refl
