-- Worked examples, by computation.
use Rattle.std.specs.Prelude.{◌≡◌, refl, true, false, List, [], ◌∷◌, ◌++◌, ℕ}
use Rattle.std.specs.Borrow.{Bor}
use Rattle.lists.specs.Scan.{left_by, right_by, before_by}
use Rattle.ebcdic.specs.Ebcdic.{from_page, to_ascii, ascii_table}
use Rattle.text.specs.Text.{cut, cut_from}
use Rattle.layout.specs.Layout.{absent, entry_at, up_to, plain_ok, edited_ok, kind_ok, option_ok, place_ok, entry_ok}
use Rattle.text_field.specs.Single.{text_entry, asked_of, translated_bytes, scratch_of, field_text, start_of, place_of}

-- an unrepeated entry: offset, width, kind, p, q, r; and an unrepeated Text
abbrev words : ℕ → ℕ → ℕ → ℕ → ℕ → ℕ → List ℕ
words offset width kind p q r = 0 ∷ offset ∷ width ∷ kind ∷ absent ∷ absent ∷ 1 ∷ p ∷ q ∷ r ∷ 0 ∷ 0 ∷ []

abbrev text_at : ℕ → ℕ → ℕ → ℕ → List ℕ
text_at offset width p q = words offset width 0 p q 32

-- a repeated Text: occurs, depending
abbrev repeated : ℕ → ℕ → List ℕ
repeated occurs depending = 0 ∷ 1 ∷ 4 ∷ 0 ∷ occurs ∷ depending ∷ 1 ∷ 0 ∷ 1 ∷ 32 ∷ 0 ∷ 0 ∷ []

-- ---- page 0: `.AB  .`, `.  AB.`, `.AB0X.` with a 0 byte for 0

abbrev left : List ℕ
left = 46 ∷ 65 ∷ 66 ∷ 32 ∷ 32 ∷ 46 ∷ []

abbrev right : List ℕ
right = 46 ∷ 32 ∷ 32 ∷ 65 ∷ 66 ∷ 46 ∷ []

abbrev zeroed : List ℕ
zeroed = 46 ∷ 65 ∷ 66 ∷ 0 ∷ 88 ∷ 46 ∷ []

left-text : field_text (text_at 1 4 0 1) 0 left [] ≡ 65 ∷ 66 ∷ []
unfolding field_text cut left_by right_by before_by asked_of text_entry entry_ok place_ok option_ok kind_ok plain_ok up_to entry_at
left-text = refl

left-start : start_of (text_at 1 4 0 1) 0 left [] ≡ 1
unfolding start_of cut_from left_by asked_of text_entry entry_ok place_ok option_ok kind_ok plain_ok up_to entry_at
left-start = refl

right-text : field_text (text_at 1 4 1 1) 0 right [] ≡ 65 ∷ 66 ∷ []
unfolding field_text cut left_by right_by before_by asked_of text_entry entry_ok place_ok option_ok kind_ok plain_ok up_to entry_at
right-text = refl

right-start : start_of (text_at 1 4 1 1) 0 right [] ≡ 3
unfolding start_of cut_from left_by asked_of text_entry entry_ok place_ok option_ok kind_ok plain_ok up_to entry_at
right-start = refl

untrimmed : field_text (text_at 1 4 1 0) 0 right [] ≡ 32 ∷ 32 ∷ 65 ∷ 66 ∷ []
unfolding field_text cut left_by right_by before_by asked_of text_entry entry_ok place_ok option_ok kind_ok plain_ok up_to entry_at
untrimmed = refl

untrimmed-start : start_of (text_at 1 4 1 0) 0 right [] ≡ 1
unfolding start_of cut_from left_by asked_of text_entry entry_ok place_ok option_ok kind_ok plain_ok up_to entry_at
untrimmed-start = refl

zero-byte : field_text (text_at 1 4 0 1) 0 zeroed [] ≡ 65 ∷ 66 ∷ []
unfolding field_text cut left_by right_by before_by asked_of text_entry entry_ok place_ok option_ok kind_ok plain_ok up_to entry_at
zero-byte = refl

zero-byte-kept : field_text (text_at 1 4 0 0) 0 zeroed [] ≡ 65 ∷ 66 ∷ 0 ∷ 88 ∷ []
unfolding field_text cut left_by right_by before_by asked_of text_entry entry_ok place_ok option_ok kind_ok plain_ok up_to entry_at
zero-byte-kept = refl

-- 02, S-5: `A`, space, zero byte, `X`
pad-and-zero : field_text (text_at 0 4 0 1) 0 (65 ∷ 32 ∷ 0 ∷ 88 ∷ []) [] ≡ 65 ∷ []
unfolding field_text cut left_by right_by before_by asked_of text_entry entry_ok place_ok option_ok kind_ok plain_ok up_to entry_at
pad-and-zero = refl

-- an empty field at the record's end
no-width : field_text (text_at 6 0 0 1) 0 left [] ≡ []
unfolding field_text cut left_by right_by before_by asked_of text_entry entry_ok place_ok option_ok kind_ok plain_ok up_to entry_at
no-width = refl

-- ---- page 1: `.OK ` as the record has it, and `. OK`

abbrev left_page : List ℕ
left_page = 0x4B ∷ 0xD6 ∷ 0xD2 ∷ 0x40 ∷ []

abbrev right_page : List ℕ
right_page = 0x4B ∷ 0x40 ∷ 0xD6 ∷ 0xD2 ∷ []

translated : scratch_of (text_at 1 3 0 1) 1 left_page 5 ≡ 79 ∷ 75 ∷ 32 ∷ 0 ∷ 0 ∷ []
unfolding scratch_of from_page to_ascii ascii_table asked_of text_entry entry_ok place_ok option_ok kind_ok plain_ok up_to entry_at
translated = refl

translated-length : translated_bytes (text_at 1 3 0 1) 1 left_page 5 ≡ 3
unfolding translated_bytes asked_of text_entry entry_ok place_ok option_ok kind_ok plain_ok up_to entry_at
translated-length = refl

-- page 0: the bytes as they are
kept : scratch_of (text_at 1 3 0 1) 0 left 4 ≡ 65 ∷ 66 ∷ 32 ∷ 0 ∷ []
unfolding scratch_of from_page to_ascii ascii_table asked_of text_entry entry_ok place_ok option_ok kind_ok plain_ok up_to entry_at
kept = refl

-- a scratch that is too short
refused-scratch : scratch_of (text_at 1 3 0 1) 1 left_page 2 ≡ 0 ∷ 0 ∷ []
unfolding scratch_of from_page to_ascii ascii_table asked_of text_entry entry_ok place_ok option_ok kind_ok plain_ok up_to entry_at
refused-scratch = refl

refused-length : translated_bytes (text_at 1 3 0 1) 1 left_page 2 ≡ 0
unfolding translated_bytes asked_of text_entry entry_ok place_ok option_ok kind_ok plain_ok up_to entry_at
refused-length = refl

page-text : field_text (text_at 1 3 0 1) 1 left_page (79 ∷ 75 ∷ 32 ∷ 0 ∷ 0 ∷ []) ≡ 79 ∷ 75 ∷ []
unfolding field_text cut left_by right_by before_by asked_of text_entry entry_ok place_ok option_ok kind_ok plain_ok up_to entry_at
page-text = refl

page-start : start_of (text_at 1 3 0 1) 1 left_page (79 ∷ 75 ∷ 32 ∷ 0 ∷ 0 ∷ []) ≡ 0
unfolding start_of cut_from left_by asked_of text_entry entry_ok place_ok option_ok kind_ok plain_ok up_to entry_at
page-start = refl

page-right : field_text (text_at 1 3 1 1) 1 right_page (32 ∷ 79 ∷ 75 ∷ []) ≡ 79 ∷ 75 ∷ []
unfolding field_text cut left_by right_by before_by asked_of text_entry entry_ok place_ok option_ok kind_ok plain_ok up_to entry_at
page-right = refl

page-right-start : start_of (text_at 1 3 1 1) 1 right_page (32 ∷ 79 ∷ 75 ∷ []) ≡ 1
unfolding start_of cut_from left_by asked_of text_entry entry_ok place_ok option_ok kind_ok plain_ok up_to entry_at
page-right-start = refl

-- the scratch bytes as they are: the pad is 0x20 there, whatever the record holds
as-they-are : field_text (text_at 1 3 0 1) 1 left_page (65 ∷ 0x40 ∷ 0x40 ∷ []) ≡ 65 ∷ 0x40 ∷ 0x40 ∷ []
unfolding field_text cut left_by right_by before_by asked_of text_entry entry_ok place_ok option_ok kind_ok plain_ok up_to entry_at
as-they-are = refl

-- 02, S-5, of the translated bytes
page-zero : field_text (text_at 0 3 0 1) 1 (0xC1 ∷ 0x40 ∷ 0 ∷ []) (65 ∷ 32 ∷ 0 ∷ []) ≡ 65 ∷ []
unfolding field_text cut left_by right_by before_by asked_of text_entry entry_ok place_ok option_ok kind_ok plain_ok up_to entry_at
page-zero = refl

-- a refusal hands out the empty part, at the front
refused-text : field_text (text_at 1 3 0 1) 1 left_page (79 ∷ 75 ∷ []) ≡ []
unfolding field_text cut left_by right_by before_by asked_of text_entry entry_ok place_ok option_ok kind_ok plain_ok up_to entry_at
refused-text = refl

refused-start : start_of (text_at 1 3 1 1) 1 right_page (32 ∷ 79 ∷ []) ≡ 0
unfolding start_of cut_from left_by asked_of text_entry entry_ok place_ok option_ok kind_ok plain_ok up_to entry_at
refused-start = refl

-- which slice it is a part of: page 0, and page 1
in-record : (l : List ℕ) (s scratch : Bor (List ℕ)) → (place_of l 0 s scratch).0 ≡ s.ref_ptr.0
unfolding place_of
in-record l s scratch = refl

in-scratch : (l : List ℕ) (s scratch : Bor (List ℕ)) → (place_of l 1 s scratch).0 ≡ scratch.ref_ptr.0
unfolding place_of
in-scratch l s scratch = refl

-- ---- the questions: entry, page, record length and scratch length of a call

-- translating on both pages, then the text on both; the longest record
accepted :
    asked_of true (text_at 1 4 0 1) 0 5 4 ∷
    asked_of true (text_at 1 4 0 1) 1 5 4 ∷
    asked_of false (text_at 1 4 0 1) 0 5 0 ∷
    asked_of false (text_at 1 4 0 1) 1 5 4 ∷
    asked_of false (text_at 1 4 0 1) 1 65536 4 ∷ []
    ≡ 0 ∷ 0 ∷ 0 ∷ 0 ∷ 0 ∷ []
unfolding asked_of text_entry entry_ok place_ok option_ok kind_ok edited_ok plain_ok up_to entry_at
accepted = refl

-- no entry, a word more, two entries, another page
refused-1 :
    asked_of false ([]) 0 5 4 ∷
    asked_of false (0 ∷ text_at 1 4 0 1) 0 5 4 ∷
    asked_of false (text_at 1 4 0 1 ++ text_at 1 4 0 1) 0 5 4 ∷
    asked_of false (text_at 1 4 0 1) 2 5 4 ∷ []
    ≡ 1 ∷ 1 ∷ 1 ∷ 1 ∷ []
unfolding asked_of text_entry entry_ok place_ok option_ok kind_ok edited_ok plain_ok up_to entry_at
refused-1 = refl

-- an Int, a Pad, a Group, an Edited; a table, also one under depending; p, r, offset out of range
refused-2 :
    asked_of false (words 1 4 1 0 0 0) 0 5 4 ∷
    asked_of false (words 1 4 6 0 0 32) 0 5 4 ∷
    asked_of false (words 1 4 9 0 0 0) 0 5 4 ∷
    asked_of false (words 1 4 8 0 0 0) 0 5 4 ∷
    asked_of false (repeated 1 absent) 0 5 4 ∷
    asked_of false (repeated absent 7) 0 5 4 ∷
    asked_of false (text_at 1 4 2 1) 0 5 4 ∷
    asked_of false (words 1 4 0 0 1 256) 0 5 4 ∷
    asked_of false (text_at 65536 4 0 1) 0 5 4 ∷ []
    ≡ 2 ∷ 2 ∷ 2 ∷ 2 ∷ 2 ∷ 2 ∷ 2 ∷ 2 ∷ 2 ∷ []
unfolding asked_of text_entry entry_ok place_ok option_ok kind_ok edited_ok plain_ok up_to entry_at
refused-2 = refl

refused-4 :
    asked_of true (text_at 1 4 0 1) 1 65537 4 ∷
    asked_of false (text_at 1 4 0 1) 0 65537 4 ∷ []
    ≡ 4 ∷ 4 ∷ []
unfolding asked_of text_entry entry_ok place_ok option_ok kind_ok edited_ok plain_ok up_to entry_at
refused-4 = refl

-- one byte outside
refused-7 :
    asked_of true (text_at 1 4 0 1) 1 4 4 ∷
    asked_of false (text_at 1 4 0 1) 0 4 4 ∷ []
    ≡ 7 ∷ 7 ∷ []
unfolding asked_of text_entry entry_ok place_ok option_ok kind_ok edited_ok plain_ok up_to entry_at
refused-7 = refl

-- translating on either page, the text on page 1 alone
refused-16 :
    asked_of true (text_at 1 4 0 1) 1 5 3 ∷
    asked_of true (text_at 1 4 0 1) 0 5 3 ∷
    asked_of false (text_at 1 4 0 1) 1 5 3 ∷
    asked_of false (text_at 1 4 0 1) 0 5 3 ∷ []
    ≡ 16 ∷ 16 ∷ 16 ∷ 0 ∷ []
unfolding asked_of text_entry entry_ok place_ok option_ok kind_ok edited_ok plain_ok up_to entry_at
refused-16 = refl

-- each question before each later one
one-first :
    asked_of true (words 1 4 1 0 0 0) 2 5 4 ∷
    asked_of true (text_at 1 4 0 1) 2 65537 4 ∷
    asked_of true (text_at 1 4 0 1) 2 4 4 ∷
    asked_of true (text_at 1 4 0 1) 2 5 3 ∷ []
    ≡ 1 ∷ 1 ∷ 1 ∷ 1 ∷ []
unfolding asked_of text_entry entry_ok place_ok option_ok kind_ok edited_ok plain_ok up_to entry_at
one-first = refl

two-first :
    asked_of true (words 1 4 1 0 0 0) 1 65537 4 ∷
    asked_of true (words 1 4 1 0 0 0) 1 4 4 ∷
    asked_of true (words 1 4 1 0 0 0) 1 5 3 ∷ []
    ≡ 2 ∷ 2 ∷ 2 ∷ []
unfolding asked_of text_entry entry_ok place_ok option_ok kind_ok edited_ok plain_ok up_to entry_at
two-first = refl

four-first :
    asked_of true (text_at 65535 4 0 1) 1 65537 4 ∷
    asked_of true (text_at 1 4 0 1) 1 65537 3 ∷ []
    ≡ 4 ∷ 4 ∷ []
unfolding asked_of text_entry entry_ok place_ok option_ok kind_ok edited_ok plain_ok up_to entry_at
four-first = refl

seven-first :
    asked_of true (text_at 1 4 0 1) 1 4 3 ∷
    asked_of false (text_at 1 4 0 1) 1 4 3 ∷ []
    ≡ 7 ∷ 7 ∷ []
unfolding asked_of text_entry entry_ok place_ok option_ok kind_ok edited_ok plain_ok up_to entry_at
seven-first = refl
