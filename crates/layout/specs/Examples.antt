-- Worked examples, by computation.
use Rattle.std.specs.Prelude.{◌≡◌, refl, true, List, [], ◌∷◌, ◌++◌, ℕ}
use Rattle.spans.specs.Tree.{tree, tree_in, size, nested}
use Rattle.layout.specs.Layout.{absent, entry_at, all_below, some_below, words_ok, up_to, plain_ok, bool_ok, edited_ok, kind_ok, option_ok, place_ok, entry_ok, entries_ok, spans_ok, checked_of, reserved_width, furthest, record_length, depends_in}

-- an unrepeated entry at offset 0, its other words 0: width, kind, span
abbrev plain : ℕ → ℕ → ℕ → List ℕ
plain width kind span = 0 ∷ 0 ∷ width ∷ kind ∷ absent ∷ absent ∷ span ∷ 0 ∷ 0 ∷ 0 ∷ 0 ∷ 0 ∷ []

-- N Int 0,2; T packed 2,2, occurs 5, depending N, scale 1; E Text 2,2
abbrev shown : List ℕ
shown =
    0 ∷ 0 ∷ 2 ∷ 1 ∷ absent ∷ absent ∷ 1 ∷ 0 ∷ 0 ∷ 0 ∷ 0 ∷ 0 ∷
    1 ∷ 2 ∷ 2 ∷ 7 ∷ 5 ∷ 0 ∷ 1 ∷ 1 ∷ 0 ∷ 1 ∷ 0 ∷ 0 ∷
    2 ∷ 2 ∷ 2 ∷ 0 ∷ absent ∷ absent ∷ 1 ∷ 0 ∷ 0 ∷ 0 ∷ 0 ∷ 0 ∷ []

shown-lawful : checked_of shown [] 0 ≡ 0
unfolding checked_of words_ok entries_ok all_below entry_ok place_ok option_ok kind_ok plain_ok up_to spans_ok nested size tree tree_in entry_at
shown-lawful = refl

shown-length : record_length shown ≡ 4
unfolding record_length furthest reserved_width tree tree_in entry_at
shown-length = refl

shown-depends : depends_in shown ≡ true
unfolding depends_in some_below entry_at
shown-depends = refl

no-entries : checked_of [] [] 1 ≡ 0
unfolding checked_of words_ok entries_ok all_below spans_ok nested tree tree_in
no-entries = refl

odd-words : checked_of (0 ∷ []) [] 0 ≡ 1
unfolding checked_of words_ok
odd-words = refl

other-page : checked_of shown [] 2 ≡ 1
unfolding checked_of words_ok
other-page = refl

no-such-kind : checked_of (plain 1 10 1) [] 0 ≡ 2
unfolding checked_of words_ok entries_ok all_below entry_ok place_ok option_ok kind_ok entry_at
no-such-kind = refl

empty-bool : checked_of (plain 0 5 1) [] 0 ≡ 2
unfolding checked_of words_ok entries_ok all_below entry_ok place_ok option_ok kind_ok bool_ok plain_ok up_to entry_at
empty-bool = refl

-- an Edited whose mask does not lie in its slice, and one whose mask does
mask-outside : checked_of (plain 2 8 1) (57 ∷ []) 0 ≡ 2
unfolding checked_of words_ok entries_ok all_below entry_ok place_ok option_ok kind_ok edited_ok up_to entry_at
mask-outside = refl

mask-inside : checked_of (plain 2 8 1) (57 ∷ 57 ∷ []) 0 ≡ 0
unfolding checked_of words_ok entries_ok all_below entry_ok place_ok option_ok kind_ok edited_ok up_to spans_ok nested size tree tree_in entry_at
mask-inside = refl

group-of-one : checked_of (plain 1 9 2 ++ plain 1 5 1) [] 0 ≡ 0
unfolding checked_of words_ok entries_ok all_below entry_ok place_ok option_ok kind_ok bool_ok plain_ok up_to spans_ok nested size tree tree_in entry_at
group-of-one = refl

empty_group : checked_of (plain 0 9 1) [] 0 ≡ 0
unfolding checked_of words_ok entries_ok all_below entry_ok place_ok option_ok kind_ok plain_ok up_to spans_ok nested size tree tree_in entry_at
empty_group = refl

span-zero : checked_of (plain 0 9 0) [] 0 ≡ 3
unfolding checked_of words_ok entries_ok all_below entry_ok place_ok option_ok kind_ok plain_ok up_to spans_ok nested size tree tree_in entry_at
span-zero = refl

span-past-the-end : checked_of (plain 0 9 2) [] 0 ≡ 3
unfolding checked_of words_ok entries_ok all_below entry_ok place_ok option_ok kind_ok plain_ok up_to spans_ok nested size tree tree_in entry_at
span-past-the-end = refl

members-of-a-bool : checked_of (plain 1 5 2 ++ plain 1 5 1) [] 0 ≡ 3
unfolding checked_of words_ok entries_ok all_below entry_ok place_ok option_ok kind_ok bool_ok plain_ok up_to spans_ok nested size tree tree_in entry_at
members-of-a-bool = refl

-- groups in groups: to 8 levels, and to 9
abbrev eight : List ℕ
eight = plain 0 9 8 ++ plain 0 9 7 ++ plain 0 9 6 ++ plain 0 9 5 ++ plain 0 9 4 ++ plain 0 9 3 ++ plain 0 9 2 ++ plain 0 9 1

eight-levels : checked_of eight [] 0 ≡ 0
unfolding checked_of words_ok entries_ok all_below entry_ok place_ok option_ok kind_ok plain_ok up_to spans_ok nested size tree tree_in entry_at
eight-levels = refl

nine-levels : checked_of (plain 0 9 9 ++ eight) [] 0 ≡ 3
unfolding checked_of words_ok entries_ok all_below entry_ok place_ok option_ok kind_ok plain_ok up_to spans_ok nested size tree tree_in entry_at
nine-levels = refl

-- 1 before 2, and 2 of the last entry before 3 of the first
one-before-two : checked_of (plain 1 10 1) [] 2 ≡ 1
unfolding checked_of words_ok
one-before-two = refl

two-before-three : checked_of (plain 0 9 9 ++ plain 1 10 1) [] 0 ≡ 2
unfolding checked_of words_ok entries_ok all_below entry_ok place_ok option_ok kind_ok plain_ok up_to entry_at
two-before-three = refl

-- only top-level entries count towards the length
inner-apart : record_length (plain 1 9 2 ++ plain 9 5 1) ≡ 1
unfolding record_length furthest reserved_width tree tree_in entry_at
inner-apart = refl
