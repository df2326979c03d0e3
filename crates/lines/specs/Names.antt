-- Names: the same but for letter case, and numbered by first sight.
use Rattle.std.specs.Prelude.{ℕ, suc, ◌+◌, Bool, true, false, ◌&&◌, cond, List, [], ◌∷◌, ◌++◌, map, length, take, set, eqb, leb, ltb}
use Rattle.lines.specs.Lines.{line_from}

-- "letter case ignored": a capital as its small letter, any other byte as it is
abbrev pub fold_of : ℕ → ℕ
fold_of x = cond (leb 0x41 x && leb x 0x5A) (x + 0x20) x

unfoldable pub equal : List ℕ → List ℕ → Bool
equal [] [] = true
equal [] (y ∷ b) = false
equal (x ∷ a) [] = false
equal (x ∷ a) (y ∷ b) = eqb x y && equal a b

-- equal but for letter case
abbrev pub same_name : List ℕ → List ℕ → Bool
same_name a b = equal (map fold_of a) (map fold_of b)

-- ---- "Name numbers follow first sight, from 0."

-- the index, from 0, of a name among different names; their count where it is none of them
unfoldable pub index_in : List ℕ → List (List ℕ) → ℕ
index_in n [] = 0
index_in n (x ∷ xs) = cond (same_name n x) 0 (suc (index_in n xs))

-- the different names seen, in the order of first sight, after one more sight
abbrev pub see : List (List ℕ) → List ℕ → List (List ℕ)
see seen n = cond (ltb (index_in n seen) (length seen)) seen (seen ++ (n ∷ []))

-- the same after a run of sights
abbrev pub see_all : List (List ℕ) → List (List ℕ) → List (List ℕ)
see_all seen [] = seen
see_all seen (n ∷ ns) = see_all (see seen n) ns

-- the different names of a text, in the order of first sight
abbrev pub distinct : List (List ℕ) → List (List ℕ)
distinct names = see_all [] names

-- the number of a name in a text whose names, in order, are these
abbrev pub number_in : List (List ℕ) → List ℕ → ℕ
number_in names n = index_in n (distinct names)

-- ---- a table of where each different name starts in the text

-- the names that the first `count` starts of a table point at
abbrev pub names_at : List ℕ → List ℕ → ℕ → List (List ℕ)
names_at text starts count = map (line_from text) (take count starts)

-- the starts of the different names seen, in the order of first sight, after one more sight, of the name at `at`
abbrev pub see_at : List ℕ → List ℕ → ℕ → List ℕ
see_at text starts at = cond (ltb (index_in (line_from text at) (map (line_from text) starts)) (length starts)) starts (starts ++ (at ∷ []))

-- the number of the name at `at`
abbrev pub number_at : List ℕ → List ℕ → ℕ → ℕ → ℕ
number_at text starts count at = index_in (line_from text at) (names_at text starts count)

-- it is new, and the table can hold it: a place is left, and a start is below 4294967296
abbrev pub is_new : List ℕ → List ℕ → ℕ → ℕ → Bool
is_new text starts count at = eqb (number_at text starts count at) count && (ltb count (length starts) && ltb at 4294967296)

-- what one more sight makes of the count and of the table
abbrev pub count_after : List ℕ → List ℕ → ℕ → ℕ → ℕ
count_after text starts count at = cond (is_new text starts count at) (count + 1) count

abbrev pub starts_after : List ℕ → List ℕ → ℕ → ℕ → List ℕ
starts_after text starts count at = cond (is_new text starts count at) (set starts count at) starts
