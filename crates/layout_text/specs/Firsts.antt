-- Where different names start, as a pass over a text finds it. Only inner functions cite this file.
use Rattle.std.specs.Prelude.{◌≡◌, List, [], ◌∷◌, map, ℕ, ◌≤◌, length, get_or, Option, Some, None}
use Rattle.codes.specs.Codes.{absent}
use Rattle.lines.specs.Lines.{line_from}
use Rattle.lines.specs.Names.{index_in, see, distinct, see_at}
use Rattle.layout_text.specs.Form.{lines_of}
use Rattle.layout_text.specs.Reading.{Sight, sights_of, names_of, first_start}

-- the starts, in the order of first sight, after the names of an entry
abbrev pub see_both : List ℕ → List ℕ → ℕ → Option ℕ → List ℕ
see_both text starts name None = see_at text starts name
see_both text starts name (Some depending) = see_at text (see_at text starts name) depending

-- the number of the name that is depended on, where these names were seen before the entry's own
abbrev pub depending_in : List ℕ → List (List ℕ) → ℕ → Option ℕ → ℕ
depending_in text names name None = absent
depending_in text names name (Some depending) = index_in (line_from text depending) (see names (line_from text name))

-- after a run of sights
unfoldable pub see_all_at : List ℕ → List ℕ → List Sight → List ℕ
see_all_at text starts [] = starts
see_all_at text starts (s ∷ sights) = see_all_at text (see_at text starts s.at) sights

-- after all names of a text
abbrev pub firsts_of : List ℕ → List ℕ
firsts_of text = see_all_at text [] (sights_of (lines_of text))

-- what holds of them in a lawful text of at most 512 entries
pub record Firsts (text : List ℕ) : Type 0 where
  pub names : map (line_from text) (firsts_of text) ≡ distinct (names_of (lines_of text))
  pub places : (number : ℕ) → get_or (firsts_of text) number 0 ≡ first_start (lines_of text) number
  pub inside : (number : ℕ) → get_or (firsts_of text) number 0 ≤ length text
  pub few : length (firsts_of text) ≤ 1024
