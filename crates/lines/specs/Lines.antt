-- The lines of a layout's text form: "lines `word=value`, each ended by 0x0A". A word is given with its `=`.
use Rattle.std.specs.Prelude.{ℕ, ◌+◌, Bool, true, false, not, ◌&&◌, ◌||◌, cond, List, [], ◌∷◌, map, length, drop, eqb, leb, ltb, Result, Ok, Err}
use Rattle.lists.specs.Scan.{before_by, every_by}
use Rattle.codes.specs.Codes.{absent}
use Rattle.value.specs.Digits.{value_of, is_digit, digit_in}
use Rattle.value.specs.Answer.{Answer, refused, given}
use Rattle.codes.specs.declared.Refusal.{Refusal}
use Rattle.codes.specs.Refusals.{number_of as refusal_number}
use Rattle.lines.specs.declared.Found.{Found}

abbrev pub is_end : ℕ → Bool
is_end x = eqb x 0x0A

-- the bytes from a position up to the next 0x0A, or to the text's end where there is none
abbrev pub line_from : List ℕ → ℕ → List ℕ
line_from text at = before_by is_end (drop at text)

-- where that part of the text starts; the empty part of a position past the text's end stands at the front
abbrev pub start_in : List ℕ → ℕ → ℕ
start_in text at = cond (leb at (length text)) at 0

-- "each ended by 0x0A": it stands there
abbrev pub ends_in : List ℕ → ℕ → Bool
ends_in text at = ltb (length (line_from text at)) (length (drop at text))

unfoldable pub starts_with : List ℕ → List ℕ → Bool
starts_with [] s = true
starts_with (w ∷ ws) [] = false
starts_with (w ∷ ws) (x ∷ s) = eqb x w && starts_with ws s

-- "`word=value`": where the value starts and where it ends, and where the next line starts
pub data Place : Type 0 where
  place : ℕ → ℕ → ℕ → Place

-- "Layout text lawful? Else 17"
unfoldable pub value_at : List ℕ → List ℕ → ℕ → Answer Place
value_at word text at =
    cond (ends_in text at && starts_with word (line_from text at))
    (given (place (at + length word) (at + length (line_from text at)) (at + length (line_from text at) + 1)))
    (refused 17)

abbrev pub found_as : Result Found Refusal → Answer Place
found_as (Ok found) = given (place found.start found.end found.next)
found_as (Err refusal) = refused (refusal_number refusal)

-- ---- numbers

-- "numbers decimal without leading zeros": one byte or more, and no 0 before others
abbrev pub leads : List ℕ → Bool
leads [] = false
leads (x ∷ []) = true
leads (x ∷ y ∷ s) = not (eqb x 0x30)

-- the number that the digits of a text spell
abbrev pub spelled : List ℕ → ℕ
spelled s = value_of (map digit_in s)

-- "Numbers are below 4294967295."
unfoldable pub number_of : List ℕ → Answer ℕ
number_of s = cond (leads s && (every_by is_digit s && ltb (spelled s) absent)) (given (spelled s)) (refused 17)

-- ---- names and masks

abbrev pub is_letter : ℕ → Bool
is_letter x = (leb 0x41 x && leb x 0x5A) || (leb 0x61 x && leb x 0x7A)

-- "letters, digits, hyphens"
abbrev pub in_name : ℕ → Bool
in_name x = is_letter x || (is_digit x || eqb x 0x2D)

-- "1 to 30 letters, digits, hyphens"
abbrev pub name_ok : List ℕ → Bool
name_ok s = (leb 1 (length s) && leb (length s) 30) && every_by in_name s

abbrev pub in_mask : ℕ → Bool
in_mask x = leb 0x20 x && leb x 0x7E

-- "bytes 0x20 to 0x7E"
abbrev pub mask_ok : List ℕ → Bool
mask_ok s = every_by in_mask s
