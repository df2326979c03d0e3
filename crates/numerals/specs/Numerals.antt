-- What the texts of numbers share, over bytes as ASCII: blanks at the ends, the digits among the bytes, and signs.
use Rattle.std.specs.Prelude.{List, map, Bool, ◌&&◌, ◌||◌, cond, ℕ, ltb, leb, eqb}
use Rattle.value.specs.Digits.{value_of, is_digit, digit_in}
use Rattle.lists.specs.Scan.{left_by, right_by, keep_by, every_by}

-- "blanks (0x09-0x0D, 0x20)"
abbrev pub is_blank : ℕ → Bool
is_blank x = eqb x 32 || (leb 9 x && leb x 13)

-- "blanks .. trimmed"
abbrev pub trimmed : List ℕ → List ℕ
trimmed s = right_by is_blank (left_by is_blank s)

-- "bytes from 0x80 refused in Int, Display, Edited"
abbrev pub is_ascii : ℕ → Bool
is_ascii x = ltb x 128

-- "digits kept, others skipped": the answer for the size that the digits among the bytes spell; none spell 0. bad: what an unlawful byte answers
unfoldable pub kept_by : {X : Type 0} → (ℕ → X) → X → List ℕ → X
kept_by answer bad s = cond (every_by is_ascii s) (answer (value_of (map digit_in (keep_by is_digit s)))) bad

-- whether a byte is a sign; a sign's byte
abbrev pub is_sign : ℕ → Bool
is_sign x = eqb x 45 || eqb x 43

abbrev pub sign_byte : Bool → ℕ
sign_byte negative = cond negative 45 43
