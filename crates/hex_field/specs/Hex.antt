-- Hex: two digits a byte. "p order": 0 the high digit first, else the low one.
use Rattle.std.specs.Prelude.{◌≡◌, List, [], ◌∷◌, ◌++◌, Bool, true, not, ◌&&◌, cond, ℕ, ◌+◌, ◌-◌, ◌*◌, ◌/◌, ◌%◌, eqb, leb, ltb, length, replicate}
use Rattle.lists.specs.Scan.{keep_by, every_by}
use Rattle.value.specs.Digits.{is_digit, digit_in, spread}
use Rattle.numerals.specs.Numerals.{is_blank}

-- ---- reading: lower-case digits

abbrev pub hex_digit : ℕ → ℕ
hex_digit n = cond (ltb n 10) (48 + n) (87 + n)

abbrev pub hex_pair : ℕ → ℕ → List ℕ
hex_pair order b = cond (eqb order 0) (hex_digit (b / 16) ∷ hex_digit (b % 16) ∷ []) (hex_digit (b % 16) ∷ hex_digit (b / 16) ∷ [])

unfoldable pub hex_of : ℕ → List ℕ → List ℕ
hex_of order s = spread (hex_pair order) s

-- ---- writing: digits of either case, blanks skipped

-- the value of a digit, 0-9, A-F or a-f; 16 for any other byte
abbrev pub nibble_in : ℕ → ℕ
nibble_in x = cond (is_digit x) (digit_in x) (cond (leb 65 x && leb x 70) (x - 55) (cond (leb 97 x && leb x 102) (x - 87) 16))

abbrev pub is_hex : ℕ → Bool
is_hex x = ltb (nibble_in x) 16

abbrev pub is_ink : ℕ → Bool
is_ink x = not (is_blank x)

unfoldable pub digits_in : List ℕ → List ℕ
digits_in text = keep_by is_ink text

abbrev pub pair_of : ℕ → ℕ → ℕ → ℕ
pair_of order a b = cond (eqb order 0) (nibble_in a * 16 + nibble_in b) (nibble_in b * 16 + nibble_in a)

abbrev pub pair_up : ℕ → List ℕ → List ℕ
pair_up order [] = []
pair_up order (a ∷ []) = []
pair_up order (a ∷ b ∷ r) = pair_of order a b ∷ pair_up order r

-- "hex text of digits and even? 13", "Value fits .. ? 14"
unfoldable pub judged_of : ℕ → List ℕ → ℕ
judged_of w text =
    cond (every_by is_hex (digits_in text)) (cond (eqb (length (digits_in text) % 2) 0) (cond (leb (length (digits_in text)) (2 * w)) 0 14) 13) 13

-- "Hex is zero-filled at the right"
unfoldable pub bytes_of : ℕ → ℕ → List ℕ → List ℕ
bytes_of order w text = pair_up order (digits_in text) ++ replicate (w - length (digits_in text) / 2) 0

-- ---- "Hex: 2w lower-case digits" is what fits

abbrev pub is_lower : ℕ → Bool
is_lower x = is_hex x && eqb (hex_digit (nibble_in x)) x

pub record Fits (w : ℕ) (text : List ℕ) : Type 0 where
  pub lower : every_by is_lower text ≡ true
  pub long : length text ≡ 2 * w
