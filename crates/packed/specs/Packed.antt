-- What a packed field of any width says, and the bytes of a number in one.
use Rattle.std.specs.Prelude.{List, [], ◌∷◌, ◌++◌, Bool, ◌||◌, cond, ◌≡◌, ℕ, ◌+◌, ◌-◌, ◌*◌, ◌/◌, ◌%◌, ◌<◌, leb, eqb, length, get_or}
use Rattle.value.specs.Digits.{digit_at, digits_of, limit, room_for}
use Rattle.value.specs.Answer.{Answer}
use Rattle.value.specs.declared.Whole.{Whole}
use Rattle.value.specs.Number.{read_in, unlawful}
use Rattle.value.specs.Field.{field_of}

-- a byte's two nibbles
abbrev pub nibbles : ℕ → List ℕ
nibbles b = b / 16 ∷ b % 16 ∷ []

-- B and D are negative; A, C, E and F are not
abbrev pub is_negative : ℕ → Bool
is_negative sign = eqb sign 11 || eqb sign 13

abbrev pub is_sign : ℕ → Bool
is_sign sign = leb 10 sign

-- the last byte's digit and sign
abbrev pub high_of : ℕ → ℕ
high_of b = b / 16

abbrev pub signed : ℕ → Bool
signed b = is_sign (b % 16)

-- each byte but the last holds two digits, and the last one a digit and the sign; answer: what a lawful field answers, from its sign and its size
abbrev pub packed_by : {X : Type 0} → (Bool → ℕ → X) → X → List ℕ → X
packed_by answer bad part = field_of nibbles high_of signed (λ b size. answer (is_negative (b % 16)) size) bad part

unfoldable pub decode_of : List ℕ → Answer Whole
decode_of part = packed_by (read_in limit) unlawful part

-- ---- writing

-- nibbles, two to a byte
abbrev pub pairs : List ℕ → List ℕ
pairs [] = []
pairs (a ∷ []) = []
pairs (a ∷ b ∷ r) = (a * 16 + b) ∷ pairs r

abbrev pub sign_of : Bool → Bool → ℕ
sign_of signed negative = cond signed (cond negative 13 12) 15

-- the 2 w - 1 low digits of the size, and the sign
abbrev pub encoded_of : ℕ → Bool → ℕ → Bool → List ℕ
encoded_of w negative size signed = pairs (digits_of (2 * w - 1) size ++ (sign_of signed negative ∷ []))

-- a field of w bytes has 2 w - 1 digits; one of no bytes has none
abbrev pub fits_of : ℕ → ℕ → Bool
fits_of w size = room_for (2 * w - 1) size

-- the field after writing: the number where it fits, and what it was elsewhere
unfoldable pub written_of : List ℕ → Bool → ℕ → Bool → List ℕ
written_of part negative size signed =
    cond (fits_of (length part) size) (encoded_of (length part) negative size signed) part

-- 02, S-3: "each byte is proved to hold its two digits by its place": counted from the right, byte k holds places 2 k and 2 k - 1, for place 0, the units, stands in the last byte
abbrev pub two_at : ℕ → ℕ → ℕ → ℕ
two_at w i size = digit_at (2 * (w - 1 - i)) size * 16 + digit_at (2 * (w - 1 - i) - 1) size

-- "Over any width, each byte .. , the last its digit and sign"
pub record ByPlace (part : List ℕ) (size sign : ℕ) : Type 0 where
  pub two : (i : ℕ) → i < length part - 1 → get_or part i 0 ≡ two_at (length part) i size
  pub last : get_or part (length part - 1) 0 ≡ digit_at 0 size * 16 + sign
