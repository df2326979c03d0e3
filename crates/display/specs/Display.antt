-- What an Int or a Display field of any width says, and the bytes of a number in one. All over bytes as ASCII; sizes below a bound.
use Rattle.std.specs.Prelude.{List, [], ◌∷◌, ◌++◌, map, Bool, true, false, ◌&&◌, ◌||◌, not, cond, ℕ, ◌+◌, ◌-◌, ◌^◌, ltb, leb, eqb, length, get_or, take, drop}
use Rattle.value.specs.Digits.{value_of, digit_text, is_digit, digit_in, limit, room_for}
use Rattle.value.specs.Answer.{Answer, refused, given}
use Rattle.value.specs.declared.Whole.{Whole}
use Rattle.value.specs.Number.{some, read_in, unlawful, no_number}
use Rattle.value.specs.Field.{last_of}
use Rattle.value.specs.declared.Scalar.{Scalar}
use Rattle.value.specs.declared.Scalar.TheVariants.{Null, Text, Int, Decimal, Float, FloatBits, Bool as BoolV}
use Rattle.ebcdic.specs.Ebcdic.{onto_page}
use Rattle.lists.specs.Scan.{every_by}
use Rattle.numerals.specs.Numerals.{trimmed, kept_by, is_sign, sign_byte}

-- ---- a separate sign. "Sign: 0 Unsigned, 1 Embedded, 2 LeadingSeparate, 3 TrailingSeparate"; any other word is as 0

abbrev pub is_separate : ℕ → Bool
is_separate sign = eqb sign 2 || eqb sign 3

-- the byte of a trimmed text where a separate sign may stand; 0 where none may
unfoldable pub sign_at : ℕ → List ℕ → ℕ
sign_at sign t = cond (eqb sign 2) (get_or t 0 0) (cond (eqb sign 3) (last_of t) 0)

-- what is left of the text when a separate sign is taken
unfoldable pub rest_of : ℕ → List ℕ → List ℕ
rest_of sign t = cond (is_sign (sign_at sign t)) (cond (eqb sign 2) (drop 1 t) (take (length t - 1) t)) t

-- ---- reading

-- the number of a text of digits alone: "All bytes are judged before the size"
unfoldable pub digits_in : ℕ → Bool → List ℕ → Answer Whole
digits_in bound negative t = cond (ltb 0 (length t) && every_by is_digit t) (read_in bound negative (value_of (map digit_in t))) unlawful

-- "one leading + or - is allowed"; from -2^63 to 2^63 - 1
unfoldable pub whole_of : List ℕ → Answer Whole
whole_of t =
    cond (eqb (get_or t 0 0) 45) (digits_in (2 ^ 63 + 1) true (drop 1 t))
    (cond (eqb (get_or t 0 0) 43) (digits_in (2 ^ 63) false (drop 1 t))
    (digits_in (2 ^ 63) false t))

-- behind the separate sign: "blanks trimmed; empty is 0; if no sign was taken, one leading + or - is allowed"
unfoldable pub int_in : ℕ → List ℕ → List ℕ → Answer Whole
int_in sign t u =
    cond (eqb (length u) 0) (some false 0)
    (cond (is_sign (sign_at sign t)) (digits_in (2 ^ 63) (eqb (sign_at sign t) 45) u)
    (whole_of u))

-- "Int: blanks trimmed, separate sign taken, blanks trimmed"
unfoldable pub int_of : ℕ → List ℕ → Answer Whole
int_of sign s = int_in sign (trimmed s) (trimmed (rest_of sign (trimmed s)))

-- "Display (trim and sign as Int) ..: digits kept, others skipped"; answer: what a lawful field answers, from its sign and its size
abbrev pub decimal_by : {X : Type 0} → (Bool → ℕ → X) → X → ℕ → List ℕ → X
decimal_by answer bad sign s = kept_by (answer (eqb (sign_at sign (trimmed s)) 45)) bad (rest_of sign (trimmed s))

unfoldable pub decimal_of : ℕ → List ℕ → Answer Whole
decimal_of sign s = decimal_by (read_in limit) unlawful sign s

-- "integer text outside 64 bits (13)": where a text is meant as a number, whatever refuses it as one refuses it by 13
abbrev pub or_refused : Answer Whole → Answer Whole
or_refused (refused question) = no_number
or_refused (given n) = given n

-- "value of a kind Rust takes there, text for a number an integer": the integer that a scalar stands for
abbrev pub whole_in : Scalar → List ℕ → Answer Whole
whole_in Null text = some false 0
whole_in (Text start count) text = or_refused (whole_of (trimmed text))
whole_in (Int negative size) text = some negative size
whole_in (Decimal negative size scale) text = cond (eqb scale 0) (some negative size) no_number
whole_in (Float x) text = no_number
whole_in (FloatBits w) text = no_number
whole_in (BoolV b) text = no_number

-- ---- writing

-- a separate sign takes a byte; without one a minus needs a signed field
unfoldable pub int_fits : ℕ → Bool → ℕ → Bool → ℕ → Bool
int_fits w negative size signed sign = cond (is_separate sign) (room_for (w - 1) size) (not (negative && not signed) && room_for w size)

-- "signed Int without a separate sign and Embedded Display lose the minus"; since S-4 of 02 signed Embedded Ints are zoned numbers and are not written here
unfoldable pub int_bytes : ℕ → Bool → ℕ → ℕ → List ℕ
int_bytes w negative size sign =
    cond (eqb sign 2) (sign_byte negative ∷ digit_text (w - 1) size)
    (cond (eqb sign 3) (digit_text (w - 1) size ++ (sign_byte negative ∷ []))
    (digit_text w size))

-- the field after writing: the number where it fits, and what it was elsewhere
unfoldable pub int_written : ℕ → Bool → ℕ → Bool → ℕ → List ℕ → List ℕ
int_written page negative size signed sign part =
    cond (int_fits (length part) negative size signed sign) (map (onto_page page) (int_bytes (length part) negative size sign)) part

-- a sign word with a sign
abbrev pub has_sign : ℕ → Bool
has_sign sign = leb 1 sign && leb sign 3

-- "precision at most width"
unfoldable pub decimal_fits : ℕ → ℕ → Bool → ℕ → ℕ → Bool
decimal_fits w precision negative size sign = leb precision w && int_fits w negative size (has_sign sign) sign

unfoldable pub decimal_written : ℕ → ℕ → Bool → ℕ → ℕ → List ℕ → List ℕ
decimal_written page precision negative size sign part =
    cond (decimal_fits (length part) precision negative size sign) (map (onto_page page) (int_bytes (length part) negative size sign)) part
