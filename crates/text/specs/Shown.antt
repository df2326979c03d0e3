-- A scalar as text: the decimal text of a number, `true` or `false`, nothing for Null.
use Rattle.std.specs.Prelude.{ℕ, zero, suc, ◌+◌, ◌/◌, ◌^◌, Bool, true, false, ◌&&◌, cond, List, [], ◌∷◌, ◌++◌, length, take, drop, eqb, leb, ltb}
use Rattle.value.specs.Digits.{digit_text}
use Rattle.value.specs.declared.Scalar.{Scalar}
use Rattle.value.specs.declared.Scalar.TheVariants.{Null, Text, Int, Decimal, Float as FloatV, FloatBits, Bool as BoolV}
use Rattle.value.specs.Answer.{Answer, refused, given}
use Rattle.text.specs.Text.{front, written_in}

-- how many digits v has: one if it is below 10, which the Bool says, else one more than its tenth
abbrev pub count_in : ℕ → Bool → ℕ → ℕ
count_in zero small v = 1
count_in (suc steps) true v = 1
count_in (suc steps) false v = suc (count_in steps (ltb (v / 10) 10) (v / 10))

-- v steps are enough
unfoldable pub digit_count : ℕ → ℕ
digit_count v = count_in v (ltb v 10) v

-- v without leading zeros, `0` for 0
abbrev pub whole_text : ℕ → List ℕ
whole_text v = digit_text (digit_count v) v

-- a minus before a negative number; 0 has none
abbrev pub minus_text : Bool → ℕ → List ℕ
minus_text negative size = cond (ltb 0 size && negative) (45 ∷ []) []

-- an integer, as Rust's to_string gives it
abbrev pub int_text : Bool → ℕ → List ℕ
int_text negative size = minus_text negative size ++ whole_text size

-- a decimal: the whole part, a point and all digits of its scale; an integer at scale 0
unfoldable pub decimal_text : Bool → ℕ → ℕ → List ℕ
decimal_text negative size scale =
    cond (eqb scale 0) (int_text negative size)
    (minus_text negative size ++ (whole_text (size / 10 ^ scale) ++ (46 ∷ digit_text scale size)))

abbrev pub bool_text : Bool → List ℕ
bool_text b = cond b (116 ∷ 114 ∷ 117 ∷ 101 ∷ []) (102 ∷ 97 ∷ 108 ∷ 115 ∷ 101 ∷ [])

-- a text, or none
pub data Shows : Type 0 where
  shows : List ℕ → Shows
  none : Shows

-- the text of a scalar that is no Text: a Float has none, nor has a decimal of a scale above 18, which no lawful item has
abbrev pub shown_of : Scalar → Shows
shown_of Null = shows []
shown_of (Text start count) = none
shown_of (Int negative size) = shows (int_text negative size)
shown_of (Decimal negative size scale) = cond (leb scale 18) (shows (decimal_text negative size scale)) none
shown_of (FloatV x) = none
shown_of (FloatBits w) = none
shown_of (BoolV b) = shows (bool_text b)

-- its bytes stand in the text buffer
abbrev pub is_text : Scalar → Bool
is_text Null = false
is_text (Text start count) = true
is_text (Int negative size) = false
is_text (Decimal negative size scale) = false
is_text (FloatV x) = false
is_text (FloatBits w) = false
is_text (BoolV b) = false

-- what a Text field takes of a scalar; a Text's own bytes are given
abbrev pub text_in : Scalar → List ℕ → Shows
text_in v bytes = cond (is_text v) (shows bytes) (shown_of v)

-- ---- what the functions answer and leave

-- the length of a text; "value of a kind Rust takes there ..? 13"
abbrev pub answer_of : Shows → Answer ℕ
answer_of (shows t) = given (length t)
answer_of none = refused 13

-- the text at the front of the array; its other bytes stay
abbrev pub shown_in : Shows → List ℕ → List ℕ
shown_in (shows t) out = front t out
shown_in none out = out

-- the room that a text takes
abbrev pub room_of : Shows → ℕ
room_of (shows t) = length t
room_of none = 0

-- a text at a place of a buffer, the rest of which stays
abbrev pub placed : ℕ → List ℕ → List ℕ → List ℕ
placed at t out = take at out ++ (t ++ drop (at + length t) out)

-- "value of a kind Rust takes there" (13), "Value fits" (14), at a width
abbrev pub refusal_at : ℕ → Shows → ℕ
refusal_at w (shows t) = cond (leb (length t) w) 0 14
refusal_at w none = 13

-- the field after writing; as it was where the text is refused
abbrev pub encoded_in : ℕ → Bool → ℕ → List ℕ → Shows → List ℕ
encoded_in page right pad part (shows t) = written_in page right pad part t
encoded_in page right pad part none = part
