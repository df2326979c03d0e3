-- Numbers in base 10: what a list of digits spells, and the digits of a number, over any count of digits.
use Rattle.std.specs.Prelude.{ℕ, zero, suc, ◌+◌, ◌-◌, ◌*◌, ◌/◌, ◌%◌, ◌^◌, min, Bool, true, cond, ◌&&◌, List, [], ◌∷◌, ◌++◌, map, ℤ, pos, neg_ℤ, nat_le, nat_lt}

-- the number that digits spell, most significant first, after a number that is read already
abbrev pub value_from : ℕ → List ℕ → ℕ
value_from acc [] = acc
value_from acc (d ∷ ds) = value_from (acc * 10 + d) ds

abbrev pub value_of : List ℕ → ℕ
value_of ds = value_from 0 ds

-- every digit is below 10
abbrev pub digits_ok : List ℕ → Bool
digits_ok [] = true
digits_ok (d ∷ ds) = nat_lt d 10 && digits_ok ds

-- the digit of v at a place: place 0 is the units
abbrev pub digit_at : ℕ → ℕ → ℕ
digit_at place v = v / 10 ^ place % 10

-- the n low digits of v, most significant first: places n - 1 down to 0
abbrev pub digits_of : ℕ → ℕ → List ℕ
digits_of zero v = []
digits_of (suc n) v = digit_at n v ∷ digits_of n v

-- a digit's ASCII byte
abbrev pub ascii_of : ℕ → ℕ
ascii_of d = 48 + d

-- an ASCII digit, and the number it shows
abbrev pub is_digit : ℕ → Bool
is_digit x = nat_le 48 x && nat_le x 57

abbrev pub digit_in : ℕ → ℕ
digit_in x = x - 48

-- the n low digits of v as text
abbrev pub digit_text : ℕ → ℕ → List ℕ
digit_text n v = map ascii_of (digits_of n v)

-- a size has no more digits than there are places; 0 has one digit
abbrev pub room_for : ℕ → ℕ → Bool
room_for places size = nat_lt 0 places && nat_lt size (10 ^ places)

-- Decimals are "below 10^18 in size"
abbrev pub limit : ℕ
limit = 1_000_000_000_000_000_000

-- a size that has stopped counting at the limit
abbrev pub capped : ℕ → ℕ
capped v = min v limit

-- a sign and a size, as an integer
abbrev pub signed_of : Bool → ℕ → ℤ
signed_of negative v = cond negative (neg_ℤ (pos v)) (pos v)

-- the digits of each byte, one after the other
abbrev pub spread : (ℕ → List ℕ) → List ℕ → List ℕ
spread f [] = []
spread f (b ∷ bs) = f b ++ spread f bs
