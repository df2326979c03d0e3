-- A run of bytes as a number, and the bytes of a number. "Order: 0 Big, 1 Little."
use Rattle.std.specs.Prelude.{List, [], ◌∷◌, cond, ℕ, zero, suc, ◌+◌, ◌*◌, ◌/◌, ◌%◌, ◌^◌, eqb}

-- the most significant byte first, after a number that is read already
abbrev pub big_from : ℕ → List ℕ → ℕ
big_from acc [] = acc
big_from acc (b ∷ bs) = big_from (acc * 256 + b) bs

-- the least significant byte first
abbrev pub little_of : List ℕ → ℕ
little_of [] = 0
little_of (b ∷ bs) = little_of bs * 256 + b

unfoldable pub word_in : ℕ → List ℕ → ℕ
word_in order s = cond (eqb order 0) (big_from 0 s) (little_of s)

-- the n low bytes of v
abbrev pub big_bytes : ℕ → ℕ → List ℕ
big_bytes zero v = []
big_bytes (suc n) v = v / 256 ^ n % 256 ∷ big_bytes n v

abbrev pub little_bytes : ℕ → ℕ → List ℕ
little_bytes zero v = []
little_bytes (suc n) v = v % 256 ∷ little_bytes n (v / 256)

unfoldable pub bytes_of : ℕ → ℕ → ℕ → List ℕ
bytes_of order n v = cond (eqb order 0) (big_bytes n v) (little_bytes n v)
