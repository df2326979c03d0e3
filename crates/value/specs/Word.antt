-- Two's complement at 64 bits: "Int two's complement".
use Rattle.std.specs.Prelude.{ℕ, ◌-◌, ◌^◌, Bool, cond, ◌&&◌, nat_le, nat_lt}

-- the word of a sign and a size, which is below 2^63, or 2^63 itself with a minus; 0 has no sign
abbrev pub word_of : Bool → ℕ → ℕ
word_of negative size = cond (nat_lt 0 size && negative) (2 ^ 64 - size) size

-- the sign and the size of a word
abbrev pub minus_in : ℕ → Bool
minus_in w = nat_le (2 ^ 63) w

abbrev pub size_in : ℕ → ℕ
size_in w = cond (minus_in w) (2 ^ 64 - w) w

-- 10^k where a word holds it, else 0
abbrev pub power_ten : ℕ → ℕ
power_ten k = cond (nat_lt k 20) (10 ^ k) 0
