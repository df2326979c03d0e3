-- IEEE 754's binary16: a sign, five bits of exponent and ten of fraction.
use Rattle.std.specs.Prelude.{ℕ, ◌+◌, ◌-◌, ◌*◌, ◌/◌, ◌%◌, ◌^◌, Bool, cond, negsuc, ◌==◌, nat_le, to_bits, Float}
use Rattle.std.specs.Float.{nan, inf, fin, binary64}

-- the significand as a whole number, h the leading digit's weight: a field of 0 has no leading digit
abbrev pub sig : ℕ → ℕ → ℕ → ℕ
sig h e t = cond (e == 0) t (h + t)

-- sign s, exponent's field e, fraction's field t: the significand times 2 ^ (e - 1) * 2 ^ -24, where a field of 0 counts as one of 1
abbrev pub finite16 : Bool → ℕ → ℕ → Float
finite16 s e t = fin s (sig 1024 e t * 2 ^ (e - 1)) (negsuc 23)

-- the highest field is an infinity or a NaN
unfoldable pub fields16 : Bool → ℕ → ℕ → Float
fields16 s e t = cond (e == 31) (cond (t == 0) (inf s) nan) (finite16 s e t)

unfoldable pub half16 : ℕ → Float
unfolding fields16
half16 h = fields16 (nat_le 32768 h) (h % 32768 / 1024) (h % 1024)

-- "the 16-bit reading .. is exact": the f64 pattern of that number; `to_bits` has 0x7FF8000000000000 for a NaN
unfoldable pub half_word : ℕ → ℕ
unfolding half16
half_word h = to_bits binary64 (half16 h)
