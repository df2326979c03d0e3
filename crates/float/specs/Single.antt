-- An f64's word at binary32, and a binary32 pattern as an f64's word.
use Rattle.std.specs.Prelude.{ℕ, ◌*◌, from_bits, to_bits, Float}
use Rattle.std.specs.Float.{nan, inf, fin, binary32, binary64}
use Rattle.std.specs.Float.Ieee.{up, down, round}

-- "Writing to 32 rounds to nearest even"
unfoldable pub narrow : Float → Float
unfolding round
narrow nan = nan
narrow (inf s) = inf s
narrow (fin s m e) = round binary32 s (m * up e) (down e)

-- "NaN writes 0x7FC00000 to 32": `to_bits` has it
abbrev pub single_pattern : ℕ → ℕ
single_pattern w = to_bits binary32 (narrow (from_bits binary64 w))

-- the f64 word of a binary32 pattern: the same number, and "NaN of 16 or 32 bits reads as 0x7FF8000000000000"
abbrev pub wide_word : ℕ → ℕ
wide_word v = to_bits binary64 (from_bits binary32 v)
