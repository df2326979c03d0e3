-- The narrow formats of IEEE 754: p binary digits in a significand, 2 ^ -low the smallest positive number, `ones` the exponent's field of an infinity.
-- binary16 has 11, 24 and 31, and binary32 has 24, 149 and 255.
use Rattle.std.specs.Prelude.{◌≡◌, ℕ, suc, ◌+◌, ◌-◌, ◌*◌, ◌/◌, ◌%◌, ◌^◌, ◌<◌, ◌≤◌, min, Bool, cond, leb, ◌≢◌, from_bits, nat_le, to_bits, Float}
use Rattle.std.specs.Float.{nan, inf, fin, binary32, binary64}
use Rattle.std.specs.Float.Ieee.{up, down, size, unlike}
use Rattle.std.specs.Float.Ieee.Exact.{HasValue}
use Rattle.value.specs.Rounding.{away, rounded}
use Rattle.float.specs.Half.{sig, half16}
use Rattle.float.specs.Single.{narrow}

-- the formats that the code serves
abbrev pub NarrowFormat : ℕ → ℕ → ℕ → Type 0
NarrowFormat p low ones = (1 < p) × (p ≤ 24) × (low ≤ 149) × (1 < ones) × (ones ≤ 255)

-- how many 2 ^ -low the pattern b, without its sign, stands for; the infinity's pattern counts as the power of two that would follow the largest number
abbrev pub units_of : ℕ → ℕ → ℕ
units_of p b = sig (2 ^ (p - 1)) (b / 2 ^ (p - 1)) (b % 2 ^ (p - 1)) * 2 ^ (b / 2 ^ (p - 1) - 1)

-- 02, S-9: "rounds the 64-bit value directly to the nearest binary16 number, ties to even, with subnormals and infinity as IEEE 754 says": b is the pattern of n / d units.
-- Of the patterns up to the infinity's none is nearer, and if another one is as near, b is even, as its last digit is then.
pub record NearestPattern (p infinity n d b : ℕ) : Type 0 where
  pub within : b ≤ infinity
  pub least : (c : ℕ) → c ≤ infinity → away n d (units_of p b) ≤ away n d (units_of p c)
  pub even : (c : ℕ) → c ≤ infinity → (c ≢ b) → away n d (units_of p c) ≡ away n d (units_of p b) → b % 2 ≡ 0

-- n / d units so rounded: the whole part's first p digits are kept, and k dropped
unfoldable pub narrowed : ℕ → ℕ → ℕ → ℕ → ℕ
unfolding size rounded
narrowed p infinity n d = let k = size (n / d) - p in min (k * 2 ^ (p - 1) + rounded n (d * 2 ^ k)) infinity

-- this has the property, and nothing else has it
abbrev pub NarrowedNearest : Type 0
NarrowedNearest = (p infinity n d : ℕ) → 1 < p → 0 < d → NearestPattern p infinity n d (narrowed p infinity n d)

abbrev pub NearestNarrowed : Type 0
NearestNarrowed = (p infinity n d b : ℕ) → 1 < p → 0 < d → NearestPattern p infinity n d b → narrowed p infinity n d ≡ b

-- IEEE 754-2008, 4.3.1: a size from 2 ^ emax * (2 - 2 ^ -p) on, half way from the largest number to the power of two that would follow, is an infinity, and no other is
abbrev pub InfinityFrom : Type 0
InfinityFrom =
    (p infinity n d : ℕ) → 1 < p → 0 < d → 0 < infinity → infinity % 2 ≡ 0
    → (narrowed p infinity n d ≡ infinity → (units_of p (infinity - 1) + units_of p infinity) * d ≤ 2 * n)
    × ((units_of p (infinity - 1) + units_of p infinity) * d ≤ 2 * n → narrowed p infinity n d ≡ infinity)

-- the patterns of the infinity and of the NaN, whose digits are a one and zeros; a sign's weight
abbrev pub infinity_at : ℕ → ℕ → ℕ
infinity_at p ones = ones * 2 ^ (p - 1)

abbrev pub nan_at : ℕ → ℕ → ℕ
nan_at p ones = ones * 2 ^ (p - 1) + 2 ^ (p - 2)

abbrev pub sign_at : ℕ → ℕ → Bool → ℕ
sign_at p ones s = cond s (suc ones * 2 ^ (p - 1)) 0

-- the pattern of a value: a sign stays in front, since a number of the other sign is farther than 0
unfoldable pub pattern_of : ℕ → ℕ → ℕ → Float → ℕ
unfolding narrowed
pattern_of p low ones nan = nan_at p ones
pattern_of p low ones (inf s) = sign_at p ones s + infinity_at p ones
pattern_of p low ones (fin s m e) = sign_at p ones s + narrowed p (infinity_at p ones) (m * up e * 2 ^ low) (down e)

-- a finite value, whatever fraction a / c it is given as, has the nearest pattern
abbrev pub PatternNearest : Type 0
PatternNearest =
    (p low ones : ℕ) (y : Float) (s : Bool) (a c b : ℕ) → 1 < p → 0 < c → HasValue y s a c → NearestPattern p (infinity_at p ones) (a * 2 ^ low) c b
    → pattern_of p low ones y ≡ sign_at p ones s + b

-- 02, S-9: the binary16 pattern of an f64's word; "NaN is written as 0x7E00", whatever its sign
abbrev pub half_pattern : ℕ → ℕ
half_pattern w = pattern_of 11 24 31 (from_bits binary64 w)

-- what a half is read as is so many units of 2 ^ -24
abbrev pub HalfUnits : Type 0
HalfUnits = (h : ℕ) → h % 32768 < 31744 → HasValue (half16 h) (nat_le 32768 h) (units_of 11 (h % 32768)) (2 ^ 24)

-- a half that is a number or an infinity
abbrev pub HalfNumber : ℕ → Type 0
HalfNumber h = (h < 2 ^ 16) × (h % 32768 ≤ 31744)

-- how far the number of the sign s and the size n / d is from the half h, in parts of 1 / d; both sizes are in units of 2 ^ -24, and an infinity counts as 2 ^ 16
abbrev pub half_away : Bool → ℕ → ℕ → ℕ → ℕ
half_away s n d h = let u = units_of 11 (h % 32768) in cond (unlike s (nat_le 32768 h)) (n + u * d) (away n d u)

-- 02, S-9, of binary16 by itself: of the halves of either sign none is nearer to the number than h; if another one is as near, h is even; and h has the number's sign, so that -0 stays
pub record NearestHalf (s : Bool) (n d h : ℕ) : Type 0 where
  pub number : HalfNumber h
  pub sign : leb 32768 h ≡ s
  pub least : (c : ℕ) → HalfNumber c → half_away s n d h ≤ half_away s n d c
  pub even : (c : ℕ) → HalfNumber c → (c ≢ h) → half_away s n d c ≡ half_away s n d h → h % 2 ≡ 0

-- such a half is written for a finite word, whatever fraction a / c its value is given as
abbrev pub HalfNearest : Type 0
HalfNearest = (w : ℕ) (s : Bool) (a c : ℕ) → 0 < c → HasValue (from_bits binary64 w) s a c → NearestHalf s (a * 2 ^ 24) c (half_pattern w)

-- the rule of 32 bits is the same, and what such a pattern is read as is so many units of 2 ^ -149
abbrev pub SingleNarrowed : Type 0
SingleNarrowed = (y : Float) → to_bits binary32 (narrow y) ≡ pattern_of 24 149 255 y

abbrev pub SingleUnits : Type 0
SingleUnits = (v : ℕ) → v % 2 ^ 31 < infinity_at 24 255 → HasValue (from_bits binary32 v) (nat_le (2 ^ 31) v) (units_of 24 (v % 2 ^ 31)) (2 ^ 149)
