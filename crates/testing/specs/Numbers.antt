-- A number that bytes spell, as the public documents of Rust's `u64::from_str_radix` have it: an optional plus, then digits alone.
use Rattle.std.specs.Prelude.{ℕ, ◌^◌, ◌<◌, ◌≤◌, List}
use Rattle.std.specs.Str.Parse.{IsNumeral, digits_value, without_leading_plus}

-- one digit or more, maybe behind a plus, and a number below 2^64
abbrev pub Spells : ℕ → List ℕ → Type 0
Spells radix bytes = IsNumeral radix (without_leading_plus bytes) × (digits_value radix (without_leading_plus bytes) < 2 ^ 64)

-- spelled in a radix that `from_str_radix` has, from 2 to 36
abbrev pub Parses : ℕ → List ℕ → Type 0
Parses radix bytes = (2 ≤ radix) × (radix ≤ 36) × Spells radix bytes

abbrev pub spelled : ℕ → List ℕ → ℕ
spelled radix bytes = digits_value radix (without_leading_plus bytes)
