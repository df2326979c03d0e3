-- Positions as the code adds them: they stop at 2^63, far behind the end of every record.
use Rattle.std.specs.Prelude.{ℕ, ◌+◌, min}

abbrev pub stop : ℕ
stop = 9223372036854775808

abbrev pub sat : ℕ → ℕ
sat n = min stop n

-- a sum that stops
abbrev pub sat_sum : ℕ → ℕ → ℕ
sat_sum a b = sat (a + b)
