-- What is answered for a number: its sign and its size, or the question that refuses.
use Rattle.std.specs.Prelude.{ℕ, Bool, cond, ◌&&◌, nat_lt}
use Rattle.value.specs.declared.Whole.{Whole}
use Rattle.value.specs.Answer.{Answer, refused, given}
use Rattle.value.specs.Digits.{limit}

-- the whole number of a sign and a size
abbrev pub number : Bool → ℕ → Whole
number negative v = record { negative = negative; size = v }

-- the number of a sign and a size; 0 has no sign
abbrev pub some : Bool → ℕ → Answer Whole
some negative v = given (number (nat_lt 0 v && negative) v)

-- a size below a bound is a number; any other is refused by a question
abbrev pub number_in : ℕ → ℕ → Bool → ℕ → Answer Whole
number_in question bound negative v = cond (nat_lt v bound) (some negative v) (refused question)

-- "Bytes lawful ..? 8. Value in range? 9."
abbrev pub unlawful : Answer Whole
unlawful = refused 8

abbrev pub read_in : ℕ → Bool → ℕ → Answer Whole
read_in bound negative v = number_in 9 bound negative v

-- "value of a kind Rust takes there ..? 13. .. Value fits ..? 14."; "Decimal sizes from 10^18 (9; in writing 14)"
abbrev pub no_number : Answer Whole
no_number = refused 13

abbrev pub amount_of : Bool → ℕ → Answer Whole
amount_of negative v = number_in 14 limit negative v

-- a number with a sign in front of it
abbrev pub with_sign : Bool → Answer Whole → Answer Whole
with_sign negative (refused question) = refused question
with_sign negative (given n) = some negative n.size
