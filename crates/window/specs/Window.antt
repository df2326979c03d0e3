-- 02, S-2: "The lent window is 2W + 5 64-bit words: count, both sums, two zeros, then the pairs held, oldest first."
-- S-7: "The first zero word now holds 0 or that scale plus 1, the second 1 once passed, else 0": a display word and the word of the rule.
-- Numbers and sums are two's complement words, so a sum of words is taken modulo 2^64.
use Rattle.std.specs.Prelude.{ℕ, zero, suc, ◌+◌, ◌-◌, ◌*◌, ◌/◌, ◌%◌, ◌^◌, Bool, true, false, cond, ◌&&◌, List, [], ◌∷◌, ◌++◌, length, drop, replicate, ℤ, pos, ◌+ℤ◌, ◌==◌, nat_le, nat_lt, slice_index, slice_set}
use Rattle.value.specs.Digits.{signed_of}
use Rattle.value.specs.Rounding.{rounded}
use Rattle.value.specs.Word.{word_of, minus_in, size_in}
pub use Rattle.window.specs.declared.Pair.{Pair}

abbrev pub window_words : ℕ → ℕ
window_words w = 5 + w * 2

abbrev pub pair : ℕ → ℕ → Pair ℕ
pair a b = record { first = a; second = b }

abbrev pub firsts : List (Pair ℕ) → List ℕ
firsts [] = []
firsts (p ∷ ps) = p.first ∷ firsts ps

abbrev pub seconds : List (Pair ℕ) → List ℕ
seconds [] = []
seconds (p ∷ ps) = p.second ∷ seconds ps

-- their words, one pair behind the other
abbrev pub flat : List (Pair ℕ) → List ℕ
flat [] = []
flat (p ∷ ps) = p.first ∷ p.second ∷ flat ps

-- so many pairs from the front of words
abbrev pub pairs_of : ℕ → List ℕ → List (Pair ℕ)
pairs_of zero l = []
pairs_of (suc n) l = pair (slice_index l 0) (slice_index l 1) ∷ pairs_of n (drop 2 l)

-- "the last W .., or .. all while there are fewer"
abbrev pub last_of : ℕ → List (Pair ℕ) → List (Pair ℕ)
last_of w ps = drop (length ps - w) ps

-- a sum of words, as a word
abbrev pub total : List ℕ → ℕ
total [] = 0
total (x ∷ xs) = x + total xs

abbrev pub sum_in : List ℕ → ℕ
sum_in xs = total xs % 2 ^ 64

-- the whole number of a word, and a sum of whole numbers
abbrev pub whole_of : ℕ → ℤ
whole_of x = signed_of (minus_in x) (size_in x)

abbrev pub sum_of : List ℕ → ℤ
sum_of [] = pos 0
sum_of (x ∷ xs) = whole_of x +ℤ sum_of xs

-- what a window holds
abbrev pub held_in : List ℕ → List (Pair ℕ)
held_in l = pairs_of (slice_index l 0) (drop 5 l)

-- its display word: 0 without a display scale, else that scale plus 1
abbrev pub display_in : List ℕ → ℕ
display_in l = slice_index l 3

-- These pairs laid into a window: count, both sums, the two words behind them as they were, the pairs; what stands behind the pairs stays.
unfoldable pub laid : List (Pair ℕ) → List ℕ → List ℕ
laid ps l = length ps ∷ sum_in (firsts ps) ∷ sum_in (seconds ps) ∷ display_in l ∷ slice_index l 4 ∷ (flat ps ++ drop (window_words (length ps)) l)

-- not "10^12 or more in size"; a word is below 2^64
abbrev pub small : ℕ → Bool
small x = nat_lt x (2 ^ 64) && nat_lt (size_in x) (10 ^ 12)

abbrev pub small_pair : Pair ℕ → Bool
small_pair p = small p.first && small p.second

abbrev pub all_small : List (Pair ℕ) → Bool
all_small [] = true
all_small (p ∷ ps) = small_pair p && all_small ps

-- not "its count is above W", and S-7 of the two words behind the sums: "0 or that scale plus 1", which is below the entries' scale plus 1, and 0 or 1; "any other is 24"
abbrev pub words_ok : ℕ → ℕ → List ℕ → Bool
words_ok w scale l = nat_le (slice_index l 0) w && nat_le (display_in l) scale && nat_le (slice_index l 4) 1

-- not "its sums are not those of what it holds"
abbrev pub sums_ok : List ℕ → Bool
sums_ok l = slice_index l 1 == sum_in (firsts (held_in l)) && slice_index l 2 == sum_in (seconds (held_in l))

-- Question 24, of a window of W pairs whose entries have a scale: its count and the two words behind the sums, not "a held number is 10^12 or more in size", its sums.
unfoldable pub lawful_in : ℕ → ℕ → List ℕ → Bool
lawful_in w scale l = words_ok w scale l && all_small (held_in l) && sums_ok l

-- "a start that zeroes it", all but its display word; the words behind it stay
unfoldable pub started : ℕ → ℕ → List ℕ → List ℕ
started w display l = 0 ∷ 0 ∷ 0 ∷ display ∷ 0 ∷ (replicate (w * 2) 0 ++ drop (window_words w) l)

-- the changeover: "the second 1 once passed"
unfoldable pub changed : List ℕ → List ℕ
changed l = slice_set l 4 1

-- What an accepted pair makes of a window: the last W of what it holds and the pair.
unfoldable pub accepted : ℕ → Pair ℕ → List ℕ → List ℕ
accepted w p l = laid (last_of w (held_in l ++ (p ∷ []))) l

-- ---- what a value contributes

-- 02, S-7: "pass from cutting to half-even rounding between two records"
pub data Rule : Type 0 where
  cutting : Rule
  half_even : Rule

-- n / d by a rule; half-even rounding is that of S-6
abbrev pub ruled : Rule → ℕ → ℕ → ℕ
ruled cutting n d = n / d
ruled half_even n d = rounded n d

-- the rule by whether the changeover is passed
abbrev pub rule_of : Bool → Rule
rule_of true = half_even
rule_of false = cutting

-- the rule of a window: "the second 1 once passed"
abbrev pub rule_in : List ℕ → Rule
rule_in l = rule_of (slice_index l 4 == 1)

-- What a value of the entries' scale contributes, by a display word and a rule: itself, or its value at the display scale; a minus whose size becomes 0 is 0.
unfoldable pub contributed : ℕ → ℕ → Rule → ℕ → ℕ
contributed scale display rule x = cond (display == 0) x (word_of (minus_in x) (ruled rule (size_in x) (10 ^ (scale - (display - 1)))))

abbrev pub contributed_pair : ℕ → ℕ → Rule → Pair ℕ → Pair ℕ
contributed_pair scale display rule p = pair (contributed scale display rule p.first) (contributed scale display rule p.second)
