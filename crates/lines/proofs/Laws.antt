-- One turn of each loop over a line or its value, and its ends.
use mathlib.Core.Path.{◌≡◌, refl, sym, ap, ◌∙◌}
use mathlib.Core.Bool.{true, false, ◌&&◌, cond, and-false, false≢true}
use mathlib.Core.List.{List, [], ◌∷◌, map}
use Prim.Native.Nat.{ℕ, ◌+◌, ◌-◌, ◌*◌, ◌≤◌, ◌<◌, zero-le, suc-le-suc}
use native.Mathlib.Nat.{le_trans, le_refl, le_of_lt}
use native.Mathlib.Numerals.{add-one}
use native.Mathlib.Omega.{arith}
use lib.Dec.{eqb, ltb}
use lib.ListN.{length, get_or, take, drop, drop_of_length-le}
use lib.Seq.{drop-cons, length-take-le}
use borrow.Author.Tests.{lt-ltb, le-ltb, le-leb, lt-leb}
use Rattle.std.specs.List.{starts_with as std_starts_with}
use Rattle.lists.specs.Scan.{before_by, every_by}
use Rattle.codes.specs.Codes.{absent}
use Rattle.lists.proofs.Scan.{tail-part}
use Rattle.lists.proofs.Logic.{and_right}
use Rattle.value.specs.Digits.{value_from, is_digit, digit_in}
use Rattle.lines.specs.Lines.{place, is_end, line_from, start_in, starts_with, value_at, leads, number_of}
use Rattle.value.specs.Answer.{Answer, refused, given}
use Rattle.lines.proofs.Std.{starts_std}

-- ---- a word at the front

pub starts-long : (w s : List ℕ) → starts_with w s ≡ true → length w ≤ length s
unfolding starts_with
starts-long [] s e = zero-le
starts-long (x ∷ w) [] e = absurd (false≢true e)
starts-long (x ∷ w) (y ∷ s) e = suc-le-suc (starts-long w s (and_right (eqb y x) (starts_with w s) e))

-- ---- a line: the first n bytes of what is left of the text from `at` on

module _ (text rest : List ℕ) (at n : ℕ) (cut : rest ≡ take (length text - at) (drop at text)) (found : (n ≤ length rest) × (take n rest ≡ before_by is_end rest)) (word : List ℕ) where
  whole : drop at text ≡ rest
  whole = sym (cut ∙ tail-part text at)

  line-is : line_from text at ≡ take n rest
  line-is = ap (before_by is_end) whole ∙ sym found.1

  line-long : length (line_from text at) ≡ n
  line-long = ap length line-is ∙ length-take-le n rest found.0

  pub line_open : n ≡ length rest → refused 17 ≡ value_at word text at
  unfolding value_at
  line_open h = rw (line-long, whole, le-ltb n (length rest) (omega arith))

  pub line_other : (n ≡ length rest → ⊥) → std_starts_with eqb (take n rest) word ≡ false → refused 17 ≡ value_at word text at
  unfolding value_at
  line_other h e = let k : n < length rest = omega (arith, found.0) in rw (line-long, whole, lt-ltb n (length rest) k, starts_std, sym found.1, e)

  pub line_found : (n ≡ length rest → ⊥) → std_starts_with eqb (take n rest) word ≡ true → given (place (at + length word) (at + n) (at + n + 1)) ≡ value_at word text at
  unfolding value_at
  line_found h e = let k : n < length rest = omega (arith, found.0) in rw (line-long, whole, lt-ltb n (length rest) k, starts_std, sym found.1, e)

pub line_past : (word text : List ℕ) (at : ℕ) → length text < at → refused 17 ≡ value_at word text at
unfolding value_at before_by
line_past word text at h = rw (drop_of_length-le text (le_of_lt h))

pub start-past : (text : List ℕ) (at : ℕ) → length text < at → 0 ≡ start_in text at
start-past text at h = rw (lt-leb at (length text) h) refl

pub start-there : (text : List ℕ) (at : ℕ) → at ≤ length text → at ≡ start_in text at
start-there text at h = rw (le-leb at (length text) h) refl

pub none_past : (text : List ℕ) (at : ℕ) → length text < at → [] ≡ line_from text at
unfolding before_by
none_past text at h = rw (drop_of_length-le text (le_of_lt h))

-- ---- a number

-- what the bytes make of a number that is read already
abbrev pub number_from : ℕ → List ℕ → Answer ℕ
number_from v s = cond (every_by is_digit s && ltb (value_from v (map digit_in s)) absent) (given (value_from v (map digit_in s))) (refused 17)

pub number_start : (s : List ℕ) → leads s ≡ true → number_of s ≡ number_from 0 s
unfolding number_of
number_start s e = rw e

pub number_lead : (s : List ℕ) → leads s ≡ false → refused 17 ≡ number_of s
unfolding number_of
number_lead s e = rw e

pub grows : (v : ℕ) (s : List ℕ) → v ≤ value_from v (map digit_in s)
grows v [] = le_refl v
grows v (x ∷ s) = le_trans {m = v * 10 + digit_in x} (omega arith) (grows (v * 10 + digit_in x) s)

over : (v : ℕ) (s : List ℕ) → absent ≤ v → number_from v s ≡ refused 17
over v s h = rw (le-ltb (value_from v (map digit_in s)) absent (le_trans h (grows v s)), and-false (every_by is_digit s))

module _ (s : List ℕ) (i v : ℕ) (h : i < length s) where
  pub number_go : is_digit (get_or s i 0) ≡ true → number_from v (drop i s) ≡ number_from (v * 10 + (get_or s i 0 - 48)) (drop (i + 1) s)
  unfolding every_by
  number_go e = rw (add-one, drop-cons s i 0, e)

  pub number_stop : is_digit (get_or s i 0) ≡ false → number_from v (drop i s) ≡ refused 17
  unfolding every_by
  number_stop e = rw (drop-cons s i 0, e)

  pub number_over : is_digit (get_or s i 0) ≡ true → absent ≤ v * 10 + (get_or s i 0 - 48) → number_from v (drop i s) ≡ refused 17
  number_over e c = number_go e ∙ over (v * 10 + (get_or s i 0 - 48)) (drop (i + 1) s) c

pub number_end : (s : List ℕ) (i v : ℕ) → length s ≤ i → v < absent → number_from v (drop i s) ≡ given v
unfolding every_by
number_end s i v h k = rw (drop_of_length-le s h, lt-ltb v absent k)
