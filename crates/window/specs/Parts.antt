-- What the parts of the call leave: a record's pair read, and a pair taken into a window. Only inner functions cite this file.
use Rattle.std.specs.Prelude.{◌≡◌, ℕ, List, length, replicate, ℤ, pos, Result, Ok, Err}
use Rattle.codes.specs.declared.Refusal.{Refusal}
use Rattle.walks.specs.Records.{Decoded, items_of}
use Rattle.walks.specs.Records as Records
use Rattle.window.specs.Window.{Pair, pair, firsts, seconds}
use Rattle.window.specs.Pair.{pair_in}
use Rattle.window.specs.Calls.{judged, number_of, window_after, sum_after}

-- the pair of a result: zeros after a refusal
abbrev pub pair_given : Result (Pair ℕ) Refusal → Pair ℕ
pair_given (Ok p) = p
pair_given (Err e) = pair 0 0

-- the reader's number, the pair of the list read, and the buffers cleared
pub record PairRead (d : Decoded) (l : List ℕ) (first second number : ℕ) (p : Pair ℕ) (items items' text text' : List ℕ) (counts counts' : List ℤ) : Type 0 where
  pub numbered : number ≡ Records.number_of d
  pub pair_read : p ≡ pair_in l first second (items_of d)
  pub items_left : items' ≡ replicate (length items) 0
  pub text_left : text' ≡ replicate (length text) 0
  pub counts_left : counts' ≡ replicate (length counts) (pos 0)

-- a pair and a lawful window
pub record PairTaken (p : Pair ℕ) (scale w number : ℕ) (one two : ℤ) (window window' : List ℕ) : Type 0 where
  pub numbered : number ≡ number_of (judged p)
  pub first_sum : one ≡ sum_after firsts scale w window (judged p)
  pub second_sum : two ≡ sum_after seconds scale w window (judged p)
  pub window_left : window' ≡ window_after scale w window (judged p)
