-- The three calls: their questions in order, and what they leave.
use Rattle.std.specs.Prelude.{◌≡◌, ℕ, cond, List, length, replicate, ℤ, pos, ◌==◌, nat_le, Result, Ok, Err}
use Rattle.codes.specs.declared.Refusal.{Refusal}
use Rattle.layout.specs.Layout.{layout_asks}
use Rattle.walks.specs.Records.{asking, first_of, Decoded, decode_record, items_of}
use Rattle.walks.specs.Records as Records
use Rattle.window.specs.Window.{Pair, firsts, seconds, window_words, held_in, display_in, sum_of, small_pair, lawful_in, accepted, rule_in, contributed_pair}
use Rattle.window.specs.Pair.{scale_at, pair_asks, pair_in}

-- ---- the questions

-- "then 16: the window is shorter"
abbrev pub room_asks : ℕ → ℕ → ℕ
room_asks w words = cond (nat_le (window_words w) words) 0 16

-- "then 24"
abbrev pub lawful_asks : ℕ → ℕ → List ℕ → ℕ
lawful_asks w scale window = cond (lawful_in w scale window) 0 24

-- "19: a value is 10^12 or more in size"
abbrev pub sizes_ask : Pair ℕ → ℕ
sizes_ask p = cond (small_pair p) 0 19

-- 18 is "asked after the layout questions (1, 2, 3, 16) and before any record; then 16": with a display word, and so many words of window and of work space
unfoldable pub window_asks : List ℕ → List ℕ → ℕ → ℕ → ℕ → ℕ → ℕ → ℕ → ℕ → ℕ
window_asks l masks page w first second display words work =
    first_of (layout_asks l masks page work) (first_of (pair_asks l w first second display) (room_asks w words))

-- the questions before a record: those of a start without a display scale, then 24
unfoldable pub before_asks : List ℕ → List ℕ → ℕ → ℕ → ℕ → ℕ → List ℕ → ℕ → ℕ
before_asks l masks page w first second window work =
    first_of (window_asks l masks page w first second 0 (length window) work) (lawful_asks w (scale_at l first) window)

-- ---- a start, a changeover

-- All that such a call leaves: its number, the window, written only where nothing was refused, and the work space. A start asks `window_asks` ("24, except at the start")
-- and writes `started`; S-7: "The changeover asks the questions before a record" and writes `changed`.
pub record WindowWritten (asked number : ℕ) (written window window' : List ℕ) (counts counts' : List ℤ) : Type 0 where
  pub numbered : number ≡ asked
  pub window_left : window' ≡ cond (asked == 0) written window
  pub counts_left : counts' ≡ replicate (length counts) (pos 0)

-- ---- a record

-- the number that refuses it; or the pair that it gives
pub data Added : Type 0 where
  refused : ℕ → Added
  added : Pair ℕ → Added

-- question 19 of a pair
abbrev pub judged : Pair ℕ → Added
judged p = asking refused (sizes_ask p) (added p)

-- what the reader's outcome gives: 19 is "asked after the reader's own questions"
abbrev pub pair_given : List ℕ → ℕ → ℕ → Decoded → Added
pair_given l first second d = asking refused (Records.number_of d) (judged (pair_in l first second (items_of d)))

-- the layout, its masks and its page, the record, W and the two entries, the window; the words of the item buffer, the bytes of the text buffer, the words of
-- the work space
unfoldable pub add_record : List ℕ → List ℕ → ℕ → List ℕ → ℕ → ℕ → ℕ → List ℕ → ℕ → ℕ → ℕ → Added
add_record l masks page r w first second window items text work =
    asking refused (before_asks l masks page w first second window work) (pair_given l first second (decode_record l masks page r items text work))

-- the outcome by the lent buffers themselves
abbrev pub added_to : List ℕ → List ℕ → ℕ → List ℕ → ℕ → ℕ → ℕ → List ℕ → List ℕ → List ℕ → List ℤ → Added
added_to l masks page r w first second window items text counts = add_record l masks page r w first second window (length items) (length text) (length counts)

abbrev pub number_of : Added → ℕ
number_of (refused n) = n
number_of (added p) = 0

-- "a refusal leaves it unchanged"; S-7: what comes in is what each value contributes, by the window's display word and rule
abbrev pub window_after : ℕ → ℕ → List ℕ → Added → List ℕ
window_after scale w window (refused n) = window
window_after scale w window (added p) = accepted w (contributed_pair scale (display_in window) (rule_in window) p) window

-- "Accepting returns both sums", each of one half of what the window holds then; a refusal 0
abbrev pub sum_after : (List (Pair ℕ) → List ℕ) → ℕ → ℕ → List ℕ → Added → ℤ
sum_after half scale w window (refused n) = pos 0
sum_after half scale w window (added p) = sum_of (half (held_in (window_after scale w window (added p))))

-- the two sums of a call's own answer: 0 after a refusal
abbrev pub first_in : Result (Pair ℤ) Refusal → ℤ
first_in (Ok s) = s.first
first_in (Err e) = pos 0

abbrev pub second_in : Result (Pair ℤ) Refusal → ℤ
second_in (Ok s) = s.second
second_in (Err e) = pos 0

-- All that the call leaves: its number, both sums, the window, and the buffers, all of them work space: "lists made on the way are work space".
pub record WindowAdded (a : Added) (scale w number : ℕ) (one two : ℤ) (window window' items items' text text' : List ℕ) (counts counts' : List ℤ) : Type 0 where
  pub numbered : number ≡ number_of a
  pub first_sum : one ≡ sum_after firsts scale w window a
  pub second_sum : two ≡ sum_after seconds scale w window a
  pub window_left : window' ≡ window_after scale w window a
  pub items_left : items' ≡ replicate (length items) 0
  pub text_left : text' ≡ replicate (length text) 0
  pub counts_left : counts' ≡ replicate (length counts) (pos 0)
