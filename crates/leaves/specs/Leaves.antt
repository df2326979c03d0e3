-- A reading as a number and an item.
use Rattle.std.specs.Prelude.{List, ◌++◌, cond, ℕ, leb, length, drop}
use Rattle.value.specs.declared.Scalar.{Scalar}
use Rattle.value.specs.Answer.{Answer, refused, given}
use Rattle.items.specs.Items.{item_words, words_of, item_of}

-- 0 for a value whose item has room, 16 where it has none; else the number that refuses
abbrev pub number_in : Answer Scalar → ℕ → ℕ
number_in (given v) room = cond (leb item_words room) 0 16
number_in (refused n) room = n

abbrev pub item_in : Answer Scalar → List ℕ → List ℕ
item_in (given v) items = cond (leb item_words (length items)) (words_of (item_of 0 v) ++ drop item_words items) items
item_in (refused n) items = items
