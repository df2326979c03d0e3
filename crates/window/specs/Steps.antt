-- What the code does to a window, word by word. Only inner functions cite this file.
use Rattle.std.specs.Prelude.{ℕ, ◌+◌, ◌-◌, ◌*◌, ◌%◌, ◌^◌, cond, List, ◌∷◌, ◌++◌, take, drop, nat_lt, slice_index}
use Rattle.window.specs.Window.{Pair, pair}

-- a pair put at a place
unfoldable pub put_at : ℕ → ℕ → ℕ → List ℕ → List ℕ
put_at at a b l = take at l ++ (a ∷ b ∷ drop (2 + at) l)

-- the pairs but the oldest, one place down; the last place is left as it was
unfoldable pub moved_down : ℕ → List ℕ → List ℕ
moved_down w l = take 5 l ++ take (w * 2 - 2) (drop 7 l) ++ drop (5 + (w * 2 - 2)) l

-- the front three words
abbrev pub with_head : ℕ → ℕ → ℕ → List ℕ → List ℕ
with_head n x y l = n ∷ x ∷ y ∷ drop 3 l

-- the sum of two words, and one word without another
abbrev pub word_plus : ℕ → ℕ → ℕ
word_plus x y = (x + y) % 2 ^ 64

abbrev pub word_minus : ℕ → ℕ → ℕ
word_minus x y = (x + (2 ^ 64 - y % 2 ^ 64)) % 2 ^ 64

-- a pair of sums with a pair more, and without one
abbrev pub pair_plus : Pair ℕ → Pair ℕ → Pair ℕ
pair_plus p q = pair (word_plus p.first q.first) (word_plus p.second q.second)

abbrev pub pair_minus : Pair ℕ → Pair ℕ → Pair ℕ
pair_minus p q = pair (word_minus p.first q.first) (word_minus p.second q.second)

-- a pair more, behind the others
abbrev pub grown : ℕ → ℕ → List ℕ → List ℕ
grown a b l = with_head (1 + slice_index l 0) (word_plus (slice_index l 1) a) (word_plus (slice_index l 2) b) (put_at (5 + slice_index l 0 * 2) a b l)

-- a pair more, and the oldest goes
abbrev pub rolled : ℕ → ℕ → ℕ → List ℕ → List ℕ
rolled w a b l =
    with_head w (word_plus (word_minus (slice_index l 1) (slice_index l 5)) a) (word_plus (word_minus (slice_index l 2) (slice_index l 6)) b) (put_at (5 + (w * 2 - 2)) a b (moved_down w l))

unfoldable pub pushed : ℕ → ℕ → ℕ → List ℕ → List ℕ
pushed w a b l = cond (nat_lt (slice_index l 0) w) (grown a b l) (rolled w a b l)
