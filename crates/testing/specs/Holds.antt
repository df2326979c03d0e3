-- Buffers compared with what they should hold.
use Rattle.std.specs.Prelude.{ℕ, zero, suc, ◌%◌, Bool, true, ◌&&◌, List, length, ◌==◌, slice_index}

-- a word's lower 32 bits
abbrev pub low_word : ℕ → ℕ
low_word x = x % 4294967296

-- the first n cells are the given values, then zeros
unfoldable pub holds_below : List ℕ → List ℕ → ℕ → Bool
holds_below buffer given zero = true
holds_below buffer given (suc n) = holds_below buffer given n && slice_index buffer n == slice_index given n

-- all of its cells are
abbrev pub holds : List ℕ → List ℕ → Bool
holds buffer given = holds_below buffer given (length buffer)
