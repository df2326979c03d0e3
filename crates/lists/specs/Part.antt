-- A part of a slice of bytes.
use Rattle.std.specs.Prelude.{List, ℕ, ◌+◌}
use Rattle.std.specs.Borrow.{Bor}

-- the place k bytes into a slice
abbrev pub place_in : Bor (List ℕ) → ℕ → ℕ × ℕ
place_in x k = (x.ref_ptr.0, k + x.ref_ptr.1)
