-- The counts of a walk in a lent run: "work space of two 64-bit words an entry". A name's two words stand at its first entry.
use Rattle.std.specs.Prelude.{Bool, ◌&&◌, cond, List, [], ◌∷◌, ℕ, zero, suc, ◌+◌, ◌*◌, min, ◌^◌, ◌-◌, eqb, ltb, ℤ, pos, negsuc, get_or, set}
use Rattle.layout.specs.declared.Entry.{Entry}
use Rattle.layout.specs.Layout.{entry_count}
use Rattle.value.specs.declared.Scalar.{Scalar}
use Rattle.walks.specs.Walk.{Many, never, times}
use Rattle.walks.specs.Kinds.{Count, count_of}

abbrev pub nat_of : ℤ → ℕ
nat_of (pos n) = n
nat_of (negsuc n) = 0

-- the first entry of a name, from i on, among n entries
unfoldable pub first_in : ℕ → List ℕ → ℕ → ℕ → ℕ
first_in zero l name i = i
first_in (suc n) l name i = cond (eqb (get_or l (i * 12) 0) name) i (first_in n l name (suc i))

unfoldable pub first : List ℕ → ℕ → ℕ
first l name = first_in (entry_count l) l name 0

-- 1: a count; 2: a negative number
abbrev pub status_of : Bool → ℕ → ℕ
status_of negative size = cond (negative && ltb 0 size) 2 1

unfoldable pub set_in : List ℕ → ℕ → Bool → ℕ → List ℤ → List ℤ
set_in l name negative size run = set (set run (first l name * 2) (pos (status_of negative size))) (first l name * 2 + 1) (pos (min (2 ^ 63 - 1) size))

abbrev pub set_all : List ℕ → List Count → List ℤ → List ℤ
set_all l [] run = run
set_all l (c ∷ cs) run = set_in l c.name c.negative c.size run

-- the run behind a scalar of an entry: counts are set only in layouts with depending
unfoldable pub note_in : List ℕ → Bool → Entry → Scalar → List ℤ → List ℤ
note_in l deps e v run = cond deps (set_all l (count_of e v) run) run

abbrev pub many_of : ℕ → ℕ → Many
many_of status n = cond (eqb status 0) (never 5) (cond (eqb status 2) (never 6) (times n))

unfoldable pub held_in : List ℕ → ℕ → List ℤ → Many
held_in l name run = many_of (nat_of (get_or run (first l name * 2) (pos 0))) (nat_of (get_or run (first l name * 2 + 1) (pos 0)))
