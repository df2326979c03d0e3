-- A buffer that takes the bytes handed to it from a place on. Only inner functions cite this file.
use Rattle.std.specs.Prelude.{ℕ, ◌+◌, ◌-◌, ◌≡◌, cond, List, [], ◌∷◌, eqb, ltb, length, set}
use Rattle.shown.specs.declared.Output.{Output}

-- the buffer, and that it is the one that was lent
pub record State : Type 0 where
  pub name : ℕ
  pub out : List ℕ
  pub skip : ℕ
  pub used : ℕ

abbrev pub state : Output → State
state o = record { name = o.out.ghost_name; out = o.out.now; skip = o.sink.skip; used = o.sink.used }

-- one byte more: passed over, stored, or dropped where the buffer is full
abbrev pub stored : State → ℕ → State
stored x b = cond (ltb x.used (length x.out)) (record { name = x.name; out = set x.out x.used b; skip = 0; used = x.used + 1 }) x

unfoldable pub one : State → ℕ → State
one x b = cond (eqb x.skip 0) (stored x b) (record { name = x.name; out = x.out; skip = x.skip - 1; used = x.used })

unfoldable pub all : State → List ℕ → State
all x [] = x
all x (b ∷ bs) = all (one x b) bs

-- what a function that hands over these bytes leaves
abbrev pub Took : State → List ℕ → State → Type 0
Took x bytes y = y ≡ all x bytes
