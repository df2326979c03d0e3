-- Bytes handed over one after the other, and what the buffer then holds.
use mathlib.Core.Path.{◌≡◌, refl, ap, ◌∙◌}
use mathlib.Core.Bool.{Bool, true, false, cond}
use lib.Dec.{eqb, ltb}
use mathlib.Core.List.{List, [], ◌∷◌, ◌++◌}
use Prim.Native.Nat.{ℕ, ◌+◌, ◌-◌, ◌<◌}
use lib.ListN.{length, take, get_or, set}
use Rattle.value.specs.Digits.{spread}
use Rattle.std.proofs.lemmas.List.{take_more}
use Rattle.value.proofs.Digits.{spread-more}
use Rattle.shown.specs.Shown.{escape}
use Rattle.shown.specs.Sink.{State, one, all}

-- ---- one run after another

pub all_append : (x : State) (a b : List ℕ) → all x (a ++ b) ≡ all (all x a) b
unfolding all
all_append x [] b = refl
all_append x (c ∷ a) b = all_append (one x c) a b

-- ---- a loop over bytes: one more of them

pub all_more : (x : State) (l : List ℕ) (i : ℕ) → i < length l → all x (take (i + 1) l) ≡ all (all x (take i l)) (get_or l i 0 ∷ [])
all_more x l i h = ap (all x) (take_more l i 0 h) ∙ all_append x (take i l) (get_or l i 0 ∷ [])

pub escaped_more : (x : State) (l : List ℕ) (i : ℕ) → i < length l → all x (spread escape (take (i + 1) l)) ≡ all (all x (spread escape (take i l))) (escape (get_or l i 0))
escaped_more x l i h = ap (all x) (spread-more escape l i h) ∙ all_append x (spread escape (take i l)) (escape (get_or l i 0))

one-name : (x : State) (b : ℕ) → (one x b).name ≡ x.name
unfolding one
one-name x b = by (eqb x.skip 0) (ltb x.used (length x.out))
  where
    by : (s t : Bool) → (cond s (cond t (record { name = x.name; out = set x.out x.used b; skip = 0; used = x.used + 1 }) x) (record { name = x.name; out = x.out; skip = x.skip - 1; used = x.used })).name ≡ x.name
    by true true = refl
    by true false = refl
    by false t = refl

-- the buffer stays the one that was lent
pub same-name : (x : State) (bytes : List ℕ) → (all x bytes).name ≡ x.name
unfolding all
same-name x [] = refl
same-name x (b ∷ bs) = same-name (one x b) bs ∙ one-name x b
