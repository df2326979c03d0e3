-- std's words for scans, prefixes and texts say the same as this crate's.
use mathlib.Core.Path.{◌≡◌, refl, sym, ap}
use mathlib.Core.Bool.{Bool, true, false, ◌&&◌, cond, not}
use mathlib.Core.List.{List, [], ◌∷◌}
use Prim.Native.Nat.{ℕ, ◌+◌, ◌≤◌}
use native.Mathlib.Omega.{arith}
use native.Mathlib.Numerals.{one-add}
use lib.Dec.{eqb, ltb}
use borrow.Author.Tests.{ltb-false}
use lib.ListN.{length, take}
use Rattle.std.specs.List.{list_all, position_or_len, position, starts_with as std_starts_with}
use Rattle.std.specs.Prelude.{Some, None}
use Rattle.std.specs.Option.{unwrap_or}
use Rattle.lists.proofs.Logic.{eqb_swap}
use Rattle.lists.specs.Scan.{before_by, every_by}
use Rattle.lines.specs.Lines.{starts_with}

pub every_all : (f : ℕ → Bool) (s : List ℕ) → every_by f s ≡ list_all f s
unfolding every_by
every_all f [] = refl
every_all f (x ∷ s) = ap (λ b. f x && b) (every_all f s)

before_position : (f : ℕ → Bool) (s : List ℕ) → before_by f s ≡ take (position_or_len f s) s
unfolding before_by
before_position f [] = refl
before_position f (x ∷ s) = by (f x) (before_position f s)
  where
    by : (t : Bool) → before_by f s ≡ take (position_or_len f s) s → cond t [] (x ∷ before_by f s) ≡ take (cond (not t) (1 + position_or_len f s) 0) (x ∷ s)
    by true e = refl
    by false e = rw one-add (ap (λ (l : List ℕ). x ∷ l) e)

pub starts_std : (w s : List ℕ) → starts_with w s ≡ std_starts_with eqb s w
unfolding starts_with
starts_std [] s = refl
starts_std (x ∷ w) [] = refl
starts_std (x ∷ w) (y ∷ s) = rw (starts_std w s, eqb_swap x y) refl

-- where `position` finds none, the length: what stands before that place
at_most : (f : ℕ → Bool) (s : List ℕ) → position_or_len f s ≤ length s
at_most f [] = omega arith
at_most f (x ∷ s) = by (f x) (at_most f s)
  where
    by : (t : Bool) → position_or_len f s ≤ length s → cond (not t) (1 + position_or_len f s) 0 ≤ length (x ∷ s)
    by true h = omega arith
    by false h = omega arith

pub place_is : (f : ℕ → Bool) (s : List ℕ) → unwrap_or (position f s) (length s) ≡ position_or_len f s
place_is f s = by (ltb (position_or_len f s) (length s)) refl
  where
    by : (t : Bool) → ltb (position_or_len f s) (length s) ≡ t → unwrap_or (cond t (Some (position_or_len f s)) None) (length s) ≡ position_or_len f s
    by true e = refl
    by false e = let a = at_most f s in let b = ltb-false (position_or_len f s) (length s) e in omega arith

pub before_place : (f : ℕ → Bool) (s : List ℕ) → (unwrap_or (position f s) (length s) ≤ length s) × (take (unwrap_or (position f s) (length s)) s ≡ before_by f s)
before_place f s = rw place_is (at_most f s, sym (before_position f s))
