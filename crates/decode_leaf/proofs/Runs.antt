-- Laws of the run of counts: the first entry of a name, as the loop finds it.
use mathlib.Core.Path.{◌≡◌, refl}
use mathlib.Core.List.{List}
use Prim.Native.Nat.{ℕ, suc, ◌+◌, ◌-◌, ◌*◌, ◌≤◌, ◌<◌}
use native.Mathlib.Omega.{arith}
use native.Mathlib.Numerals.{add-one}
use lib.ListN.{get_or}
use borrow.Author.Tests.{eq-eqb, ne_eqb}
use Rattle.layout.specs.Layout.{entry_count}
use Rattle.decode_leaf.specs.Counts.{first_in, first}

module _ (l : List ℕ) (name : ℕ) where
  pub first-hit : (n i : ℕ) → i < n → get_or l (i * 12) 0 ≡ name → first_in (n - i) l name i ≡ i
  unfolding first_in
  first-hit n i h e = let z : n - i ≡ suc (n - (i + 1)) = omega arith in rw (z, eq-eqb (get_or l (i * 12) 0) name e) refl

  pub first_next : (n i : ℕ) → i < n → (get_or l (i * 12) 0 ≡ name → ⊥) → first_in (n - i) l name i ≡ first_in (n - (i + 1)) l name (i + 1)
  unfolding first_in
  first_next n i h e = let z : n - i ≡ suc (n - (i + 1)) = omega arith in rw (z, ne_eqb (get_or l (i * 12) 0) name e, add-one i) refl

  pub first-end : (n i : ℕ) → n ≤ i → first_in (n - i) l name i ≡ i
  unfolding first_in
  first-end n i h = let z : n - i ≡ 0 = omega arith in rw z refl

  pub first-starts : first l name ≡ first_in (entry_count l - 0) l name 0
  unfolding first
  first-starts = let z : entry_count l - 0 ≡ entry_count l = omega arith in rw z refl
