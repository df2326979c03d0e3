-- The questions of the whole function, in order.
use mathlib.Core.Path.{◌≡◌, refl, sym, ◌∙◌}
use mathlib.Core.Bool.{Bool, true, false}
use mathlib.Core.List.{List}
use Prim.Native.Nat.{ℕ, ◌+◌, ◌-◌, ◌≤◌}
use native.Mathlib.Omega.{arith}
use borrow.Author.Tests.{eq-eqb, ne_eqb}
use Rattle.std.specs.Prelude.{Option, is_some}
use Rattle.layout.specs.Layout.{entry_count, entries, checked_of}
use Rattle.layout.proofs.Lawful.{few-entries}
use Rattle.walks.specs.Plain.{names_of, distinct, plain}
use Rattle.plain.specs.Ways.{tree_ok, Walked}

module _ (l masks : List ℕ) (page : ℕ) where
  pub unlawful : (checked_of l masks page ≡ 0 → ⊥) → false ≡ plain l masks page
  unfolding plain
  unlawful f = rw (ne_eqb (checked_of l masks page) 0 f) refl

  module _ (z : checked_of l masks page ≡ 0) where
    pub room : 0 + (entry_count l - 0) ≤ 512
    room = omega (arith, few-entries l masks page z)

    module _ {b : Bool} (q : b ≡ distinct (names_of (entries l))) where
      pub name-twice : b ≡ false → false ≡ plain l masks page
      unfolding plain
      name-twice f = rw (eq-eqb (checked_of l masks page) 0 z, sym q ∙ f) refl

      pub decided : b ≡ true → (known : List ℕ) (s : Option ℕ) (known' : List ℕ) → Walked (entries l) 0 known s known' → is_some s ≡ plain l masks page
      unfolding plain tree_ok
      decided t known s known' w = rw (eq-eqb (checked_of l masks page) 0 z, sym q ∙ t) w.answer
