-- Questions asked one after the other, as one number: the first that is not 0.
use mathlib.Core.Path.{◌≡◌, refl}
use mathlib.Core.Bool.{Bool, true, false, cond}
use Prim.Native.Nat.{ℕ}
use lib.Dec.{eqb}
use borrow.Author.Tests.{eqb-true, eqb-false, eq-eqb, ne_eqb}
use Rattle.walks.specs.Records.{asking}

module _ {A : Type 0} (refuse : ℕ → A) (x : A) where
  pub asking-none : (n : ℕ) → n ≡ 0 → asking refuse n x ≡ x
  asking-none n z = rw (eq-eqb n 0 z) refl

  pub asking-some : (n : ℕ) → (n ≡ 0 → ⊥) → asking refuse n x ≡ refuse n
  asking-some n f = rw (ne_eqb n 0 f) refl

pub both-passed : (a b : ℕ) → cond (eqb a 0) b a ≡ 0 → (a ≡ 0) × (b ≡ 0)
both-passed a b = go (eqb a 0) refl
  where
    go : (t : Bool) → eqb a 0 ≡ t → cond t b a ≡ 0 → (a ≡ 0) × (b ≡ 0)
    go true e h = (eqb-true a 0 e, h)
    go false e h = absurd (eqb-false a 0 e h)
