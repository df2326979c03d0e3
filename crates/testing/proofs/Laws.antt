-- A buffer compared cell by cell.
use Rattle.std.proofs.Common.{◌≡◌, ℕ, zero, suc, ◌+◌, ◌<◌, Bool, true, false, ◌&&◌, eqb, List, length, get_or, sym, refl, ◌∙◌, not-suc-le-zero, add-one, arith, eq-eqb, ne_eqb, eqb-true}
use mathlib.Core.Bool.{and-false}
use borrow.Author.Tests.{eqb-false}
use Rattle.testing.specs.Holds.{holds_below, holds}

pub holds-start : (buffer given : List ℕ) → holds_below buffer given 0 ≡ true
unfolding holds_below
holds-start buffer given = refl

pub holds-go : (buffer given : List ℕ) (i y : ℕ) → y ≡ get_or given i 0 → get_or buffer i 0 ≡ y → holds_below buffer given i ≡ true → holds_below buffer given (i + 1) ≡ true
unfolding holds_below
holds-go buffer given i y e q h = rw (add-one, h, eq-eqb (get_or buffer i 0) (get_or given i 0) (q ∙ e)) refl

-- a cell that differs, in any longer run
differs : (buffer given : List ℕ) (i n : ℕ) → eqb (get_or buffer i 0) (get_or given i 0) ≡ false → i < n → holds_below buffer given n ≡ false
unfolding holds_below
differs buffer given i zero e h = absurd (not-suc-le-zero h)
differs buffer given i (suc n) e h = by (eqb i n) refl (differs buffer given i n e)
  where
    by : (t : Bool) → eqb i n ≡ t → (i < n → holds_below buffer given n ≡ false) → (holds_below buffer given n && eqb (get_or buffer n 0) (get_or given n 0)) ≡ false
    by true q below =
        let k : i ≡ n = eqb-true i n q in
        rw (← k, e) (and-false (holds_below buffer given i))
    by false q below =
        let k : i ≡ n → ⊥ = eqb-false i n q in
        rw (below (omega (arith, h, k))) refl

pub holds_not : (buffer given : List ℕ) (i y : ℕ) → y ≡ get_or given i 0 → (get_or buffer i 0 ≡ y → ⊥) → i < length buffer → false ≡ holds buffer given
holds_not buffer given i y e q h = sym (differs buffer given i (length buffer) (ne_eqb (get_or buffer i 0) (get_or given i 0) (λ z. q (z ∙ sym e))) h)
