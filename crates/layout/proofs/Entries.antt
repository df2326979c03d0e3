-- Tests of one entry, as walks over entries ask them.
use mathlib.Core.Path.{◌≡◌, refl, sym, ◌∙◌}
use mathlib.Core.Bool.{Bool, true, false, ◌&&◌}
use borrow.Author.Tests.{ne_eqb}
use Rattle.layout.specs.declared.Entry.{Entry}
use Rattle.layout.specs.Layout.{unrepeated, unrepeated_leaf, controls}

module _ (e : Entry) where
  pub leaf-other : {b : Bool} → (e.kind ≡ 9 → ⊥) → b ≡ unrepeated e → b ≡ unrepeated_leaf e
  leaf-other n q = rw (ne_eqb e.kind 9 n) (q ∙ and-true (unrepeated e))
    where
      and-true : (b : Bool) → b ≡ (b && true)
      and-true true = refl
      and-true false = refl

  pub controls-table : {b : Bool} → b ≡ unrepeated e → b ≡ false → false ≡ controls e
  unfolding controls
  controls-table p f = rw (sym p ∙ f) refl
