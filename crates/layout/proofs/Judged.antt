-- An entry from its twelve words.
use mathlib.Core.Path.{◌≡◌, refl, ap, ◌∙◌}
use mathlib.Core.List.{List}
use Prim.Native.Nat.{ℕ, ◌+◌, ◌*◌}
use native.Mathlib.Omega.{arith}
use lib.ListN.{get_or}
use Rattle.layout.specs.declared.Entry.{Entry}
use Rattle.layout.specs.Layout.{entry_at}

pub entry_of : (l : List ℕ) (i a₀ a₁ a₂ a₃ a₄ a₅ a₆ a₇ a₈ a₉ a₁₀ a₁₁ : ℕ)
    → a₀ ≡ get_or l (i * 12 + 0) 0 → a₁ ≡ get_or l (i * 12 + 1) 0 → a₂ ≡ get_or l (i * 12 + 2) 0 → a₃ ≡ get_or l (i * 12 + 3) 0
    → a₄ ≡ get_or l (i * 12 + 4) 0 → a₅ ≡ get_or l (i * 12 + 5) 0 → a₆ ≡ get_or l (i * 12 + 6) 0 → a₇ ≡ get_or l (i * 12 + 7) 0
    → a₈ ≡ get_or l (i * 12 + 8) 0 → a₉ ≡ get_or l (i * 12 + 9) 0 → a₁₀ ≡ get_or l (i * 12 + 10) 0 → a₁₁ ≡ get_or l (i * 12 + 11) 0
    → ◌≡◌ {A = Entry} (record {
      name = a₀;
      offset = a₁;
      width = a₂;
      kind = a₃;
      occurs = a₄;
      depending = a₅;
      span = a₆;
      p = a₇;
      q = a₈;
      r = a₉;
      s = a₁₀;
      mask = a₁₁;
    }) (entry_at l i)
unfolding entry_at
entry_of l i a₀ a₁ a₂ a₃ a₄ a₅ a₆ a₇ a₈ a₉ a₁₀ a₁₁ p₀ p₁ p₂ p₃ p₄ p₅ p₆ p₇ p₈ p₉ p₁₀ p₁₁ =
    let z : i * 12 + 0 ≡ i * 12 = omega arith in
    rw (p₀ ∙ ap (λ n. get_or l n 0) z, p₁, p₂, p₃, p₄, p₅, p₆, p₇, p₈, p₉, p₁₀, p₁₁) refl
