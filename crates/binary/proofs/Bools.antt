-- Whether every element passes a test, as std says it.
use Rattle.std.proofs.Common.{◌≡◌, refl, ℕ, List, [], ◌∷◌, Bool, ap, ◌&&◌}
use Rattle.std.specs.List.{list_all}
use Rattle.lists.specs.Scan.{every_by}

pub all-every : (f : ℕ → Bool) (s : List ℕ) → list_all f s ≡ every_by f s
unfolding every_by
all-every f [] = refl
all-every f (x ∷ s) = ap (λ (b : Bool). f x && b) (all-every f s)
