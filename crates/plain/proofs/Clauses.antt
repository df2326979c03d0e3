-- The clauses of one entry, as the code asks them.
use mathlib.Core.Path.{◌≡◌, refl, ap, ap₂}
use mathlib.Core.Bool.{◌||◌}
use mathlib.Core.List.{List, [], ◌∷◌}
use Prim.Native.Nat.{ℕ, suc, ◌+◌, ◌<◌}
use native.Mathlib.Omega.{arith}
use native.Mathlib.Decide.{dec_lt}
use lib.Dec.{eqb, ltb}
use borrow.Author.Tests.{lt-ltb, le-ltb}
use Rattle.std.specs.List.{list_any}
use Rattle.layout.specs.declared.Entry.{Entry}
use Rattle.layout.specs.Layout.{unrepeated_leaf, entry_at, span_of, part}
use Rattle.lists.proofs.Logic.{eqb_swap}
use Rattle.spans.specs.Tree.{Tree, none, node, size, level, end_of}
use Rattle.spans.proofs.Tree.{tree-none, tree-at}
use Rattle.walks.specs.Plain.{is_in, some, sure}

-- a name in a list, as std looks for it
pub in_any : (x : ℕ) (l : List ℕ) → is_in x l ≡ list_any (λ y. eqb y x) l
in_any x [] = refl
in_any x (y ∷ l) = ap₂ (λ a b. a || b) (eqb_swap x y) (in_any x l)

-- ---- the entries lo up to hi

module _ (l : List ℕ) (lo hi : ℕ) where
  pub some_part : some (part l lo hi) ≡ ltb lo hi
  some_part = go (dec_lt lo hi)
    where
      go : Dec (lo < hi) → some (part l lo hi) ≡ ltb lo hi
      go (yes h) = rw (tree-at (entry_at l) span_of lo hi (entry_at l lo) (end_of (entry_at l lo).span lo hi) h refl refl, lt-ltb lo hi h) refl
      go (no h) = rw (tree-none (entry_at l) span_of lo hi (omega arith), le-ltb lo hi (omega arith)) refl

-- one of a sequence, asked of its level
pub sure-any : (t : Tree Entry) (i : ℕ) → sure t ≡ list_any (λ p. unrepeated_leaf p.1) (level i t)
unfolding sure level
sure-any none i = refl
sure-any (node e members rest) i = ap (λ b. unrepeated_leaf e || b) (sure-any rest (i + suc (size members)))
