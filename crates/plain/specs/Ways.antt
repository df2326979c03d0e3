-- How the code goes through a layout to decide whether it is plain: names by index; the other clauses by the tree, with the controllers that stand earlier as a stack.
use Rattle.std.specs.Prelude.{◌≡◌, Option, Some, is_some, Bool, ◌&&◌, ◌||◌, not, List, [], ◌∷◌, ◌++◌, ℕ, zero, suc, ◌+◌, ◌≤◌, leb, take}
use Rattle.layout.specs.declared.Entry.{Entry}
use Rattle.layout.specs.Layout.{entry_at, present}
use Rattle.spans.specs.Tree.{Tree, size}
use Rattle.walks.specs.Plain.{is_in, pad_ok, width_ok, group_ok, each_ok, in_order, offers, controlled}

-- the names of so many entries from the i-th on
unfoldable pub names_from : List ℕ → ℕ → ℕ → List ℕ
names_from l i zero = []
names_from l i (suc n) = (entry_at l i).name ∷ names_from l (suc i) n

-- the clauses of an entry in its sequence, but for its members' own: not before an offset, and its controller known
unfoldable pub own_ok : ℕ → List ℕ → Entry → Tree Entry → Bool
own_ok from known e members =
    pad_ok e && width_ok e && group_ok e members && leb from e.offset && (not (present e.depending) || is_in e.depending known)

-- the clauses of a sequence, but for distinct names
unfoldable pub tree_ok : ℕ → List ℕ → Tree Entry → Bool
tree_ok from known t = each_ok t && in_order from t && controlled known t

-- After a walk of a sequence that finds nothing against it the stack holds the names that it held, as before, and those that the sequence offers.
pub record Grown (t : Tree Entry) (top : ℕ) (before : List ℕ) (top' : ℕ) (behind : List ℕ) : Type 0 where
  pub kept : take top behind ≡ take top before
  pub known : (x : ℕ) → is_in x (take top' behind) ≡ is_in x (offers t ++ take top before)
  pub above : top ≤ top'
  pub below : top' ≤ top + size t

pub record Walked (t : Tree Entry) (top : ℕ) (before : List ℕ) (r : Option ℕ) (behind : List ℕ) : Type 0 where
  pub answer : is_some r ≡ tree_ok 0 (take top before) t
  pub grown : (top' : ℕ) → r ≡ Some top' → Grown t top before top' behind
