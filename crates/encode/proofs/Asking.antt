-- Names supplied.
use mathlib.Core.Path.{◌≡◌, refl, sym, ap, ap₂, ◌∙◌}
use mathlib.Core.Bool.{Bool, true, false, ◌&&◌, ◌||◌, cond, false≢true}
use mathlib.Core.List.{List, [], ◌∷◌}
use Prim.Native.Nat.{ℕ, suc, ◌+◌, ◌<◌, ◌≤◌}
use native.Mathlib.Omega.{arith}
use native.Mathlib.Decide.{dec_lt}
use lib.Dec.{eqb, ltb}
use borrow.Author.Tests.{lt-ltb, le-ltb}
use Rattle.spans.specs.Tree.{Tree, none, node, end_of, size, level}
use Rattle.layout.specs.declared.Entry.{Entry}
use Rattle.layout.specs.Layout.{entry_count, part, entries, is_pad}
use Rattle.items.specs.Items as Items
use Rattle.items.specs.Items.{Values, item_count, values, head_of, rest_of, lookup}
use Rattle.items.proofs.Items.{values-none, values-node}
use Rattle.walks.specs.Records.{found, supplied}
use Rattle.walks.specs.Walk.{values_after}
use Rattle.encode.specs.Order.{heads, sought}
use Rattle.encode.proofs.Order.{lookup-heads}

found-by : (v : List ℕ) (j to : ℕ) → found (values v j to) ≡ ltb j to
found-by v j to = go (dec_lt j to)
  where
    go : Dec (j < to) → found (values v j to) ≡ ltb j to
    go (yes h) = ap found (values-node v j to (head_of (values v j to)) (Items.span_of (head_of (values v j to))) (end_of (Items.span_of (head_of (values v j to))) j to) refl refl refl h) ∙ sym (lt-ltb j to h)
    go (no h) = ap found (values-none v j to (omega arith)) ∙ sym (le-ltb j to (omega arith))

-- the names of a level's entries, one after the other
pub all-supplied : List (ℕ × Entry) → Values → Bool
all-supplied [] vs = true
all-supplied (p ∷ ps) vs = (is_pad p.1 || found (lookup p.1.name vs)) && all-supplied ps vs

pub supplied-level : (t : Tree Entry) (i : ℕ) (vs : Values) → supplied t vs ≡ all-supplied (level i t) vs
unfolding supplied level all-supplied
supplied-level none i vs = refl
supplied-level (node e members rest) i vs = ap (λ b. (is_pad e || found (lookup e.name vs)) && b) (supplied-level rest (i + suc (size members)) vs)

-- every name of these items is a name of all
abbrev pub Within : Values → Values → Type 0
Within vs all = (name : ℕ) → found (lookup name vs) ≡ true → found (lookup name all) ≡ true

-- a name of the items behind the first is a name of all
rest_in : (vs : Values) (name : ℕ) → found (lookup name (rest_of vs)) ≡ true → found (lookup name vs) ≡ true
unfolding lookup
rest_in none name h = h
rest_in (node it members rest) name h = go (eqb it.name name)
  where
    go : (x : Bool) → found (cond x (node it members rest) (lookup name rest)) ≡ true
    go true = refl
    go false = h

-- and so is a name of those from the first of another name on
lookup-in : (all : Values) (other name : ℕ) → found (lookup name (lookup other all)) ≡ true → found (lookup name all) ≡ true
unfolding lookup
lookup-in none other name h = h
lookup-in (node it members rest) other name h = go (lookup-in rest other name) (eqb it.name other) h
  where
    go : (found (lookup name (lookup other rest)) ≡ true → found (lookup name rest) ≡ true)
        → (x : Bool) → found (lookup name (cond x (node it members rest) (lookup other rest))) ≡ true → found (lookup name (node it members rest)) ≡ true
    go f true k = k
    go f false k = rest_in (node it members rest) name (f k)

heads-in : (name : ℕ) (vs : Values) → heads name vs ≡ true → (found vs ≡ true) × (found (lookup name vs) ≡ true)
heads-in name none h = absurd (false≢true h)
heads-in name (node it members rest) h = (refl, ap found (lookup-heads name (node it members rest) h))

module _ (e : Entry) (vs all : Values) (w : Within vs all) where
  pub within-next : Within (values_after e (sought e vs all)) all
  within-next = go (is_pad e) (heads e.name vs)
    where
      go : (x y : Bool) → Within (cond x (cond x vs (cond y vs (lookup e.name all))) (rest_of (cond x vs (cond y vs (lookup e.name all))))) all
      go true y = w
      go false true = λ name h. w name (rest_in vs name h)
      go false false = λ name h. lookup-in all e.name name (rest_in (lookup e.name all) name h)

  sought-found : (is_pad e || found (lookup e.name all)) ≡ (is_pad e || found (sought e vs all))
  sought-found = go (is_pad e) (heads e.name vs) refl
    where
      go : (x y : Bool) → heads e.name vs ≡ y → (x || found (lookup e.name all)) ≡ (x || found (cond x vs (cond y vs (lookup e.name all))))
      go true y h = refl
      go false true h = w e.name (heads-in e.name vs h).1 ∙ sym (heads-in e.name vs h).0
      go false false h = refl

module _ (v : List ℕ) (next to : ℕ) (w : Within (values v next to) (values v 0 to)) (i : ℕ) (e : Entry) (ps es : List (ℕ × Entry)) (s : es ≡ (i, e) ∷ ps)
    (j : ℕ) (q : values v j to ≡ sought e (values v next to) (values v 0 to)) (z : Bool) (y : z ≡ (eqb e.kind 6 || ltb j to)) where
  has : (x : Bool) → z ≡ x → (is_pad e || found (lookup e.name (values v 0 to))) ≡ x
  unfolding is_pad
  has x f = sought-found e (values v next to) (values v 0 to) w ∙ ap (λ b. eqb e.kind 6 || b) (ap found (sym q) ∙ found-by v j to) ∙ sym y ∙ f

  pub supplied-not : z ≡ false → all-supplied es (values v 0 to) ≡ false
  unfolding all-supplied
  supplied-not f = rw (s, has false f) refl

  pub supplied-go : z ≡ true → all-supplied es (values v 0 to) ≡ all-supplied ps (values v 0 to)
  unfolding all-supplied
  supplied-go f = rw (s, has true f) refl

  pub within-behind : (j' : ℕ) → values v j' to ≡ values_after e (values v j to) → Within (values v j' to) (values v 0 to)
  within-behind j' r name k = within-next e (values v next to) (values v 0 to) w name (ap (λ vs. found (lookup name vs)) (sym (r ∙ ap (values_after e) q)) ∙ k)

pub supplied-end : (es : List (ℕ × Entry)) (vs : Values) → es ≡ [] → all-supplied es vs ≡ true
unfolding all-supplied
supplied-end es vs s = rw s refl

-- before the first, by the number of the items
pub supplied-start : (l v : List ℕ) (n to : ℕ) (es : List (ℕ × Entry)) → es ≡ level 0 (part l 0 n) → n ≡ entry_count l → to ≡ item_count v
    → supplied (entries l) (values v 0 (item_count v)) ≡ all-supplied es (values v 0 to)
supplied-start l v n to es s p q =
    supplied-level (entries l) 0 (values v 0 (item_count v)) ∙ ap₂ (λ m k. all-supplied (level 0 (part l 0 m)) (values v 0 k)) (sym p) (sym q) ∙ ap (λ x. all-supplied x (values v 0 to)) (sym s)
