-- Items by name, where they stand in the entries' order.
use mathlib.Core.Path.{◌≡◌, refl, sym, ap, ◌∙◌}
use mathlib.Core.Bool.{Bool, true, false, ◌&&◌, false≢true}
use mathlib.Core.List.{List}
use Prim.Native.Nat.{ℕ, ◌+◌, ◌≤◌, ◌<◌}
use native.Mathlib.Omega.{arith}
use native.Mathlib.Decide.{dec_lt}
use lib.Dec.{eqb, ltb}
use borrow.Author.Tests.{ne_eqb, eqb-true, lt-ltb, le-ltb}
use Rattle.spans.specs.Tree.{none, node, end_of}
use Rattle.layout.specs.declared.Entry.{Entry}
use Rattle.items.specs.declared.Item.{Item}
use Rattle.items.specs.Items as Items
use Rattle.items.specs.Items.{Values, values, head_of, rest_of, lookup}
use Rattle.items.proofs.Items.{values-none, values-node, rest-is}
use Rattle.layout.specs.Layout.{unrepeated, is_pad}
use Rattle.encode.specs.Order.{heads, value_of, Ahead}

-- ---- the first item

pub heads_at : (v : List ℕ) (name i to : ℕ) → heads name (values v i to) ≡ (ltb i to && eqb (head_of (values v i to)).name name)
heads_at v name i to = go (dec_lt i to)
  where
    it : Item
    it = head_of (values v i to)

    go : Dec (i < to) → heads name (values v i to) ≡ (ltb i to && eqb it.name name)
    go (yes h) = ap (heads name) (values-node v i to it (Items.span_of it) (end_of (Items.span_of it) i to) refl refl refl h) ∙ ap (λ x. x && eqb it.name name) (sym (lt-ltb i to h))
    go (no h) = ap (heads name) (values-none v i to (omega arith)) ∙ ap (λ x. x && eqb it.name name) (sym (le-ltb i to (omega arith)))

pub lookup-heads : (name : ℕ) (vs : Values) → heads name vs ≡ true → lookup name vs ≡ vs
unfolding lookup
lookup-heads name none h = absurd (false≢true h)
lookup-heads name (node it members rest) h = rw h refl

-- an item of another name is stepped over
heads-over : (name other : ℕ) (vs : Values) → heads name vs ≡ true → (name ≡ other → ⊥) → lookup other vs ≡ lookup other (rest_of vs)
unfolding lookup
heads-over name other none h k = absurd (false≢true h)
heads-over name other (node it members rest) h k = rw (ne_eqb it.name other (λ p. k (sym (eqb-true it.name name h) ∙ p))) refl

-- ---- an entry's own

module _ (v : List ℕ) (e : Entry) (to : ℕ) (all : Values) (z : Bool) (y : z ≡ (is_pad e && unrepeated e)) where
  pub place-pad : z ≡ true → value_of e all ≡ values v to to
  unfolding value_of
  place-pad f = rw (sym y ∙ f) (sym (values-none v to to (omega arith)))

  module _ (f : z ≡ false) where
    pub place-there : (r : ℕ) → lookup e.name all ≡ values v r to → value_of e all ≡ values v r to
    unfolding value_of
    place-there r g = rw (sym y ∙ f) g

    module _ (next low : ℕ) (a : Ahead all (values v next to) low) (h : low ≤ e.name) (x : Bool) (p : x ≡ heads e.name (values v next to)) (q : x ≡ true) where
      pub place_here : value_of e all ≡ values v next to
      place_here = place-there next (a e.name h ∙ lookup-heads e.name (values v next to) (sym p ∙ q))

      pub ahead-behind : (next' : ℕ) → next' ≡ end_of (Items.span_of (head_of (values v next to))) next to → Ahead all (values v next' to) (e.name + 1)
      ahead-behind next' r other k =
          a other (omega arith) ∙ heads-over e.name other (values v next to) (sym p ∙ q) (λ n. omega arith)
          ∙ ap (lookup other) (rest-is v next to (head_of (values v next to)) (Items.span_of (head_of (values v next to))) next' refl refl r)
