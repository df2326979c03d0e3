-- What the check gives to those who walk a value list that is well formed: each item's name, words and end are right.
use mathlib.Core.Path.{◌≡◌, refl, sym, ap, ◌∙◌}
use mathlib.Core.Bool.{Bool, true, false, ◌&&◌, ◌||◌, cond, false≢true}
use mathlib.Core.List.{List}
use Prim.Native.Nat.{ℕ, zero, suc, ◌+◌, ◌-◌, ◌%◌, ◌<◌}
use native.Mathlib.Omega.{arith}
use lib.Dec.{eqb}
use lib.ListN.{length}
use borrow.Author.Tests.{eqb-true}
use Rattle.items.specs.declared.Item.{Item}
use Rattle.spans.specs.Tree.{none, node, end_of, size}
use Rattle.lists.proofs.Logic.{and_left, and_right, or_else}
use Rattle.items.specs.Items.{item_words, item_count, holds, span_of, Values, values, scalar_ok, name_ok, holder_ok, item_ok, count, list_ok, depth, well_formed, head_of, members_of, rest_of, lookup}
use Rattle.items.proofs.Lawful.{ok-deep, ok-turn}

or_left : (a b : Bool) → b ≡ false → (a || b) ≡ true → a ≡ true
or_left true b e h = refl
or_left false b e h = absurd (false≢true (sym e ∙ h))

-- a List or Struct is no scalar
pub no-scalar : (text : ℕ) (it : Item) → holds it.tag ≡ true → scalar_ok text it ≡ false
unfolding scalar_ok
no-scalar text it h = go (eqb it.tag 6) refl
  where
    go : (t : Bool) → eqb it.tag 6 ≡ t → scalar_ok text it ≡ false
    go true e = rw (eqb-true it.tag 6 e)
    go false e = rw (eqb-true it.tag 7 (or_else (eqb it.tag 6) (eqb it.tag 7) e h))

module _ (text : ℕ) (in_list : Bool) (it : Item) (members below : ℕ) (k : item_ok text in_list it members below ≡ true) where
  parts : (name_ok in_list it.name && (scalar_ok text it || holder_ok it members below)) ≡ true
  unfolding item_ok
  parts = k

  pub name-right : name_ok in_list it.name ≡ true
  name-right = and_left (name_ok in_list it.name) (scalar_ok text it || holder_ok it members below) parts

  kind : (scalar_ok text it || holder_ok it members below) ≡ true
  kind = and_right (name_ok in_list it.name) (scalar_ok text it || holder_ok it members below) parts

  not-holder : holds it.tag ≡ false → holder_ok it members below ≡ false
  unfolding holder_ok
  not-holder h = rw h

  pub scalar-right : holds it.tag ≡ false → scalar_ok text it ≡ true
  scalar-right h = or_left (scalar_ok text it) (holder_ok it members below) (not-holder h) kind

  module _ (h : holds it.tag ≡ true) where
    holder : (holds it.tag && eqb it.a members && eqb it.b (suc below)) ≡ true
    unfolding holder_ok
    holder = or_else (scalar_ok text it) (holder_ok it members below) (no-scalar text it h) kind

    pub count-right : it.a ≡ members
    count-right = eqb-true it.a members (and_right (holds it.tag) (eqb it.a members) (and_left (holds it.tag && eqb it.a members) (eqb it.b (suc below)) holder))

    pub span_right : it.b ≡ suc below
    span_right = eqb-true it.b (suc below) (and_right (holds it.tag && eqb it.a members) (eqb it.b (suc below)) holder)

-- by the tree
none-ok : (text : ℕ) (in_list : Bool) (levels : ℕ) → list_ok text in_list levels none ≡ true
unfolding list_ok
none-ok text in_list levels = refl

no-level : (text : ℕ) (in_list : Bool) (it : Item) (members rest : Values) → list_ok text in_list 0 (node it members rest) ≡ true → ⊥
unfolding list_ok
no-level text in_list it members rest k = false≢true k

module _ (text : ℕ) (in_list : Bool) (levels : ℕ) (it : Item) (members rest : Values) (k : list_ok text in_list (suc levels) (node it members rest) ≡ true) where
  clauses : (item_ok text in_list it (count members) (size members) && list_ok text (eqb it.tag 6) levels members && list_ok text in_list (suc levels) rest) ≡ true
  unfolding list_ok
  clauses = k

  first_two : (item_ok text in_list it (count members) (size members) && list_ok text (eqb it.tag 6) levels members) ≡ true
  first_two = and_left (item_ok text in_list it (count members) (size members) && list_ok text (eqb it.tag 6) levels members) (list_ok text in_list (suc levels) rest) clauses

  pub node-own : item_ok text in_list it (count members) (size members) ≡ true
  node-own = and_left (item_ok text in_list it (count members) (size members)) (list_ok text (eqb it.tag 6) levels members) first_two

  pub node-members : list_ok text (eqb it.tag 6) levels members ≡ true
  node-members = and_right (item_ok text in_list it (count members) (size members)) (list_ok text (eqb it.tag 6) levels members) first_two

  pub node-rest : list_ok text in_list (suc levels) rest ≡ true
  node-rest = and_right (item_ok text in_list it (count members) (size members) && list_ok text (eqb it.tag 6) levels members) (list_ok text in_list (suc levels) rest) clauses

-- by suffixes: what is found by name, an item's members, and what stands behind it
pub lookup-ok : (text : ℕ) (in_list : Bool) (levels name : ℕ) (vs : Values) → list_ok text in_list levels vs ≡ true → list_ok text in_list levels (lookup name vs) ≡ true
unfolding lookup
lookup-ok text in_list levels name none k = k
lookup-ok text in_list zero name (node it members rest) k = absurd (no-level text in_list it members rest k)
lookup-ok text in_list (suc levels) name (node it members rest) k =
    go (eqb it.name name) (lookup-ok text in_list (suc levels) name rest (node-rest text in_list levels it members rest k))
  where
    go : (t : Bool) → list_ok text in_list (suc levels) (lookup name rest) ≡ true → list_ok text in_list (suc levels) (cond t (node it members rest) (lookup name rest)) ≡ true
    go true ih = k
    go false ih = ih

pub members-ok : (text : ℕ) (in_list : Bool) (levels : ℕ) (vs : Values) → list_ok text in_list (suc levels) vs ≡ true → list_ok text (eqb (head_of vs).tag 6) levels (members_of vs) ≡ true
members-ok text in_list levels none k = none-ok text false levels
members-ok text in_list levels (node it members rest) k = node-members text in_list levels it members rest k

pub rest_ok : (text : ℕ) (in_list : Bool) (levels : ℕ) (vs : Values) → list_ok text in_list (suc levels) vs ≡ true → list_ok text in_list (suc levels) (rest_of vs) ≡ true
rest_ok text in_list levels none k = k
rest_ok text in_list levels (node it members rest) k = node-rest text in_list levels it members rest k

-- by places in the list
module _ (v : List ℕ) (i hi : ℕ) (h : i < hi) (it : Item) (p : it ≡ head_of (values v i hi)) (en : ℕ) (q : en ≡ end_of (span_of it) i hi)
    (text levels : ℕ) (in_list : Bool) (k : list_ok text in_list levels (values v i hi) ≡ true) where
  end_is : en ≡ end_of (span_of (head_of (values v i hi))) i hi
  end_is = q ∙ ap (λ x. end_of (span_of x) i hi) p

  some_level : levels ≡ 0 → ⊥
  some_level z = false≢true (sym (ok-deep v i hi h en end_is text levels in_list z) ∙ k)

  all : (item_ok text in_list it (count (values v (i + 1) en)) (en - i - 1) && list_ok text (eqb it.tag 6) (levels - 1) (values v (i + 1) en) && list_ok text in_list levels (values v en hi)) ≡ true
  all = sym (ok-turn v i hi h en end_is text levels in_list some_level it p (count (values v (i + 1) en)) (en - i - 1) refl refl) ∙ k

  both : (item_ok text in_list it (count (values v (i + 1) en)) (en - i - 1) && list_ok text (eqb it.tag 6) (levels - 1) (values v (i + 1) en)) ≡ true
  both = and_left (item_ok text in_list it (count (values v (i + 1) en)) (en - i - 1) && list_ok text (eqb it.tag 6) (levels - 1) (values v (i + 1) en)) (list_ok text in_list levels (values v en hi)) all

  pub at_own : item_ok text in_list it (count (values v (i + 1) en)) (en - i - 1) ≡ true
  at_own = and_left (item_ok text in_list it (count (values v (i + 1) en)) (en - i - 1)) (list_ok text (eqb it.tag 6) (levels - 1) (values v (i + 1) en)) both

  pub at_rest : list_ok text in_list levels (values v en hi) ≡ true
  at_rest = and_right (item_ok text in_list it (count (values v (i + 1) en)) (en - i - 1) && list_ok text (eqb it.tag 6) (levels - 1) (values v (i + 1) en)) (list_ok text in_list levels (values v en hi)) all

  -- an item ends its span on, and inside its sequence
  pub at_exact : en ≡ i + span_of it
  at_exact = go (holds it.tag) refl
    where
      go : (t : Bool) → holds it.tag ≡ t → en ≡ i + span_of it
      go true e =
          let b : span_of it ≡ it.b = ap (λ t. cond t it.b 1) e in
          let c : it.b ≡ suc (en - i - 1) = span_right text in_list it (count (values v (i + 1) en)) (en - i - 1) at_own e in
          omega arith
      go false e =
          let b : span_of it ≡ 1 = ap (λ t. cond t it.b 1) e in
          omega arith

-- the whole list
module _ (items : List ℕ) (text : ℕ) (k : well_formed items text ≡ true) where
  whole : (eqb (length items % item_words) 0 && list_ok text false depth (values items 0 (item_count items))) ≡ true
  unfolding well_formed
  whole = k

  pub whole-count : length items % item_words ≡ 0
  whole-count = eqb-true (length items % item_words) 0 (and_left (eqb (length items % item_words) 0) (list_ok text false depth (values items 0 (item_count items))) whole)

  pub whole-ok : list_ok text false depth (values items 0 (item_count items)) ≡ true
  whole-ok = and_right (eqb (length items % item_words) 0) (list_ok text false depth (values items 0 (item_count items))) whole
