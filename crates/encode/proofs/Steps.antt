-- The laws by which a step of the writer's walk goes.
use mathlib.Core.Path.{◌≡◌, refl, sym, ap, ap₂, ◌∙◌}
use mathlib.Core.Bool.{Bool, true, false, not, ◌&&◌, cond, false≢true}
use mathlib.Core.List.{List}
use Prim.Native.Nat.{ℕ, suc, ◌+◌, ◌-◌, ◌*◌, ◌<◌, ◌≤◌, max}
use native.Mathlib.Omega.{arith}
use lib.Dec.{eqb, leb}
use lib.ListN.{length}
use borrow.Author.Tests.{eq-eqb, ne_eqb, eqb-true, leb-true}
use Rattle.spans.specs.Tree.{Tree, none, node, end_of}
use Rattle.spans.proofs.Tree.{tree-none, tree-at}
use Rattle.layout.specs.declared.Entry.{Entry}
use Rattle.layout.specs.Layout.{entry_at, span_of, is_group, part, reserved_width, unrepeated, is_pad}
use Rattle.items.specs.declared.Item.{Item}
use Rattle.items.specs.Items.{Values, head_of, members_of, lookup}
use Rattle.walks.specs.Walk.{Coded, unfit, bytes, Codec}
use Rattle.walks.specs.Writing.{lay}
use Rattle.walks.proofs.Single.{single-reserves}
use Rattle.encode_leaf.specs.Laying.{Laid, refused, laid, Layer, bind, coded, leaf, container, one, settled, elements, table, field, seq, start}
use Rattle.positions.specs.Positions.{sat}
use Rattle.encode_leaf.specs.Machine.{codec}
use Rattle.encode_leaf.proofs.Inside.{spread}
use Rattle.encode_leaf.proofs.Leaves.{leaf-pad}
use Rattle.encode.specs.Order.{lone, value_of}

-- ---- an entry that is written at once

module _ {S : Type 0} (k : Codec S) (room : ℕ) (e : Entry) (inner : Layer) (vs : Values) (at : ℕ) (b : List ℕ) where
  field-leaf : is_group e ≡ false → unrepeated e ≡ true → (it : Item) → it ≡ head_of vs → field k room e inner vs at b ≡ leaf k room e it at b
  unfolding field one
  field-leaf g s it p = rw (s, g) (ap (λ x. leaf k room e x at b) (sym p))

taken_is : (room w at : ℕ) (b : List ℕ) (c : Coded) (b' : List ℕ) (past t : ℕ) → coded room w at b c ≡ laid b' past t → t ≡ w
taken_is room w at b (unfit n) b' past t h = absurd (false≢true (ap fine h))
  where
    fine : Laid → Bool
    fine (refused n) = false
    fine (laid b past t) = true
taken_is room w at b (bytes bs) b' past t h = go (leb (at + length bs) room) h
  where
    taken_of : Laid → ℕ
    taken_of (refused n) = w
    taken_of (laid b past t) = t

    go : (x : Bool) → cond x (laid (lay b at bs) (suc (at + length bs)) w) (refused 16) ≡ laid b' past t → t ≡ w
    go true f = sym (ap taken_of f)
    go false f = sym (ap taken_of f)

module _ (e : Entry) (z : Bool) (y : z ≡ lone e) (f : z ≡ true) where
  parts : (is_group e ≡ false) × ((unrepeated e ≡ true) × (leb e.span 1 ≡ true))
  unfolding lone
  parts = go (is_group e) (unrepeated e) (leb e.span 1) (sym y ∙ f)
    where
      go : (g s l : Bool) → (not g && (s && l)) ≡ true → (g ≡ false) × ((s ≡ true) × (l ≡ true))
      go true s l h = absurd (false≢true h)
      go false true true h = (refl, (refl, refl))
      go false true false h = absurd (false≢true h)
      go false false l h = absurd (false≢true h)

  pub lone-end : (i hi : ℕ) → i < hi → i + 1 ≡ end_of e.span i hi
  lone-end i hi h = omega (arith, leb-true e.span 1 parts.1.1)

  pub lone-field : {S : Type 0} (k : Codec S) (room : ℕ) (inner : Layer) (vs : Values) (at : ℕ) (b : List ℕ) (it : Item) → it ≡ head_of vs → field k room e inner vs at b ≡ leaf k room e it at b
  lone-field k room inner vs at b it p = field-leaf k room e inner vs at b parts.0 parts.1.0 it p

  -- it takes what is reserved for it
  pub lone-shift : {S : Type 0} (k : Codec S) (room : ℕ) (it : Item) (at : ℕ) (b b' : List ℕ) (past t shift : ℕ) → leaf k room e it at b ≡ laid b' past t → shift ≤ 9223372036854775808
      → shift ≡ sat (shift + (t - reserved_width e))
  unfolding leaf
  lone-shift k room it at b b' past t shift h s = omega (arith, taken_is room e.width at b (k.enc e it) b' past t h, single-reserves e parts.1.0)

-- ---- the value of a Pad does not matter

pub field-value : (masks text : List ℕ) (page room : ℕ) (e : Entry) (inner : Layer) (all : Values) (at : ℕ) (b : List ℕ)
    → field (codec masks page text) room e inner (value_of e all) at b ≡ field (codec masks page text) room e inner (lookup e.name all) at b
unfolding value_of is_pad
field-value masks text page room e inner all at b = go (eqb e.kind 6) (unrepeated e) refl refl
  where
    go : (x y : Bool) → eqb e.kind 6 ≡ x → unrepeated e ≡ y
        → field (codec masks page text) room e inner (cond (x && y) none (lookup e.name all)) at b ≡ field (codec masks page text) room e inner (lookup e.name all) at b
    go true true p q =
        let k : e.kind ≡ 6 = eqb-true e.kind 6 p in
        let g : is_group e ≡ false = ne_eqb e.kind 9 (λ h. omega arith) in
        field-leaf (codec masks page text) room e inner none at b g q (head_of none) refl
        ∙ leaf-pad masks text page room e (head_of none) (head_of (lookup e.name all)) at b k
        ∙ sym (field-leaf (codec masks page text) room e inner (lookup e.name all) at b g q (head_of (lookup e.name all)) refl)
    go true false p q = refl
    go false y p q = refl

-- ---- the bytes taken, which stop at 2^63

abbrev Stops : Laid → Type 0
Stops (refused n) = Unit {0}
Stops (laid b past t) = t ≤ 9223372036854775808

cond-stops : (x : Bool) (o p : Laid) → Stops o → Stops p → Stops (cond x o p)
cond-stops true o p h k = h
cond-stops false o p h k = k

next-stops : (o : Laid) (f : List ℕ → ℕ → ℕ → Laid) → ((b : List ℕ) (past t : ℕ) → Stops (f b past t)) → Stops (bind o f)
next-stops (refused n) f h = tt
next-stops (laid b past t) f h = h b past t

coded-stops : (room w at : ℕ) (b : List ℕ) (c : Coded) → w ≤ 9223372036854775808 → Stops (coded room w at b c)
coded-stops room w at b (unfit n) h = tt
coded-stops room w at b (bytes bs) h = cond-stops (leb (at + length bs) room) _ _ h tt

seq_stops : {S : Type 0} (k : Codec S) (room : ℕ) (t : Tree Entry) (vs : Values) (base shift taken past : ℕ) (b : List ℕ) → taken ≤ 9223372036854775808 → Stops (seq k room t vs base shift taken past b)
unfolding seq
seq_stops k room none vs base shift taken past b h = h
seq_stops k room (node e members rest) vs base shift taken past b h =
    next-stops (field k room e (λ ms base' b'. seq k room members ms base' 0 0 0 b') (lookup e.name vs) (sat (base + sat (e.offset + shift))) b) _
    (λ b' past' t. seq_stops k room rest vs base (sat (shift + (t - reserved_width e))) (max taken (sat (sat (e.offset + shift) + t))) (max past past') b' (omega arith))

-- ---- one element, or the elements of a table

module _ {S : Type 0} (k : Codec S) (room : ℕ) (e : Entry) (members : Tree Entry) (small : e.width ≤ 9223372036854775808) where
  one-stops : (vs : Values) (at : ℕ) (b : List ℕ) → Stops (one k room e (start k room members) vs at b)
  unfolding one container leaf
  one-stops vs at b =
      cond-stops (is_group e) _ _
      (cond-stops (eqb (head_of vs).tag 7) _ _ (seq_stops k room members (members_of vs) at 0 0 0 b (omega arith))
      (cond-stops (eqb (head_of vs).tag 0) _ (refused 13) (seq_stops k room members none at 0 0 0 b (omega arith)) tt))
      (coded-stops room e.width at b (k.enc e (head_of vs)) small)

  -- the loop over one element is that element
  once : (vs : Values) (at : ℕ) (b : List ℕ) → one k room e (start k room members) vs at b ≡ elements (one k room e (start k room members)) 1 vs at 0 0 b
  unfolding elements
  once vs at b = go (one k room e (start k room members) vs at b) (one-stops vs at b)
    where
      go : (o : Laid) → Stops o
          → o ≡ bind o (λ b' past' t. cond (settled vs past' t) (laid b' (max 0 past') (sat (0 + sat (1 * t)))) (laid b' (max 0 past') (sat (0 + t))))
      go (refused n) h = refl
      go (laid b' past' t) h = by (settled vs past' t)
        where
          by : (x : Bool) → laid b' past' t ≡ cond x (laid b' (max 0 past') (sat (0 + sat (1 * t)))) (laid b' (max 0 past') (sat (0 + t)))
          by true = ap₂ (laid b') (omega arith) (omega (arith, h))
          by false = ap₂ (laid b') (omega arith) (omega (arith, h))

  pub field-spread : (vs : Values) (at : ℕ) (b : List ℕ)
      → field k room e (start k room members) vs at b ≡ spread e (λ n ms. elements (one k room e (start k room members)) n ms at 0 0 b) vs
  unfolding field table spread
  field-spread vs at b = ap (λ o. cond (unrepeated e) o (table e (one k room e (start k room members)) vs at b)) (once vs at b)

-- ---- the entries of a sequence

module _ {S : Type 0} (k : Codec S) (room : ℕ) (l : List ℕ) (lo hi : ℕ) (vs : Values) (base shift taken past : ℕ) (b : List ℕ) where
  pub seq_end : hi ≤ lo → seq k room (part l lo hi) vs base shift taken past b ≡ laid b past taken
  unfolding seq
  seq_end h = rw (tree-none (entry_at l) span_of lo hi h) refl

  module _ (e : Entry) (en : ℕ) (h : lo < hi) (p : e ≡ entry_at l lo) (q : en ≡ end_of e.span lo hi) where
    abbrev pub first : Laid
    first = field k room e (start k room (part l (lo + 1) en)) (lookup e.name vs) (sat (base + sat (e.offset + shift))) b

    pub seq-refused : (n : ℕ) → first ≡ refused n → seq k room (part l lo hi) vs base shift taken past b ≡ refused n
    unfolding seq
    seq-refused n f = rw (tree-at (entry_at l) span_of lo hi e en h p q, f) refl

    pub seq-go : (b' : List ℕ) (past' t : ℕ) → first ≡ laid b' past' t
        → seq k room (part l lo hi) vs base shift taken past b
        ≡ seq k room (part l en hi) vs base (sat (shift + (t - reserved_width e))) (max taken (sat (sat (e.offset + shift) + t))) (max past past') b'
    unfolding seq
    seq-go b' past' t f = rw (tree-at (entry_at l) span_of lo hi e en h p q, f) refl
