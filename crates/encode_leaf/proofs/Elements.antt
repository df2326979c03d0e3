-- The loop over the elements of an entry.
use mathlib.Core.Path.{◌≡◌, refl, sym, ap, ap₂, ◌∙◌}
use mathlib.Core.Bool.{Bool, true, false, ◌&&◌, ◌||◌}
use mathlib.Core.List.{List}
use Prim.Native.Nat.{ℕ, suc, ◌+◌, ◌-◌, ◌*◌, ◌<◌, ◌≤◌, min, max}
use native.Mathlib.Omega.{arith}
use native.Mathlib.Decide.{dec_lt}
use lib.Dec.{eqb, leb}
use lib.ListN.{length}
use borrow.Author.Tests.{lt-leb, le-leb}
use Rattle.spans.specs.Tree.{end_of}
use Rattle.items.specs.Items as Items
use Rattle.items.specs.Items.{Values, values, head_of, rest_of, missing}
use Rattle.items.proofs.Items.{values-none, values-node, rest-is}
use Rattle.encode_leaf.specs.declared.Out.{Out}
use Rattle.layout.specs.declared.Entry.{Entry}
use Rattle.items.specs.declared.Item.{Item}
use Rattle.walks.specs.Records.{most}
use Rattle.encode_leaf.specs.Laying.{Laid, refused, laid, Layer, leaf, leaves, settled, elements}
use Rattle.positions.specs.Positions.{sat}
use Rattle.encode_leaf.specs.Machine.{buffer_behind, codec, room_in}

pub missing-by : (v : List ℕ) (j to : ℕ) → missing (values v j to) ≡ leb to j
missing-by v j to = go (dec_lt j to)
  where
    go : Dec (j < to) → missing (values v j to) ≡ leb to j
    go (yes h) = ap missing (values-node v j to (head_of (values v j to)) (Items.span_of (head_of (values v j to))) (end_of (Items.span_of (head_of (values v j to))) j to) refl refl refl h) ∙ sym (lt-leb to j h)
    go (no h) = ap missing (values-none v j to (omega arith)) ∙ sym (le-leb to j (omega arith))

settled-by : (v : List ℕ) (j to : ℕ) (r : Out) (z : Bool) → z ≡ (leb to j && (eqb r.taken 0 || eqb r.past 0)) → (x : Bool) → z ≡ x → settled (values v j to) r.past r.taken ≡ x
settled-by v j to r z y x q = ap (λ m. m && (eqb r.taken 0 || eqb r.past 0)) (missing-by v j to) ∙ sym y ∙ q

module _ (f : Layer) (n : ℕ) (vs : Values) (at taken past : ℕ) (b : List ℕ) where
  elements-end : n ≤ 0 → elements f n vs at taken past b ≡ laid b past taken
  unfolding elements
  elements-end h = let z : n ≡ 0 = omega arith in rw z refl

  module _ (h : 0 < n) where
    left : n ≡ suc (n - 1)
    left = omega arith

    elements-refused : (m : ℕ) → f vs at b ≡ refused m → elements f n vs at taken past b ≡ refused m
    unfolding elements
    elements-refused m e = rw (left, e) refl

    module _ (b' : List ℕ) (past' t : ℕ) (e : f vs at b ≡ laid b' past' t) where
      elements-settled : settled vs past' t ≡ true → elements f n vs at taken past b ≡ laid b' (max past past') (sat (taken + sat (n * t)))
      unfolding elements
      elements-settled s =
          ap (λ x. elements f x vs at taken past b) left ∙ rw (e, s) (ap (λ x. laid b' (max past past') (sat (taken + sat (x * t)))) (sym left))

      elements-go : settled vs past' t ≡ false → elements f n vs at taken past b ≡ elements f (n - 1) (rest_of vs) (sat (at + t)) (sat (taken + t)) (max past past') b'
      unfolding elements
      elements-go s = ap (λ x. elements f x vs at taken past b) left ∙ rw (e, s) refl

-- o is what all elements come to, f what writes one
pub record ElementsInv (o : Laid) (f : Layer) (v b₀ : List ℕ) (end : ℕ) (b : List ℕ) (j left at taken past : ℕ) : Type 0 where
  pub whole : o ≡ elements f left (values v j end) at taken past b
  pub same : length b ≡ length b₀

pub elements-starts : (f : Layer) (v b : List ℕ) (from end n m at taken past : ℕ) → m ≡ n → ElementsInv (elements f n (values v from end) at taken past b) f v b end b from m at taken past
elements-starts f v b from end n m at taken past e = record { whole = ap (λ k. elements f k (values v from end) at taken past b) (sym e); same = refl }

module _ {o : Laid} {f : Layer} {v b₀ : List ℕ} {end : ℕ} {b : List ℕ} {j left at taken past : ℕ} (inv : ElementsInv o f v b₀ end b j left at taken past) where
  pub elements-done : left ≤ 0 → o ≡ laid b past taken
  elements-done h = inv.whole ∙ elements-end f left (values v j end) at taken past b h

  module _ (h : 0 < left) where
    pub elements-stops : (m : ℕ) → f (values v j end) at b ≡ refused m → o ≡ refused m
    elements-stops m e = inv.whole ∙ elements-refused f left (values v j end) at taken past b h m e

    module _ (r : Out) (b' : List ℕ) (past' : ℕ) (e : f (values v j end) at b ≡ laid b' r.past r.taken) (p : past' ≡ max past r.past)
        (z : Bool) (y : z ≡ (leb end j && (eqb r.taken 0 || eqb r.past 0))) where
      pub elements-settles : z ≡ true → (m s : ℕ) → m ≡ sat (left * r.taken) → s ≡ sat (taken + m) → o ≡ laid b' past' s
      elements-settles q m s u w =
          inv.whole ∙ elements-settled f left (values v j end) at taken past b h b' r.past r.taken e (settled-by v j end r z y true q)
          ∙ ap₂ (laid b') (sym p) (sym (w ∙ ap (λ x. sat (taken + x)) u))

      pub elements-goes : z ≡ false → (at' taken' j' left' : ℕ) → length b' ≡ length b → at' ≡ sat (at + r.taken) → taken' ≡ sat (taken + r.taken)
          → j' ≡ end_of (Items.span_of (head_of (values v j end))) j end → left' ≡ left - 1 → ElementsInv o f v b₀ end b' j' left' at' taken' past'
      elements-goes q at' taken' j' left' same g w u x = record {
        whole = inv.whole ∙ elements-go f left (values v j end) at taken past b h b' r.past r.taken e (settled-by v j end r z y false q)
            ∙ ap₂ (λ vs a. elements f (left - 1) vs a (sat (taken + r.taken)) (max past r.past) b')
            (rest-is v j end (head_of (values v j end)) (Items.span_of (head_of (values v j end))) j' refl refl u) (sym g)
            ∙ ap₂ (λ n t. elements f n (values v j' end) at' t (max past r.past) b') (sym x) (sym w)
            ∙ ap (λ y. elements f left' (values v j' end) at' taken' y b') (sym p);
        same = same ∙ inv.same;
      }

-- w is the buffer that all elements leave
pub record BufferInv (w : List ℕ) (f : Layer) (v : List ℕ) (end : ℕ) (b : List ℕ) (j left at : ℕ) : Type 0 where
  pub whole : w ≡ buffer_behind f left (values v j end) at b

pub buffer-starts : (f : Layer) (v b : List ℕ) (from end n m at : ℕ) → m ≡ n → BufferInv (buffer_behind f n (values v from end) at b) f v end b from m at
buffer-starts f v b from end n m at e = record { whole = ap (λ k. buffer_behind f k (values v from end) at b) (sym e) }

module _ {w : List ℕ} {f : Layer} {v : List ℕ} {end : ℕ} {b : List ℕ} {j left at : ℕ} (inv : BufferInv w f v end b j left at) where
  pub buffer-done : left ≤ 0 → b ≡ w
  unfolding buffer_behind
  buffer-done h = let z : left ≡ 0 = omega arith in sym (inv.whole ∙ rw z refl)

  module _ (h : 0 < left) where
    more : buffer_behind f left (values v j end) at b ≡ buffer_behind f (suc (left - 1)) (values v j end) at b
    more = let z : left ≡ suc (left - 1) = omega arith in ap (λ n. buffer_behind f n (values v j end) at b) z

    pub buffer-stops : (m : ℕ) → f (values v j end) at b ≡ refused m → b ≡ w
    unfolding buffer_behind
    buffer-stops m e = sym (inv.whole ∙ more ∙ rw e refl)

    module _ (r : Out) (b' : List ℕ) (e : f (values v j end) at b ≡ laid b' r.past r.taken) (z : Bool) (y : z ≡ (leb end j && (eqb r.taken 0 || eqb r.past 0))) where
      pub buffer-settles : z ≡ true → b' ≡ w
      unfolding buffer_behind
      buffer-settles q = sym (inv.whole ∙ more ∙ rw (e, settled-by v j end r z y true q) refl)

      pub buffer-goes : z ≡ false → (at' j' left' : ℕ) → at' ≡ sat (at + r.taken) → j' ≡ end_of (Items.span_of (head_of (values v j end))) j end → left' ≡ left - 1
          → BufferInv w f v end b' j' left' at'
      unfolding buffer_behind
      buffer-goes q at' j' left' g u x = record {
        whole = inv.whole ∙ more ∙ rw (e, settled-by v j end r z y false q) (
            ap₂ (λ vs a. buffer_behind f (left - 1) vs a b') (rest-is v j end (head_of (values v j end)) (Items.span_of (head_of (values v j end))) j' refl refl u) (sym g)
            ∙ ap (λ n. buffer_behind f n (values v j' end) at' b') (sym x));
      }

-- an element that is no group, in the buffer as it is now
pub leaf-here : (masks text : List ℕ) (page : ℕ) (e : Entry) {o : Laid} {v b₀ : List ℕ} {end : ℕ} {b : List ℕ} {j left at taken past : ℕ}
    → ElementsInv o (leaves (codec masks page text) (room_in b₀) e) v b₀ end b j left at taken past → (it : Item) → it ≡ head_of (values v j end) → (x : Laid)
    → leaf (codec masks page text) (room_in b) e it at b ≡ x → leaves (codec masks page text) (room_in b₀) e (values v j end) at b ≡ x
leaf-here masks text page e {b = b} {at = at} inv it p x h =
    ap₂ (λ n i. leaf (codec masks page text) (min n most) e i at b) (sym inv.same) (sym p) ∙ h
