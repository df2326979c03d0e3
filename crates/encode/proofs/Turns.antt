-- The invariants of the two loops of the walk, and what a turn makes of them.
use mathlib.Core.Path.{◌≡◌, refl, sym, ap, ap₂, ◌∙◌}
use mathlib.Core.Bool.{Bool, true, false, cond}
use mathlib.Core.List.{List}
use Prim.Native.Nat.{ℕ, ◌+◌, ◌-◌, ◌<◌, ◌≤◌, min, max}
use native.Mathlib.Omega.{arith}
use lib.Dec.{eqb}
use lib.ListN.{length}
use Rattle.value.specs.Answer.{Answer, given, refused as not_given}
use Rattle.codes.specs.declared.Refusal.{Refusal}
use Rattle.codes.specs.Refusals.{number_of}
use Rattle.spans.specs.Tree.{end_of}
use Rattle.layout.specs.declared.Entry.{Entry}
use Rattle.layout.specs.Layout.{entry_at, part, is_group, reserved_width}
use Rattle.items.specs.Items.{Values, values, lookup}
use Rattle.items.proofs.Items.{values-none}
use Rattle.walks.specs.Records.{most}
use Rattle.encode_leaf.specs.declared.Out.{Out}
use Rattle.encode_leaf.specs.declared.Run.{Run}
use Rattle.encode_leaf.specs.Laying.{Laid, refused, laid, Layer, group, leaves, one, elements, field, seq, start}
use Rattle.positions.specs.Positions.{sat}
use Rattle.encode_leaf.specs.Machine.{codec, room_in, elements_in}
use Rattle.encode_leaf.proofs.Inside.{ran, spread_is}
use Rattle.encode.specs.declared.Place.{Place}
use Rattle.encode_leaf.proofs.Elements.{ElementsInv}
use Rattle.encode.specs.Order.{value_of, Ahead}
use Rattle.encode.proofs.Steps.{field-value, field-spread, seq_end, seq-refused, seq-go}

-- the walk's parts in a buffer of this length
module _ (masks text : List ℕ) (page : ℕ) (l : List ℕ) (b : List ℕ) where
  abbrev pub seq_in : ℕ → ℕ → Layer
  seq_in lo hi = start (codec masks page text) (room_in b) (part l lo hi)

  abbrev pub group_in : ℕ → ℕ → Layer
  group_in lo hi = group (seq_in lo hi)

  abbrev pub field_in : Entry → ℕ → ℕ → Layer
  field_in e lo hi = field (codec masks page text) (room_in b) e (seq_in lo hi)

-- ---- a sequence

pub record SeqInv (masks text : List ℕ) (page : ℕ) (l v b₀ : List ℕ) (lo hi from to base : ℕ) (b : List ℕ) (i shift taken past : ℕ) (f : Place) : Type 0 where
  pub whole : seq_in masks text page l b₀ lo hi (values v from to) base b₀
      ≡ seq (codec masks page text) (room_in b₀) (part l i hi) (values v from to) base shift taken past b
  pub same : length b ≡ length b₀
  pub past-lo : lo ≤ i
  pub stops : shift ≤ 9223372036854775808
  pub ahead : Ahead (values v from to) (values v f.next to) f.low

pub seq-starts : (masks text : List ℕ) (page : ℕ) (l v b₀ : List ℕ) (lo hi from to base : ℕ) → SeqInv masks text page l v b₀ lo hi from to base b₀ lo 0 0 0 (record { at = to; next = from; low = 0 })
seq-starts masks text page l v b₀ lo hi from to base = record { whole = refl; same = refl; past-lo = omega arith; stops = omega arith; ahead = λ name h. refl }

module _ {masks text : List ℕ} {page : ℕ} {l v b₀ : List ℕ} {lo hi from to base : ℕ} {b : List ℕ} {i shift taken past : ℕ} {f : Place}
    (inv : SeqInv masks text page l v b₀ lo hi from to base b i shift taken past f) where
  pub seq-done : hi ≤ i → seq_in masks text page l b₀ lo hi (values v from to) base b₀ ≡ laid b past taken
  seq-done h = inv.whole ∙ seq_end (codec masks page text) (room_in b₀) l i hi (values v from to) base shift taken past b h

  module _ (e : Entry) (en off at j : ℕ) (h : i < hi) (p : e ≡ entry_at l i) (q : en ≡ end_of e.span i hi) (o1 : off ≡ sat (e.offset + shift)) (o2 : at ≡ sat (base + off))
      (found : value_of e (values v from to) ≡ values v j to) where
    abbrev pub called : Laid
    called = field_in masks text page l b e (i + 1) en (values v j to) at b

    called_is : called ≡ field_in masks text page l b₀ e (i + 1) en (lookup e.name (values v from to)) (sat (base + sat (e.offset + shift))) b
    called_is = ap (λ n. field (codec masks page text) (min n most) e (start (codec masks page text) (min n most) (part l (i + 1) en)) (values v j to) at b) inv.same
        ∙ ap₂ (λ vs a. field_in masks text page l b₀ e (i + 1) en vs a b) (sym found) (o2 ∙ ap (λ x. sat (base + x)) o1)
        ∙ field-value masks text page (room_in b₀) e (seq_in masks text page l b₀ (i + 1) en) (values v from to) (sat (base + sat (e.offset + shift))) b

    pub seq_stops : (n : ℕ) → called ≡ refused n → seq_in masks text page l b₀ lo hi (values v from to) base b₀ ≡ refused n
    seq_stops n r = inv.whole ∙ seq-refused (codec masks page text) (room_in b₀) l i hi (values v from to) base shift taken past b e en h p q n (sym called_is ∙ r)

    pub seq-goes : (o : Out) (b' : List ℕ) (f' : Place) (res grown shift' stop taken' past' : ℕ) → called ≡ laid b' o.past o.taken → length b' ≡ length b
        → res ≡ reserved_width e → grown ≡ o.taken - res → shift' ≡ sat (shift + grown) → stop ≡ sat (off + o.taken) → taken' ≡ max taken stop → past' ≡ max past o.past
        → Ahead (values v from to) (values v f'.next to) f'.low
        → SeqInv masks text page l v b₀ lo hi from to base b' en shift' taken' past' f'
    seq-goes o b' f' res grown shift' stop taken' past' r0 same r1 r2 r3 r4 r5 r6 r7 = record {
      whole = inv.whole ∙ seq-go (codec masks page text) (room_in b₀) l i hi (values v from to) base shift taken past b e en h p q b' o.past o.taken (sym called_is ∙ r0)
          ∙ ap₂ (λ x y. seq (codec masks page text) (room_in b₀) (part l en hi) (values v from to) base x y (max past o.past) b')
          (sym (r3 ∙ ap (λ x. sat (shift + x)) (r2 ∙ ap (λ x. o.taken - x) r1)))
          (sym (r5 ∙ ap (max taken) (r4 ∙ ap (λ x. sat (x + o.taken)) o1)))
          ∙ ap (λ x. seq (codec masks page text) (room_in b₀) (part l en hi) (values v from to) base shift' taken' x b') (sym r6);
      same = same ∙ inv.same;
      past-lo = omega (arith, inv.past-lo);
      stops = omega (arith, r3);
      ahead = r7;
    }

-- ---- the elements of an entry

module _ (masks text : List ℕ) (page : ℕ) (l v b : List ℕ) (e : Entry) (lo hi i to at : ℕ) (small : e.width ≤ 9223372036854775808) where
  -- a group's, or a scalar's or Pad's
  abbrev Elements : Bool → ℕ → Values → Laid
  Elements x n ms = elements (λ vs a c. cond x (group_in masks text page l b lo hi vs a c) (leaves (codec masks page text) (room_in b) e vs a c)) n ms at 0 0 b

  field-run : (x : Bool) → is_group e ≡ x → (z : Answer Run) → z ≡ elements_in v e i to → field_in masks text page l b e lo hi (values v i to) at b ≡ ran v (Elements x) z
  unfolding one
  field-run x g z q =
      field-spread (codec masks page text) (room_in b) e (part l lo hi) small (values v i to) at b
      ∙ spread_is e v i to (Elements (is_group e)) ∙ ap₂ (λ y w. ran v (Elements y) w) g (sym q)

  pub field-not : (q : Refusal) → not_given (number_of q) ≡ elements_in v e i to → field_in masks text page l b e lo hi (values v i to) at b ≡ refused (number_of q)
  field-not q h = field-run (is_group e) refl (not_given (number_of q)) h

  module _ (r : Run) (h : given r ≡ elements_in v e i to) where
    pub field-group : eqb e.kind 9 ≡ true → field_in masks text page l b e lo hi (values v i to) at b
        ≡ elements (group_in masks text page l b lo hi) r.n (values v r.from r.end) at 0 0 b
    field-group k = field-run true k (given r) h

    module _ (k : eqb e.kind 9 ≡ false) where
      pub field-leaves : field_in masks text page l b e lo hi (values v i to) at b
          ≡ elements (leaves (codec masks page text) (room_in b) e) r.n (values v r.from r.end) at 0 0 b
      field-leaves = field-run false k (given r) h

      -- the same without values
      pub field-empty : r.end ≤ r.from → field_in masks text page l b e lo hi (values v i to) at b
          ≡ elements (leaves (codec masks page text) (room_in b) e) r.n (values v r.end r.end) at 0 0 b
      field-empty p = field-leaves
          ∙ ap (λ vs. elements (leaves (codec masks page text) (room_in b) e) r.n vs at 0 0 b) (values-none v r.from r.end p ∙ sym (values-none v r.end r.end (omega arith)))

-- a group, in the buffer as it is now
pub group-here : (masks text : List ℕ) (page : ℕ) (l : List ℕ) (lo hi : ℕ) {o : Laid} {v b₀ : List ℕ} {end : ℕ} {b : List ℕ} {j left at taken past : ℕ}
    → ElementsInv o (group_in masks text page l b₀ lo hi) v b₀ end b j left at taken past → (x : Laid)
    → group_in masks text page l b lo hi (values v j end) at b ≡ x → group_in masks text page l b₀ lo hi (values v j end) at b ≡ x
group-here masks text page l lo hi {v = v} {end = end} {b = b} {j = j} {at = at} inv x h =
    ap (λ n. group (start (codec masks page text) (min n most) (part l lo hi)) (values v j end) at b) (sym inv.same) ∙ h
