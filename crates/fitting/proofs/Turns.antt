-- The parts of the walk, the invariants of its two loops, and what a turn makes of them.
use mathlib.Core.Path.{◌≡◌, refl, sym, ap, ap₂, ◌∙◌}
use mathlib.Core.Bool.{Bool, true, false, ◌&&◌, ◌||◌, not, cond, false≢true}
use mathlib.Core.List.{List}
use Prim.Native.Nat.{ℕ, ◌+◌, ◌^◌, ◌<◌, ◌≤◌, min, max}
use native.Mathlib.Omega.{arith}
use lib.Dec.{eqb, ltb}
use lib.IntN.{ℤ}
use lib.ListN.{length, replicate, length-replicate}
use borrow.Author.Tests.{eqb-true}
use Rattle.spans.specs.Tree.{none, node, end_of}
use Rattle.spans.proofs.Tree.{tree-none, tree-at}
use Rattle.lists.proofs.Logic.{and_left, and_right}
use Rattle.layout.specs.declared.Entry.{Entry}
use Rattle.layout.specs.Layout.{entry_at, span_of, part, unrepeated, is_pad}
use Rattle.items.specs.declared.Item.{Item}
use Rattle.items.specs.Items as Items
use Rattle.items.specs.Items.{Values, values, head_of, members_of, scalar_ok, scalar_in, text_of, missing}
use Rattle.items.proofs.Items.{values-none, values-node, members-is}
use Rattle.value.specs.declared.Scalar.{Scalar}
use Rattle.fits.specs.Decide.{fits_of}
use Rattle.walks.specs.Kinds.{mask_of}
use Rattle.walks.specs.Decide.{Fit, misfit, bind, guard, good_of}
use Rattle.walks.specs.Walk.{values_after}
use Rattle.decode_leaf.specs.Counts.{note_in}
use Rattle.fitting.specs.Steps.{Progress, fits, Fitter, headed, name_of, told_after, tabled, good, leaf, one, each, field, seq}
use Rattle.walks.specs.Walk.{values_after}
use Rattle.fitting.proofs.Asks.{text-within}

-- ---- a scalar

-- the text bytes of a good item end inside the texts
pub good-within : (masks text : List ℕ) (e : Entry) (name : ℕ) (vs : Values) (told : ℕ) → good masks text e name vs told ≡ true → told_after (head_of vs) told ≤ max told (length text)
unfolding good_of
good-within masks text e name none told h = absurd (false≢true h)
good-within masks text e name (node it ns vs) told h = go (eqb it.tag 1) refl (and_right f (not (eqb it.tag 1) || eqb it.a (length {A = ℕ} (replicate told 0))) d)
  where
    f : Bool
    f = fits_of e.p e.q e.r e.s (mask_of masks e) e.width e.kind (scalar_in it) (text_of text it)

    l : Bool
    l = not (eqb it.tag 1) || eqb it.a (length {A = ℕ} (replicate told 0))

    a : (missing ns && (scalar_ok (length text) it && (ltb it.a (2 ^ 64) && (f && l)))) ≡ true
    a = and_right (eqb it.name name) (missing ns && (scalar_ok (length text) it && (ltb it.a (2 ^ 64) && (f && l)))) h

    b : (scalar_ok (length text) it && (ltb it.a (2 ^ 64) && (f && l))) ≡ true
    b = and_right (missing ns) (scalar_ok (length text) it && (ltb it.a (2 ^ 64) && (f && l))) a

    d : (f && l) ≡ true
    d = and_right (ltb it.a (2 ^ 64)) (f && l) (and_right (scalar_ok (length text) it) (ltb it.a (2 ^ 64) && (f && l)) b)

    go : (t : Bool) → eqb it.tag 1 ≡ t → (not t || eqb it.a (length {A = ℕ} (replicate told 0))) ≡ true → told + cond t it.b 0 ≤ max told (length text)
    go true t k =
        let w : it.a + it.b ≤ length text = text-within (length text) it (and_left (scalar_ok (length text) it) (ltb it.a (2 ^ 64) && (f && l)) b) t in
        let x : it.a ≡ told = eqb-true it.a (length {A = ℕ} (replicate told 0)) k ∙ length-replicate {A = ℕ} told 0 in
        omega arith
    go false t k = omega arith

module _ (l masks text : List ℕ) (e : Entry) (vs : Values) (run : List ℤ) (told : ℕ) (u : Bool) (y : u ≡ unrepeated e) (name : ℕ) (n : name ≡ cond u e.name 65536) (b : Bool) (p : b ≡ good masks text e name vs told) where
  good-named : b ≡ good masks text e (name_of e) vs told
  good-named = p ∙ ap (λ k. good masks text e k vs told) (n ∙ ap (λ x. cond x e.name 65536) y)

  pub leaf-not : b ≡ false → leaf l masks text e vs run told ≡ misfit
  unfolding leaf
  leaf-not h = ap (λ x. guard x (fits (note_in l true e (scalar_in (head_of vs)) run) (told_after (head_of vs) told))) (sym good-named ∙ h)

  module _ (h : b ≡ true) (it : Item) (q : it ≡ head_of vs) (z : ℕ) (s : z ≡ cond (eqb it.tag 1) it.b 0) where
    told_is : told_after (head_of vs) told ≡ told + z
    told_is = sym (ap (λ k. told + k) (s ∙ ap (λ (x : Item). cond (eqb x.tag 1) x.b 0) q))

    pub leaf-within : told + z ≤ max told (length text)
    leaf-within = omega (arith, told_is, good-within masks text e name vs told (sym p ∙ h))

    pub leaf-is : (x : Scalar) → x ≡ scalar_in it → (run' : List ℤ) → run' ≡ note_in l true e x run → leaf l masks text e vs run told ≡ fits run' (told + z)
    unfolding leaf
    leaf-is x u run' w =
        ap (λ y. guard y (fits (note_in l true e (scalar_in (head_of vs)) run) (told_after (head_of vs) told))) (sym good-named ∙ h)
        ∙ ap₂ fits (sym (w ∙ ap (λ y. note_in l true e y run) (u ∙ ap scalar_in q))) told_is

-- ---- one element, and where a field begins

module _ (l masks text : List ℕ) (e : Entry) (inner : Fitter) (v : List ℕ) (j to : ℕ) (run : List ℤ) (told : ℕ) where
  pub one-leaf : eqb e.kind 9 ≡ false → one l masks text e inner (values v j to) run told ≡ leaf l masks text e (values v j to) run told
  unfolding one
  one-leaf h = rw h refl

  module _ (h : eqb e.kind 9 ≡ true) (name : ℕ) (u : Bool) (y : u ≡ unrepeated e) (n : name ≡ cond u e.name 65536) (b : Bool) (p : b ≡ headed name 7 (values v j to)) where
    one-headed : one l masks text e inner (values v j to) run told ≡ guard b (inner (members_of (values v j to)) run told)
    unfolding one
    one-headed = rw h (ap (λ x. guard x (inner (members_of (values v j to)) run told)) (sym (p ∙ ap (λ k. headed k 7 (values v j to)) (n ∙ ap (λ x. cond x e.name 65536) y))))

    pub one-not : b ≡ false → one l masks text e inner (values v j to) run told ≡ misfit
    one-not f = one-headed ∙ ap (λ x. guard x (inner (members_of (values v j to)) run told)) f

    pub one-group : b ≡ true → (en m : ℕ) → en ≡ end_of (Items.span_of (head_of (values v j to))) j to → m ≡ min en (j + 1)
        → one l masks text e inner (values v j to) run told ≡ inner (values v m en) run told
    one-group f en m q s =
        one-headed ∙ ap (λ x. guard x (inner (members_of (values v j to)) run told)) f
        ∙ ap (λ ns. inner ns run told) (members-is v j to (head_of (values v j to)) (Items.span_of (head_of (values v j to))) en refl refl q m s)

  pub field-pad : eqb e.kind 6 ≡ true → field l masks text e inner (values v j to) run told ≡ fits run told
  unfolding field is_pad
  field-pad h = rw h refl

  module _ (h : eqb e.kind 6 ≡ false) (z : Bool) (y : z ≡ unrepeated e) where
    pub field-one : z ≡ true → field l masks text e inner (values v j to) run told ≡ one l masks text e inner (values v j to) run told
    unfolding field is_pad
    field-one f = rw (h, sym y ∙ f) refl

    module _ (f : z ≡ false) (b : Bool) (p : b ≡ tabled l e (values v j to) run) where
      pub field-not : b ≡ false → field l masks text e inner (values v j to) run told ≡ misfit
      unfolding field is_pad
      field-not g = rw (h, sym y ∙ f, sym p ∙ g) refl

      pub field-each : b ≡ true → (en m : ℕ) → en ≡ end_of (Items.span_of (head_of (values v j to))) j to → m ≡ min en (j + 1)
          → field l masks text e inner (values v j to) run told ≡ each l masks text e inner (values v m en) run told
      unfolding field is_pad
      field-each g en m q s =
          rw (h, sym y ∙ f, sym p ∙ g)
          (ap (λ ns. each l masks text e inner ns run told) (members-is v j to (head_of (values v j to)) (Items.span_of (head_of (values v j to))) en refl refl q m s))

-- ---- the elements of a table: o is what the whole field comes to

module _ (l masks text : List ℕ) where
  abbrev pub seq_in : ℕ → ℕ → Fitter
  seq_in lo hi ns run n = seq l masks text (part l lo hi) ns run n

  abbrev pub field_in : Entry → ℕ → ℕ → Fitter
  field_in e lo hi = field l masks text e (λ ns run n. seq l masks text (part l lo hi) ns run n)

  abbrev pub one_in : Entry → ℕ → ℕ → Fitter
  one_in e lo hi = one l masks text e (λ ns run n. seq l masks text (part l lo hi) ns run n)

  abbrev pub each_in : Entry → ℕ → ℕ → Fitter
  each_in e lo hi = each l masks text e (λ ns run n. seq l masks text (part l lo hi) ns run n)

pub record FieldInv (o : Fit Progress) (l masks text v : List ℕ) (run₀ : List ℤ) (e : Entry) (lo hi end : ℕ) (run : List ℤ) (k so_far : ℕ) : Type 0 where
  pub whole : o ≡ each_in l masks text e lo hi (values v k end) run so_far
  pub same : length run ≡ length run₀

module _ {o : Fit Progress} {l masks text v : List ℕ} {run₀ : List ℤ} {e : Entry} {lo hi end : ℕ} {run : List ℤ} {k so_far : ℕ}
    (inv : FieldInv o l masks text v run₀ e lo hi end run k so_far) where
  pub field-done : end ≤ k → o ≡ fits run so_far
  unfolding each
  field-done h = inv.whole ∙ ap (λ vs. each_in l masks text e lo hi vs run so_far) (values-none v k end h)

  module _ (h : k < end) (k' : ℕ) (q : k' ≡ end_of (Items.span_of (head_of (values v k end))) k end) where
    turn : o ≡ bind (one_in l masks text e lo hi (values v k end) run so_far) (λ s. each_in l masks text e lo hi (values v k' end) s.run s.told)
    unfolding each
    turn =
        let w : values v k end ≡ node (head_of (values v k end)) (values v (k + 1) k') (values v k' end)
        = values-node v k end (head_of (values v k end)) (Items.span_of (head_of (values v k end))) k' refl refl q h in
        inv.whole ∙ ap (λ vs. each_in l masks text e lo hi vs run so_far) w
        ∙ ap (λ vs. bind (one_in l masks text e lo hi vs run so_far) (λ s. each_in l masks text e lo hi (values v k' end) s.run s.told)) (sym w)

    pub field-goes : (run' : List ℤ) (n : ℕ) → one_in l masks text e lo hi (values v k end) run so_far ≡ fits run' n → length run' ≡ length run
        → FieldInv o l masks text v run₀ e lo hi end run' k' n
    field-goes run' n f same = record {
      whole = turn ∙ ap (λ x. bind x (λ s. each_in l masks text e lo hi (values v k' end) s.run s.told)) f;
      same = same ∙ inv.same;
    }

  pub field-stops : k < end → one_in l masks text e lo hi (values v k end) run so_far ≡ misfit → o ≡ misfit
  field-stops h f =
      turn h (end_of (Items.span_of (head_of (values v k end))) k end) refl
      ∙ ap (λ x. bind x (λ s. each_in l masks text e lo hi (values v (end_of (Items.span_of (head_of (values v k end))) k end) end) s.run s.told)) f

-- ---- a sequence

pub record SeqInv (l masks text v : List ℕ) (run₀ : List ℤ) (lo hi from to told : ℕ) (run : List ℤ) (i j so_far : ℕ) : Type 0 where
  pub whole : seq_in l masks text lo hi (values v from to) run₀ told ≡ seq_in l masks text i hi (values v j to) run so_far
  pub same : length run ≡ length run₀
  pub past-lo : lo ≤ i

pub seq-starts : (l masks text v : List ℕ) (run₀ : List ℤ) (lo hi from to told : ℕ) → SeqInv l masks text v run₀ lo hi from to told run₀ lo from told
seq-starts l masks text v run₀ lo hi from to told = record { whole = refl; same = refl; past-lo = omega arith }

module _ {l masks text v : List ℕ} {run₀ : List ℤ} {lo hi from to told : ℕ} {run : List ℤ} {i j so_far : ℕ} (inv : SeqInv l masks text v run₀ lo hi from to told run i j so_far) where
  abbrev pub Whole : Fit Progress
  Whole = seq_in l masks text lo hi (values v from to) run₀ told

  pub seq-done : hi ≤ i → to ≤ j → Whole ≡ fits run so_far
  unfolding seq
  seq-done h k = inv.whole ∙ rw (tree-none (entry_at l) span_of i hi h, values-none v j to k) refl

  pub seq-left : hi ≤ i → j < to → Whole ≡ misfit
  unfolding seq
  seq-left h k =
      inv.whole
      ∙ rw (
        tree-none (entry_at l) span_of i hi h,
        values-node v j to (head_of (values v j to)) (Items.span_of (head_of (values v j to))) (end_of (Items.span_of (head_of (values v j to))) j to) refl refl refl k,
      ) refl

  module _ (e : Entry) (en : ℕ) (h : i < hi) (p : e ≡ entry_at l i) (q : en ≡ end_of e.span i hi) where
    seq-turn : Whole ≡ bind (field_in l masks text e (i + 1) en (values v j to) run so_far) (λ s. seq_in l masks text en hi (values_after e (values v j to)) s.run s.told)
    unfolding seq
    seq-turn = inv.whole ∙ ap (λ t. seq l masks text t (values v j to) run so_far) (tree-at (entry_at l) span_of i hi e en h p q)

    pub seq_stops : field_in l masks text e (i + 1) en (values v j to) run so_far ≡ misfit → Whole ≡ misfit
    seq_stops f = seq-turn ∙ ap (λ x. bind x (λ s. seq_in l masks text en hi (values_after e (values v j to)) s.run s.told)) f

    pub seq-goes : (run' : List ℤ) (n j' : ℕ) → field_in l masks text e (i + 1) en (values v j to) run so_far ≡ fits run' n → length run' ≡ length run
        → values v j' to ≡ values_after e (values v j to) → SeqInv l masks text v run₀ lo hi from to told run' en j' n
    seq-goes run' n j' f same w = record {
      whole = seq-turn ∙ ap (λ x. bind x (λ s. seq_in l masks text en hi (values_after e (values v j to)) s.run s.told)) f ∙ ap (λ vs. seq_in l masks text en hi vs run' n) (sym w);
      same = same ∙ inv.same;
      past-lo = omega (arith, inv.past-lo);
    }
