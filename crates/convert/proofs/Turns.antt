-- Two sequences, two values and a whole list compared one turn at a time: each law says what one way out of a turn makes of the definition.
use mathlib.Core.Path.{◌≡◌, refl, sym, ap, ◌∙◌}
use mathlib.Core.Bool.{true, false, ◌&&◌}
use mathlib.Core.List.{List}
use Prim.Native.Nat.{ℕ, ◌+◌, ◌<◌, ◌≤◌}
use lib.Dec.{eqb, leb}
use native.Mathlib.Decide.{dec_lt}
use native.Mathlib.Omega.{arith}
use borrow.Author.Tests.{eq-eqb, ne_eqb, le-leb, lt-leb}
use Rattle.spans.specs.Tree.{node, end_of}
use Rattle.items.specs.declared.Item.{Item}
use Rattle.items.specs.Items.{Values, values, span_of, head_of, lookup}
use Rattle.items.proofs.Items.{values-none, values-node}
use Rattle.convert.specs.Same.{same_item, same_all, same_value, all_kept}

-- a sequence that is not at its end: its first item, with members and rest
node_at : (v : List ℕ) (p to : ℕ) (x : Item) (pe : ℕ) → x ≡ head_of (values v p to) → pe ≡ end_of (span_of (head_of (values v p to))) p to → p < to
    → values v p to ≡ node x (values v (p + 1) pe) (values v pe to)
node_at v p to x pe xp ep h = values-node v p to x (span_of (head_of (values v p to))) pe xp (ap span_of (sym xp)) ep h

-- ---- two sequences

module _ (t u v w : List ℕ) (p ito q jto : ℕ) where
  pub all_end : ito ≤ p → jto ≤ q → same_all t u (values v p ito) (values w q jto) ≡ true
  unfolding same_all
  all_end h k = rw (values-none v p ito h, values-none w q jto k)

  module _ (x : Item) (pe : ℕ) (xp : x ≡ head_of (values v p ito)) (ep : pe ≡ end_of (span_of (head_of (values v p ito))) p ito) (h : p < ito) where
    pub all-longer : jto ≤ q → same_all t u (values v p ito) (values w q jto) ≡ false
    unfolding same_all
    all-longer k = rw (node_at v p ito x pe xp ep h, values-none w q jto k)

  -- another item in the second alone
  pub all-shorter : ito ≤ p → q < jto → same_all t u (values v p ito) (values w q jto) ≡ false
  unfolding same_all
  all-shorter h k = rw (values-none v p ito h, node_at w q jto (head_of (values w q jto)) (end_of (span_of (head_of (values w q jto))) q jto) refl refl k)

  -- behind the last item of the first sequence
  pub all-done : ito ≤ p → same_all t u (values v p ito) (values w q jto) ≡ leb jto q
  all-done h = by (dec_lt q jto)
    where
      by : Dec (q < jto) → same_all t u (values v p ito) (values w q jto) ≡ leb jto q
      by (yes k) = all-shorter h k ∙ sym (lt-leb jto q k)
      by (no k) = all_end h (omega arith) ∙ sym (le-leb jto q (omega arith))

  module _ (x y : Item) (pe qe : ℕ) (xp : x ≡ head_of (values v p ito)) (yp : y ≡ head_of (values w q jto))
      (ep : pe ≡ end_of (span_of (head_of (values v p ito))) p ito) (eq : qe ≡ end_of (span_of (head_of (values w q jto))) q jto) (h : p < ito) (k : q < jto) where
    pub all-turn : same_all t u (values v p ito) (values w q jto)
        ≡ (eqb x.name y.name && same_item t u x y && same_all t u (values v (p + 1) pe) (values w (q + 1) qe) && same_all t u (values v pe ito) (values w qe jto))
    unfolding same_all
    all-turn = rw (node_at v p ito x pe xp ep h, node_at w q jto y qe yp eq k)

    pub all_named : (x.name ≡ y.name → ⊥) → same_all t u (values v p ito) (values w q jto) ≡ false
    all_named n = all-turn ∙ rw (ne_eqb x.name y.name n)

    module _ (n : x.name ≡ y.name) where
      pub all-item : same_item t u x y ≡ false → same_all t u (values v p ito) (values w q jto) ≡ false
      all-item s = all-turn ∙ rw (eq-eqb x.name y.name n, s)

      module _ (s : same_item t u x y ≡ true) where
        pub all-inner : same_all t u (values v (p + 1) pe) (values w (q + 1) qe) ≡ false → same_all t u (values v p ito) (values w q jto) ≡ false
        all-inner m = all-turn ∙ rw (eq-eqb x.name y.name n, s, m)

        pub all-next : same_all t u (values v (p + 1) pe) (values w (q + 1) qe) ≡ true → same_all t u (values v p ito) (values w q jto) ≡ same_all t u (values v pe ito) (values w qe jto)
        all-next m = all-turn ∙ rw (eq-eqb x.name y.name n, s, m)

-- ---- one value

module _ (t u v w : List ℕ) (i to j end : ℕ) where
  pub value_none : to ≤ i → false ≡ same_value t u (values v i to) (values w j end)
  unfolding same_value
  value_none h = rw (values-none v i to h)

  module _ (x : Item) (pe : ℕ) (xp : x ≡ head_of (values v i to)) (ep : pe ≡ end_of (span_of (head_of (values v i to))) i to) (h : i < to) where
    pub value-alone : end ≤ j → false ≡ same_value t u (values v i to) (values w j end)
    unfolding same_value
    value-alone k = rw (node_at v i to x pe xp ep h, values-none w j end k)

  module _ (x y : Item) (pe qe : ℕ) (xp : x ≡ head_of (values v i to)) (yp : y ≡ head_of (values w j end))
      (ep : pe ≡ end_of (span_of (head_of (values v i to))) i to) (eq : qe ≡ end_of (span_of (head_of (values w j end))) j end) (h : i < to) (k : j < end) where
    heads : same_value t u (values v i to) (values w j end) ≡ (eqb x.name y.name && same_item t u x y && same_all t u (values v (i + 1) pe) (values w (j + 1) qe))
    unfolding same_value
    heads = rw (node_at v i to x pe xp ep h, node_at w j end y qe yp eq k)

    pub value-named : (x.name ≡ y.name → ⊥) → false ≡ same_value t u (values v i to) (values w j end)
    value-named n = sym (heads ∙ rw (ne_eqb x.name y.name n))

    module _ (n : x.name ≡ y.name) where
      pub value-item : same_item t u x y ≡ false → false ≡ same_value t u (values v i to) (values w j end)
      value-item s = sym (heads ∙ rw (eq-eqb x.name y.name n, s))

      pub value-members : same_item t u x y ≡ true → same_all t u (values v (i + 1) pe) (values w (j + 1) qe) ≡ same_value t u (values v i to) (values w j end)
      value-members s = sym (heads ∙ rw (eq-eqb x.name y.name n, s))

-- ---- a whole list

module _ (t u w : List ℕ) (old : Values) (q end : ℕ) where
  pub kept-end : end ≤ q → all_kept t u old (values w q end) ≡ true
  unfolding all_kept
  kept-end h = rw (values-none w q end h)

  module _ (y : Item) (yp : y ≡ head_of (values w q end)) (h : q < end) (one : Values) (f : lookup y.name old ≡ one) where
    kept-turn : (qe : ℕ) → qe ≡ end_of (span_of (head_of (values w q end))) q end → all_kept t u old (values w q end) ≡ (same_value t u one (values w q end) && all_kept t u old (values w qe end))
    unfolding all_kept
    kept-turn qe eq = rw (node_at w q end y qe yp eq h, f)

    pub kept-stops : same_value t u one (values w q end) ≡ false → all_kept t u old (values w q end) ≡ false
    kept-stops s = kept-turn (end_of (span_of (head_of (values w q end))) q end) refl ∙ rw s

    pub kept_goes : same_value t u one (values w q end) ≡ true → (qe : ℕ) → qe ≡ end_of (span_of (head_of (values w q end))) q end → all_kept t u old (values w q end) ≡ all_kept t u old (values w qe end)
    kept_goes s qe eq = kept-turn qe eq ∙ rw s
