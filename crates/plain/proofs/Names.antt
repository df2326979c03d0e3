-- The names of a tree are the names of its entries by index.
use mathlib.Core.Path.{◌≡◌, refl, sym, ap, ap₂, ◌∙◌}
use mathlib.Core.Bool.{Bool, true, false, ◌&&◌, ◌||◌, not}
use mathlib.Core.List.{List, [], ◌∷◌, ◌++◌}
use Prim.Native.Nat.{ℕ, zero, suc, ◌+◌, ◌-◌, ◌≤◌, ◌<◌}
use native.Mathlib.Omega.{arith}
use native.Mathlib.Numerals.{add-one}
use native.Mathlib.Decide.{dec_le}
use borrow.Author.Tests.{eq-eqb, ne_eqb}
use lib.Dec.{eqb}
use Rattle.layout.specs.declared.Entry.{Entry}
use Rattle.layout.specs.Layout.{entry_at, entry_count, span_of, part, entries}
use Rattle.spans.specs.Tree.{end_of}
use Rattle.spans.proofs.Tree.{tree-none, tree-at}
use Rattle.walks.specs.Plain.{is_in, names_of, distinct}
use Rattle.plain.specs.Ways.{names_from}

module _ (l : List ℕ) where
  names-split : (m n i : ℕ) → names_from l i (m + n) ≡ names_from l i m ++ names_from l (i + m) n
  unfolding names_from
  names-split zero n i =
      let z : zero + n ≡ n = omega arith in
      let w : i ≡ i + zero = omega arith in
      ap₂ (λ j k. names_from l j k) w z
  names-split (suc m) n i =
      let z : suc m + n ≡ suc (m + n) = omega arith in
      let w : suc i + m ≡ i + suc m = omega arith in
      ap (names_from l i) z ∙ ap (λ s. (entry_at l i).name ∷ s) (names-split m n (suc i) ∙ ap (λ j. names_from l (suc i) m ++ names_from l j n) w)

  pub names-none : (i n : ℕ) → n ≤ i → names_from l i (n - i) ≡ []
  unfolding names_from
  names-none i n h = let z : n - i ≡ zero = omega arith in ap (names_from l i) z

  pub names_more : (i n : ℕ) → i < n → names_from l i (n - i) ≡ (entry_at l i).name ∷ names_from l (i + 1) (n - (i + 1))
  unfolding names_from
  names_more i n h =
      let z : n - i ≡ suc (n - (i + 1)) = omega arith in
      ap (names_from l i) z ∙ ap (λ j. (entry_at l i).name ∷ names_from l j (n - (i + 1))) (sym (add-one i))

  names_in : (fuel lo hi : ℕ) → hi - lo ≤ fuel → names_of (part l lo hi) ≡ names_from l lo (hi - lo)
  unfolding names_of
  names_in zero lo hi f = rw (tree-none (entry_at l) span_of lo hi (omega arith)) (sym (names-none lo hi (omega arith)))
  names_in (suc fuel) lo hi f = go (dec_le hi lo) (λ lo' hi'. names_in fuel lo' hi')
    where
      go : Dec (hi ≤ lo) → ((lo' hi' : ℕ) → hi' - lo' ≤ fuel → names_of (part l lo' hi') ≡ names_from l lo' (hi' - lo')) → names_of (part l lo hi) ≡ names_from l lo (hi - lo)
      go (yes k) ih = rw (tree-none (entry_at l) span_of lo hi k) (sym (names-none lo hi k))
      go (no k) ih = turn (end_of (entry_at l lo).span lo hi) (omega arith) (omega arith) refl
        where
          turn : (en : ℕ) → lo + 1 ≤ en → en ≤ hi → en ≡ end_of (entry_at l lo).span lo hi → names_of (part l lo hi) ≡ names_from l lo (hi - lo)
          turn en a b q =
              let m : en - (lo + 1) + (hi - en) ≡ hi - (lo + 1) = omega arith in
              let w : lo + 1 + (en - (lo + 1)) ≡ en = omega arith in
              rw (tree-at (entry_at l) span_of lo hi (entry_at l lo) en (omega arith) refl q)
              (ap (λ s. (entry_at l lo).name ∷ s)
              (ap₂ ◌++◌ (ih (lo + 1) en (omega arith)) (ih en hi (omega arith))
              ∙ ap (λ j. names_from l (lo + 1) (en - (lo + 1)) ++ names_from l j (hi - en)) (sym w)
              ∙ sym (names-split (en - (lo + 1)) (hi - en) (lo + 1)) ∙ ap (names_from l (lo + 1)) m)
              ∙ sym (names_more lo hi (omega arith)))

  pub names-all : names_of (entries l) ≡ names_from l 0 (entry_count l - 0)
  names-all = names_in (entry_count l) 0 (entry_count l) (omega arith)

  -- the turns of the loop that looks for a name
  module _ (x i n : ℕ) where
    pub named_end : n ≤ i → is_in x (names_from l i (n - i)) ≡ false
    named_end h = ap (is_in x) (names-none i n h)

    module _ (e : Entry) (h : i < n) (p : e ≡ entry_at l i) where
      named_step : is_in x (names_from l i (n - i)) ≡ (eqb x e.name || is_in x (names_from l (i + 1) (n - (i + 1))))
      named_step = ap (is_in x) (names_more i n h) ∙ ap (λ y. eqb x y.name || is_in x (names_from l (i + 1) (n - (i + 1)))) (sym p)

      pub named_here : x ≡ e.name → is_in x (names_from l i (n - i)) ≡ true
      named_here q = named_step ∙ ap (λ b. b || is_in x (names_from l (i + 1) (n - (i + 1)))) (eq-eqb x e.name q)

      pub named-next : (x ≡ e.name → ⊥) → is_in x (names_from l i (n - i)) ≡ is_in x (names_from l (i + 1) (n - (i + 1)))
      named-next q = named_step ∙ ap (λ b. b || is_in x (names_from l (i + 1) (n - (i + 1)))) (ne_eqb x e.name q)

  -- the turns of the loop over all names
  module _ (i n : ℕ) where
    pub distinct-end : n ≤ i → distinct (names_from l i (n - i)) ≡ true
    unfolding distinct
    distinct-end h = ap distinct (names-none i n h)

    module _ (e : Entry) (b : Bool) (h : i < n) (p : e ≡ entry_at l i) (q : b ≡ is_in e.name (names_from l (i + 1) (n - (i + 1)))) where
      distinct-step : distinct (names_from l i (n - i)) ≡ (not b && distinct (names_from l (i + 1) (n - (i + 1))))
      unfolding distinct
      distinct-step = ap distinct (names_more i n h)
          ∙ ap (λ y. not (is_in y.name (names_from l (i + 1) (n - (i + 1)))) && distinct (names_from l (i + 1) (n - (i + 1)))) (sym p)
          ∙ ap (λ c. not c && distinct (names_from l (i + 1) (n - (i + 1)))) (sym q)

      pub distinct-not : b ≡ true → distinct (names_from l i (n - i)) ≡ false
      distinct-not t = distinct-step ∙ ap (λ c. not c && distinct (names_from l (i + 1) (n - (i + 1)))) t

      pub distinct-next : b ≡ false → distinct (names_from l i (n - i)) ≡ distinct (names_from l (i + 1) (n - (i + 1)))
      distinct-next f = distinct-step ∙ ap (λ c. not c && distinct (names_from l (i + 1) (n - (i + 1)))) f
