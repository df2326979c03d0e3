-- Laws of the loops over a layout's entries.
use mathlib.Core.Path.{◌≡◌, refl, sym, ap, ◌∙◌}
use mathlib.Core.Bool.{Bool, true, false, ◌&&◌, ◌||◌, not, cond, and-false}
use mathlib.Core.List.{List}
use Prim.Native.Nat.{ℕ, zero, suc, ◌+◌, ◌*◌, ◌<◌, ◌≤◌, max}
use native.Mathlib.Omega.{arith}
use native.Mathlib.Numerals.{add-one}
use native.Mathlib.Nat.{mul-le-mul_left, le_trans}
use lib.Dec.{eqb, leb, ltb}
use borrow.Author.Tests.{ltb-true, ltb-false, eq-eqb, ne_eqb, le-leb, eqb-true, eqb-false, leb-true}
use Rattle.layout.specs.declared.Entry.{Entry}
use Rattle.lists.proofs.Logic.{or-true}
use Rattle.std.specs.List.{fold}
use Rattle.spans.specs.Tree.{Tree, none, node, size, level}
use Rattle.layout.specs.Layout.{absent, entry_at, entry_count, entries, present, all_below, some_below, entry_ok, entries_ok, checked_of, work_for, layout_asks, depends_in, reserved_width, furthest, record_length}

module _ (f : ℕ → Bool) where
  pub all-next : (n : ℕ) → all_below f n ≡ true → f n ≡ true → all_below f (n + 1) ≡ true
  unfolding all_below
  all-next n a b = rw (add-one n, a, b) refl

  pub all-not : (n i : ℕ) → i < n → f i ≡ false → all_below f n ≡ false
  unfolding all_below
  all-not zero i h b = absurd (omega arith)
  all-not (suc n) i h b = go (ltb i n) refl (λ k. all-not n i k b)
    where
      go : (t : Bool) → ltb i n ≡ t → (i < n → all_below f n ≡ false) → (all_below f n && f n) ≡ false
      go true t ih = rw (ih (ltb-true i n t)) refl
      go false t ih = let z : n ≡ i = omega (arith, ltb-false i n t) in ap (λ k. all_below f n && f k) z ∙ ap (λ x. all_below f n && x) b ∙ and-false (all_below f n)

  -- what holds of all holds of each
  pub all-at : (n i : ℕ) → i < n → all_below f n ≡ true → f i ≡ true
  all-at n i h a = go (f i) refl
    where
      go : (b : Bool) → f i ≡ b → f i ≡ true
      go true t = t
      go false t = t ∙ sym (all-not n i h t) ∙ a

  pub some_next : (n : ℕ) → some_below f n ≡ false → f n ≡ false → some_below f (n + 1) ≡ false
  unfolding some_below
  some_next n a b = rw (add-one n, a, b) refl

  pub some_at : (n i : ℕ) → i < n → f i ≡ true → some_below f n ≡ true
  unfolding some_below
  some_at zero i h b = absurd (omega arith)
  some_at (suc n) i h b = go (ltb i n) refl (λ k. some_at n i k b)
    where
      go : (t : Bool) → ltb i n ≡ t → (i < n → some_below f n ≡ true) → (some_below f n || f n) ≡ true
      go true t ih = rw (ih (ltb-true i n t)) refl
      go false t ih = let z : n ≡ i = omega (arith, ltb-false i n t) in ap (λ k. some_below f n || f k) z ∙ ap (λ x. some_below f n || x) b ∙ or-true (some_below f n)

-- the furthest end of a sequence, taken entry by entry
pub furthest-fold : (t : Tree Entry) (i far : ℕ) → fold (λ n p. max n (p.1.offset + reserved_width p.1)) far (level i t) ≡ max far (furthest t)
unfolding furthest level
furthest-fold none i far = omega arith
furthest-fold (node e members rest) i far = furthest-fold rest (i + suc (size members)) (max far (e.offset + reserved_width e)) ∙ omega arith

pub length_by_fold : (l : List ℕ) → record_length l ≡ fold (λ n p. max n (p.1.offset + reserved_width p.1)) 0 (level 0 (entries l))
unfolding record_length
length_by_fold l = sym (furthest-fold (entries l) 0 0 ∙ omega arith)

product_small : (a b : ℕ) → a < 4294967296 → b < 4294967296 → a * b ≤ 18446744065119617025
product_small a b ha hb =
    let h : b ≤ 4294967295 = omega arith in
    le_trans (mul-le-mul_left a h) (omega arith)

pub reserved_small : (e : Entry) → e.width < 4294967296 → e.occurs < 4294967296 → reserved_width e ≤ 18446744065119617025
unfolding reserved_width
reserved_small e hw ho = go (eqb e.depending absent) (eqb e.occurs absent)
  where
    go : (x y : Bool) → cond (not x) 0 (e.width * cond y 1 e.occurs) ≤ 18446744065119617025
    go false y = omega arith
    go true true = omega arith
    go true false = product_small e.width e.occurs hw ho

-- the turns of the loop that asks question 2
module _ (l : List ℕ) (masks i : ℕ) where
  pub entries-all : entry_count l ≤ i → i ≤ entry_count l → all_below (λ j. entry_ok (entry_at l j) masks) i ≡ true → true ≡ entries_ok l masks
  unfolding entries_ok
  entries-all a b h = let z : entry_count l ≡ i = omega (arith, a, b) in sym (ap (all_below (λ j. entry_ok (entry_at l j) masks)) z ∙ h)

  module _ (e : Entry) (b : Bool) (p : e ≡ entry_at l i) (q : b ≡ entry_ok e masks) where
    it-is : entry_ok (entry_at l i) masks ≡ b
    it-is = ap (λ x. entry_ok x masks) (sym p) ∙ sym q

    pub entries-not : i < entry_count l → b ≡ false → false ≡ entries_ok l masks
    unfolding entries_ok
    entries-not h f = sym (all-not (λ j. entry_ok (entry_at l j) masks) (entry_count l) i h (it-is ∙ f))

    pub entries_next : all_below (λ j. entry_ok (entry_at l j) masks) i ≡ true → b ≡ true → all_below (λ j. entry_ok (entry_at l j) masks) (i + 1) ≡ true
    entries_next h f = all-next (λ j. entry_ok (entry_at l j) masks) i h (it-is ∙ f)

-- the turns of the loop that looks for a controller
module _ (l : List ℕ) (i : ℕ) where
  pub depends-none : entry_count l ≤ i → i ≤ entry_count l → some_below (λ j. present (entry_at l j).depending) i ≡ false → false ≡ depends_in l
  unfolding depends_in
  depends-none a b h = let z : entry_count l ≡ i = omega (arith, a, b) in sym (ap (some_below (λ j. present (entry_at l j).depending)) z ∙ h)

  module _ (e : Entry) (p : e ≡ entry_at l i) where
    pub depends-here : i < entry_count l → (e.depending ≡ absent → ⊥) → true ≡ depends_in l
    unfolding depends_in
    depends-here h f = sym (some_at (λ j. present (entry_at l j).depending) (entry_count l) i h
        (ap (λ x. present x.depending) (sym p) ∙ ap not (ne_eqb e.depending absent f)))

    pub depends-next : some_below (λ j. present (entry_at l j).depending) i ≡ false → e.depending ≡ absent → some_below (λ j. present (entry_at l j).depending) (i + 1) ≡ false
    depends-next h f = some_next (λ j. present (entry_at l j).depending) i h
        (ap (λ x. present x.depending) (sym p) ∙ ap not (eq-eqb e.depending absent f))

-- a layout of which nothing is asked is lawful, and has its work space
pub asked-lawful : (l masks : List ℕ) (page work : ℕ) → layout_asks l masks page work ≡ 0 → (checked_of l masks page ≡ 0) × (work_for l ≤ work)
unfolding layout_asks
asked-lawful l masks page work = go (eqb (checked_of l masks page) 0) refl (leb (work_for l) work) refl
  where
    go : (a : Bool) → eqb (checked_of l masks page) 0 ≡ a → (b : Bool) → leb (work_for l) work ≡ b
        → cond a (cond b 0 16) (checked_of l masks page) ≡ 0 → (checked_of l masks page ≡ 0) × (work_for l ≤ work)
    go true x true y e = (eqb-true (checked_of l masks page) 0 x, leb-true (work_for l) work y)
    go true x false y e = absurd (omega (arith, e))
    go false x b y e = absurd (eqb-false (checked_of l masks page) 0 x e)

pub lawful-asked : (l masks : List ℕ) (page work : ℕ) → eqb (checked_of l masks page) 0 ≡ true → work_for l ≤ work → layout_asks l masks page work ≡ 0
unfolding layout_asks
lawful-asked l masks page work a b = rw (a, le-leb (work_for l) work b) refl
