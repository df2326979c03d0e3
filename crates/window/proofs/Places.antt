-- The two entries and their items: what is asked of the level of the top, and the walk over the top-level items, one turn at a time.
use Rattle.std.proofs.Common.{◌≡◌, ℕ, zero, suc, ◌+◌, ◌-◌, ◌<◌, ◌≤◌, Bool, true, false, cond, ◌&&◌, eqb, leb, List, [], ◌∷◌, length, sym, refl, ap, ◌∙◌, arith, eq-eqb, ne_eqb, le-leb}
use native.Mathlib.Decide.{dec_le}
use borrow.Author.Tests.{lt-leb}
use Rattle.layout.specs.declared.Entry.{Entry}
use Rattle.layout.specs.Layout.{entry_at, span_of, entries, entry_count, is_pad}
use native.Mathlib.Nat.{le_trans}
use Rattle.std.specs.List.{list_any}
use Rattle.spans.specs.Tree.{Tree, none, node, end_of, size, level}
use Rattle.spans.proofs.Tree.{size-tree, level-few}
use Rattle.items.specs.Items.{span_of as item_span, values, head_of}
use Rattle.items.proofs.Items.{rest-is}
use Rattle.window.specs.Pair.{is_top, items_for, items_before, scale_at, pair_ok, pair_asks, values_from}

-- ---- an entry by its number

-- no entry of a level stands before its first place
none-before : (t : Tree Entry) (i n : ℕ) → n < i → list_any (λ p. eqb p.0 n) (level i t) ≡ false
unfolding level
none-before none i n h = refl
none-before (node e members rest) i n h = rw (ne_eqb i n (λ e. omega arith), none-before rest (i + suc (size members)) n (omega arith)) refl

-- the number of a top-level entry is a place of the level
top-any : (t : Tree Entry) (i k : ℕ) → is_top t k ≡ list_any (λ p. eqb p.0 (i + k)) (level i t)
unfolding is_top level
top-any none i k = refl
top-any (node e members rest) i zero = rw (eq-eqb i (i + 0) (omega arith)) refl
top-any (node e members rest) i (suc k) = rw (ne_eqb i (i + suc k) (λ e. omega arith)) (go (dec_le (size members) k) (top-any rest (i + suc (size members)) (k - size members)))
  where
    go : Dec (size members ≤ k) → is_top rest (k - size members) ≡ list_any (λ p. eqb p.0 (i + suc (size members) + (k - size members))) (level (i + suc (size members)) rest)
        → (leb (size members) k && is_top rest (k - size members)) ≡ list_any (λ p. eqb p.0 (i + suc k)) (level (i + suc (size members)) rest)
    go (yes h) ih =
        let z : i + suc (size members) + (k - size members) ≡ i + suc k = omega arith in
        rw (le-leb (size members) k h, ih, z) refl
    go (no h) ih = rw (lt-leb (size members) k (omega arith)) (sym (none-before rest (i + suc (size members)) (i + suc k) (omega arith)))

-- how many items the entries of a level before a place yield
unfoldable pub count-to : ℕ → List (ℕ × Entry) → ℕ
count-to n [] = 0
count-to n (p ∷ ps) = cond (leb n p.0) 0 (items_for p.1 + count-to n ps)

count-past : (t : Tree Entry) (i n : ℕ) → n ≤ i → count-to n (level i t) ≡ 0
unfolding level count-to
count-past none i n h = refl
count-past (node e members rest) i n h = rw (le-leb n i h) refl

count-level : (t : Tree Entry) (i k : ℕ) → items_before t k ≡ count-to (i + k) (level i t)
unfolding items_before level count-to
count-level none i k = refl
count-level (node e members rest) i zero = rw (le-leb (i + 0) i (omega arith)) refl
count-level (node e members rest) i (suc k) = rw (lt-leb (i + suc k) i (omega arith)) (ap (λ n. items_for e + n) (go (dec_le (size members) k) (count-level rest (i + suc (size members)) (k - size members))))
  where
    go : Dec (size members ≤ k) → items_before rest (k - size members) ≡ count-to (i + suc (size members) + (k - size members)) (level (i + suc (size members)) rest)
        → items_before rest (k - size members) ≡ count-to (i + suc k) (level (i + suc (size members)) rest)
    go (yes h) ih =
        let z : i + suc (size members) + (k - size members) ≡ i + suc k = omega arith in
        rw z at ih
    go (no h) ih = ih ∙ count-past rest (i + suc (size members)) _ (omega arith) ∙ sym (count-past rest (i + suc (size members)) (i + suc k) (omega arith))

pub before_by_level : (l : List ℕ) (k : ℕ) → items_before (entries l) k ≡ count-to k (level 0 (entries l))
before_by_level l k = let z : 0 + k ≡ k = omega arith in rw z at (count-level (entries l) 0 k)

pub items-few : (e : Entry) → items_for e ≤ 1
items-few e = go (is_pad e)
  where
    go : (b : Bool) → cond b 0 1 ≤ 1
    go true = omega arith
    go false = omega arith

-- the turns of a count
module _ (n i : ℕ) (e : Entry) (ps qs : List (ℕ × Entry)) (p : qs ≡ (i, e) ∷ ps) where
  pub count-more : i < n → count-to n qs ≡ items_for e + count-to n ps
  unfolding count-to
  count-more h = rw (p, lt-leb n i h) refl

  pub count-stop : n ≤ i → count-to n qs ≡ 0
  unfolding count-to
  count-stop h = rw (p, le-leb n i h) refl

pub few_by_level : (l : List ℕ) → length (level 0 (entries l)) ≤ entry_count l
few_by_level l = le_trans (level-few (entries l) 0) (omega (arith, size-tree (entry_at l) span_of 0 (entry_count l)))

pub top_by_level : (l : List ℕ) (k : ℕ) → is_top (entries l) k ≡ list_any (λ p. eqb p.0 k) (level 0 (entries l))
top_by_level l k = let z : 0 + k ≡ k = omega arith in rw z at (top-any (entries l) 0 k)

-- ---- question 18 on a display word

module _ (l : List ℕ) (w first second display : ℕ) (some : 1 ≤ w) (few : w ≤ 4096) (h : pair_ok l first second ≡ true) where
  pub asks-high : scale_at l first < display → 18 ≡ pair_asks l w first second display
  unfolding pair_asks
  asks-high k = rw (le-leb 1 w some, le-leb w 4096 few, h, lt-leb display (scale_at l first) k)

  pub asks-no : display ≤ scale_at l first → 0 ≡ pair_asks l w first second display
  unfolding pair_asks
  asks-no k = rw (le-leb 1 w some, le-leb w 4096 few, h, le-leb display (scale_at l first) k)

-- ---- an item by its place

module _ (v : List ℕ) (to : ℕ) where
  pub from_more : (k i n en : ℕ) → n < k → en ≡ end_of (item_span (head_of (values v i to))) i to → values_from k (values v 0 to) ≡ values_from (k - n) (values v i to)
      → values_from k (values v 0 to) ≡ values_from (k - (n + 1)) (values v en to)
  unfolding values_from
  from_more k i n en h q e =
      let s : k - n ≡ suc (k - (n + 1)) = omega arith in
      e ∙ ap (λ m. values_from m (values v i to)) s ∙ ap (values_from (k - (n + 1))) (rest-is v i to (head_of (values v i to)) _ en refl refl q)

  pub from-ends : (k i n : ℕ) → k ≤ n → values_from k (values v 0 to) ≡ values_from (k - n) (values v i to) → values_from k (values v 0 to) ≡ values v i to
  unfolding values_from
  from-ends k i n h e = let z : k - n ≡ 0 = omega arith in e ∙ ap (λ m. values_from m (values v i to)) z
