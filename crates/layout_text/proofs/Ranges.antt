-- Question 2 of the words, from the entries asked one by one.
use mathlib.Core.Path.{◌≡◌, refl, sym, ap, ◌∙◌}
use mathlib.Core.Bool.{Bool, true, false, ◌&&◌, ◌||◌, not, and-false}
use mathlib.Core.List.{List, [], ◌∷◌}
use Prim.Native.Nat.{ℕ, zero, suc, ◌+◌, ◌≤◌, ◌<◌}
use native.Mathlib.Omega.{arith}
use lib.Dec.{eqb}
use lib.ListN.{length}
use borrow.Author.Tests.{le-leb, eqb-true}
use Rattle.layout.specs.declared.Entry.{Entry}
use Rattle.layout.specs.Layout.{entry_at, all_below, up_to, plain_ok, float_ok, bool_ok, edited_ok, kind_ok, option_ok, place_ok, entry_ok, entries_ok}
use Rattle.lines.specs.Names.{distinct, number_in}
use Rattle.lines.proofs.Sight.{index-most, distinct-few}
use Rattle.layout_text.specs.Form.{count_of, kind_said}
use Rattle.layout_text.specs.Reading.{name_said, depending_said, width_said, mask_said, names_of, masks_below, masks_of, or_absent, mask_long, entry_said, words_of}
use Rattle.layout_text.specs.Walk.{bare_said, fine_in}
use Rattle.layout_text.proofs.Words.{words_count, entry-words, names-few, masks-before}

-- ---- tests of all numbers below n

pub all_both : (f g : ℕ → Bool) (n : ℕ) → (all_below f n && all_below g n) ≡ all_below (λ i. f i && g i) n
unfolding all_below
all_both f g zero = refl
all_both f g (suc n) = shift (all_below f n) (f n) (all_below g n) (g n) ∙ ap (λ (b : Bool). b && (f n && g n)) (all_both f g n)
  where
    shift : (a b c d : Bool) → ((a && b) && (c && d)) ≡ ((a && c) && (b && d))
    shift true true c d = refl
    shift true false true d = refl
    shift true false false d = refl
    shift false b c d = refl

pub all_same : (f g : ℕ → Bool) (n : ℕ) → ((i : ℕ) → i < n → f i ≡ g i) → all_below f n ≡ all_below g n
unfolding all_below
all_same f g zero h = refl
all_same f g (suc n) h = λ i. all_same f g n (λ j k. h j (omega arith)) i && h n (omega arith) i

-- ---- the numbers of names are in range

pub number-few : (l : List (List ℕ)) (n : List ℕ) → count_of l ≤ 512 → number_in (names_of l) n ≤ 1024
number-few l n h = omega (arith, index-most n (distinct (names_of l)), distinct-few (names_of l), names-few l (count_of l))

option-ok : (n : ℕ) → n ≤ 65535 → option_ok n ≡ true
unfolding option_ok
option-ok n h = rw (le-leb n 65535 h) refl

or-absent-ok : (s : List ℕ) (n : ℕ) → n ≤ 65535 → option_ok (or_absent s n) ≡ true
unfolding option_ok
or-absent-ok [] n h = refl
or-absent-ok (x ∷ s) n h = rw (le-leb n 65535 h) refl

module _ (l : List (List ℕ)) (k : ℕ) (h : count_of l ≤ 512) (i : k < count_of l) where
  place_same : place_ok (entry_said l k) ≡ place_ok (bare_said l k)
  unfolding place_ok entry_said bare_said
  place_same = rw (
    le-leb (number_in (names_of l) (name_said l k)) 65535 (omega (arith, number-few l (name_said l k) h)),
    or-absent-ok (depending_said l k) (number_in (names_of l) (depending_said l k)) (omega (arith, number-few l (depending_said l k) h)),
    option-ok 0 (omega arith),
  ) refl

  kind-same : mask_long l k ≡ true → kind_ok (kind_said l k) (entry_said l k) (length (masks_of l)) ≡ kind_ok (kind_said l k) (bare_said l k) (length (mask_said l k))
  unfolding kind_ok plain_ok float_ok bool_ok edited_ok up_to entry_said bare_said
  kind-same m = by (eqb (kind_said l k) 8) refl m
    where
      by : (t : Bool) → eqb (kind_said l k) 8 ≡ t → (not t || eqb (length (mask_said l k)) (width_said l k)) ≡ true
          → kind_ok (kind_said l k) (entry_said l k) (length (masks_of l)) ≡ kind_ok (kind_said l k) (bare_said l k) (length (mask_said l k))
      by false e q = rw e refl
      by true e q =
          let z : kind_said l k ≡ 8 = eqb-true (kind_said l k) 8 e in
          let w : length (mask_said l k) ≡ width_said l k = eqb-true (length (mask_said l k)) (width_said l k) q in
          let b : length (masks_below l k) + length (mask_said l k) ≤ length (masks_of l) = masks-before l (count_of l) k i in
          rw (z, le-leb (length (masks_below l k) + width_said l k) (length (masks_of l)) (omega arith), le-leb (0 + width_said l k) (length (mask_said l k)) (omega arith)) refl

  entries-same : mask_long l k ≡ true → entry_ok (entry_said l k) (length (masks_of l)) ≡ entry_ok (bare_said l k) (length (mask_said l k))
  unfolding entry_ok entry_said bare_said
  entries-same m = λ j. place_same j && kind-same m j

  fine-same : (entry_ok (entry_at (words_of l) k) (length (masks_of l)) && mask_long l k) ≡ fine_in l k
  unfolding fine_in
  fine-same = ap (λ (e : Entry). entry_ok e (length (masks_of l)) && mask_long l k) (sym (entry-words l (count_of l) k i)) ∙ by (mask_long l k) refl
    where
      by : (t : Bool) → mask_long l k ≡ t → (entry_ok (entry_said l k) (length (masks_of l)) && t) ≡ (entry_ok (bare_said l k) (length (mask_said l k)) && t)
      by true q = ap (λ (b : Bool). b && true) (entries-same q)
      by false q = and-false (entry_ok (entry_said l k) (length (masks_of l))) ∙ sym (and-false (entry_ok (bare_said l k) (length (mask_said l k))))

-- the words are in range, and the masks width long, where each entry passes by itself
pub ranges-are : (l : List (List ℕ)) → count_of l ≤ 512 → (entries_ok (words_of l) (length (masks_of l)) && all_below (mask_long l) (count_of l)) ≡ all_below (fine_in l) (count_of l)
unfolding entries_ok
ranges-are l h =
    ap (λ (n : ℕ). all_below (λ i. entry_ok (entry_at (words_of l) i) (length (masks_of l))) n && all_below (mask_long l) (count_of l)) (words_count l (count_of l))
    ∙ all_both (λ i. entry_ok (entry_at (words_of l) i) (length (masks_of l))) (mask_long l) (count_of l)
    ∙ all_same (λ i. entry_ok (entry_at (words_of l) i) (length (masks_of l)) && mask_long l i) (fine_in l) (count_of l) (λ i k. fine-same l i h k)
