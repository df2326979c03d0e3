-- The words, the names and the masks of a text's entries.
use mathlib.Core.Path.{◌≡◌, refl, sym, ap, ◌∙◌, subst}
use mathlib.Core.Bool.{Bool, true, false, cond}
use mathlib.Core.List.{List, [], ◌∷◌, ◌++◌, append_assoc, append-nil, map-append}
use Prim.Native.Nat.{ℕ, zero, suc, ◌+◌, ◌*◌, ◌≤◌, ◌<◌}
use native.Mathlib.Nat.{not-suc-le-zero}
use native.Mathlib.Omega.{arith}
use lib.Dec.{ltb}
use lib.ListN.{length, get_or, length-append, get_or-append}
use lib.Seq.{get_or-append-add}
use borrow.Author.Tests.{ltb-true, ltb-false}
use Rattle.layout.specs.Layout.{entry_at, entry_count}
use Rattle.layout.proofs.Judged.{entry_of}
use Rattle.lines.specs.Names.{same_name, distinct, number_in}
use Rattle.lines.proofs.Sight.{number-sight, same_number}
use Rattle.layout_text.specs.Form.{is_none, count_of, value_start, depending_word}
use Rattle.layout_text.specs.Reading.{Sight, sights_in, sights_below, name_said, depending_said, names_in, names_of, mask_said, masks_below, entry_said, twelve, words_below}

pub words_long : (l : List (List ℕ)) (k : ℕ) → length (words_below l k) ≡ k * 12
unfolding words_below twelve
words_long l zero = refl
words_long l (suc k) = length-append (words_below l k) (twelve (entry_said l k)) ∙ omega (arith, words_long l k)

pub words_count : (l : List (List ℕ)) (k : ℕ) → entry_count (words_below l k) ≡ k
words_count l k = omega (arith, words_long l k)

word_at : (l : List (List ℕ)) (n k j : ℕ) → k < n → j < 12 → get_or (twelve (entry_said l k)) j 0 ≡ get_or (words_below l n) (k * 12 + j) 0
unfolding words_below
word_at l zero k j h i = absurd (not-suc-le-zero h)
word_at l (suc n) k j h i = by (ltb k n) refl (λ a. word_at l n k j a i)
  where
    by : (t : Bool) → ltb k n ≡ t → (k < n → get_or (twelve (entry_said l k)) j 0 ≡ get_or (words_below l n) (k * 12 + j) 0)
        → get_or (twelve (entry_said l k)) j 0 ≡ get_or (words_below l n ++ twelve (entry_said l n)) (k * 12 + j) 0
    by true q ih =
        let a : k < n = ltb-true k n q in
        ih a ∙ sym (get_or-append (words_below l n) (twelve (entry_said l n)) 0 (k * 12 + j) (omega (arith, words_long l n)))
    by false q ih =
        let e : n ≡ k = omega (arith, ltb-false k n q) in
        let z : length (words_below l n) + j ≡ k * 12 + j = omega (arith, words_long l n) in
        ap (λ (m : ℕ). get_or (twelve (entry_said l m)) j 0) (sym e) ∙ sym (get_or-append-add (words_below l n) (twelve (entry_said l n)) j 0)
        ∙ ap (λ (m : ℕ). get_or (words_below l n ++ twelve (entry_said l n)) m 0) z

-- the k-th entry of the words is the one that the text says
pub entry-words : (l : List (List ℕ)) (n k : ℕ) → k < n → entry_said l k ≡ entry_at (words_below l n) k
unfolding twelve
entry-words l n k h =
    let e = entry_said l k in
    entry_of (words_below l n) k e.name e.offset e.width e.kind e.occurs e.depending e.span e.p e.q e.r e.s e.mask
    (word_at l n k 0 h (omega arith)) (word_at l n k 1 h (omega arith)) (word_at l n k 2 h (omega arith)) (word_at l n k 3 h (omega arith))
    (word_at l n k 4 h (omega arith)) (word_at l n k 5 h (omega arith)) (word_at l n k 6 h (omega arith)) (word_at l n k 7 h (omega arith))
    (word_at l n k 8 h (omega arith)) (word_at l n k 9 h (omega arith)) (word_at l n k 10 h (omega arith)) (word_at l n k 11 h (omega arith))

-- ---- names

abbrev pub names_below : List (List ℕ) → ℕ → List (List ℕ)
names_below l k = names_in (sights_below l k)

-- the names of the k-th entry
abbrev pub names_said : List (List ℕ) → ℕ → List (List ℕ)
names_said l k = name_said l k ∷ cond (is_none (depending_said l k)) [] (depending_said l k ∷ [])

pub names-suc : (l : List (List ℕ)) (k : ℕ) → names_below l (suc k) ≡ names_below l k ++ names_said l k
unfolding sights_below
names-suc l k = map-append (λ (s : Sight). s.name) (sights_below l k) (sights_in l k) ∙ ap (λ (x : List (List ℕ)). names_below l k ++ (name_said l k ∷ x)) (by (is_none (depending_said l k)))
  where
    by : (t : Bool) → names_in (cond t [] (record { name = depending_said l k; at = value_start depending_word l k 5 } ∷ [])) ≡ cond t [] (depending_said l k ∷ [])
    by true = refl
    by false = refl

names-said-few : (l : List (List ℕ)) (k : ℕ) → length (names_said l k) ≤ 2
names-said-few l k = by (is_none (depending_said l k))
  where
    by : (t : Bool) → suc (length (cond t [] (depending_said l k ∷ []))) ≤ 2
    by true = omega arith
    by false = omega arith

pub names-few : (l : List (List ℕ)) (k : ℕ) → length (names_below l k) ≤ k * 2
unfolding sights_below
names-few l zero = omega arith
names-few l (suc k) = omega (arith, ap length (names-suc l k), length-append (names_below l k) (names_said l k), names-few l k, names-said-few l k)

-- the names of the k-th entry stand behind those of the entries before it
pub names-from : (l : List (List ℕ)) (n k : ℕ) → k < n → ((more : List (List ℕ)) × (names_below l n ≡ names_below l k ++ (names_said l k ++ more)))
names-from l zero k h = absurd (not-suc-le-zero h)
names-from l (suc n) k h = by (ltb k n) refl (λ a. names-from l n k a)
  where
    by : (t : Bool) → ltb k n ≡ t → (k < n → ((more : List (List ℕ)) × (names_below l n ≡ names_below l k ++ (names_said l k ++ more))))
        → ((more : List (List ℕ)) × (names_below l (suc n) ≡ names_below l k ++ (names_said l k ++ more)))
    by true q ih =
        let r = ih (ltb-true k n q) in
        (r.0 ++ names_said l n, names-suc l n ∙ ap (λ (x : List (List ℕ)). x ++ names_said l n) r.1 ∙ simp append_assoc)
    by false q ih =
        let e : n ≡ k = omega (arith, ltb-false k n q) in
        ([], ap (λ (m : ℕ). names_below l (suc m)) e ∙ names-suc l k ∙ ap (λ (x : List (List ℕ)). names_below l k ++ x) (sym (append-nil (names_said l k))))

-- ---- masks

pub masks-before : (l : List (List ℕ)) (n k : ℕ) → k < n → length (masks_below l k) + length (mask_said l k) ≤ length (masks_below l n)
unfolding masks_below
masks-before l zero k h = absurd (not-suc-le-zero h)
masks-before l (suc n) k h = by (ltb k n) refl (λ a. masks-before l n k a)
  where
    by : (t : Bool) → ltb k n ≡ t → (k < n → length (masks_below l k) + length (mask_said l k) ≤ length (masks_below l n))
        → length (masks_below l k) + length (mask_said l k) ≤ length (masks_below l n ++ mask_said l n)
    by true q ih = omega (arith, ih (ltb-true k n q), length-append (masks_below l n) (mask_said l n))
    by false q ih =
        let e : n ≡ k = omega (arith, ltb-false k n q) in
        subst (λ (m : ℕ). length (masks_below l k) + length (mask_said l k) ≤ length (masks_below l m ++ mask_said l m)) (sym e)
        (omega (arith, length-append (masks_below l k) (mask_said l k)))

-- "Name numbers follow first sight, from 0": a name that no earlier line has is numbered by how many different names these have
pub first-sight : (l : List (List ℕ)) (k : ℕ) → k < count_of l → number_in (names_below l k) (name_said l k) ≡ length (distinct (names_below l k)) → (entry_said l k).name ≡ length (distinct (names_below l k))
unfolding entry_said
first-sight l k h e =
    let r = names-from l (count_of l) k h in
    ap (λ (x : List (List ℕ)). number_in x (name_said l k)) r.1 ∙ number-sight (names_below l k) (cond (is_none (depending_said l k)) [] (depending_said l k ∷ []) ++ r.0) (name_said l k) ∙ e

-- and names that are the same but for letter case have one number
pub one_number : (l : List (List ℕ)) (j k : ℕ) → same_name (name_said l j) (name_said l k) ≡ true → (entry_said l j).name ≡ (entry_said l k).name
unfolding entry_said
one_number l j k e = same_number (names_of l) (name_said l j) (name_said l k) e
