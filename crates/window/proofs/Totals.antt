-- Sums of words are sums of whole numbers: a word is the difference of what it adds and what it takes away, and such differences add up.
use Rattle.std.proofs.Common.{◌≡◌, ℕ, zero, suc, ◌+◌, ◌-◌, ◌*◌, ◌%◌, ◌^◌, ◌<◌, ◌≤◌, Bool, true, false, cond, eqb, ltb, List, [], ◌∷◌, length, get_or, drop, ℤ, pos, negsuc, ◌+ℤ◌, neg_ℤ, sym, refl, ap, ◌∙◌, ap₂, arith, w64, to_z, of_z, ltb-true, le-ltb, lt-ltb, eq-eqb, eqb-true, le-leb}
use native.Mathlib.Decide.{dec_le, dec_lt}
use lib.IntN.{sub_ℕ, +ℤ_assoc, +ℤ_comm, neg_ℤ-+ℤ}
use borrow.Author.Tests.{lt-leb}
use mir.ValLaws.{of_z-to_z}
use Rattle.lists.proofs.Logic.{and_left, and_right}
use Rattle.value.specs.Word.{minus_in, size_in}
use Rattle.window.specs.Window.{Pair, firsts, seconds, total, sum_in, whole_of, sum_of, held_in, small, small_pair, all_small, lawful_in}
use Rattle.window.specs.Runs.{SumsExact}
use Rattle.window.proofs.Laws.{lawful-few, pairs-length, sums-lawful, smalls-lawful}

-- what a word adds and what it takes away: one of them is 0
abbrev up : ℕ → ℕ
up x = cond (minus_in x) 0 x

abbrev down : ℕ → ℕ
down x = cond (minus_in x) (2 ^ 64 - x) 0

abbrev ups : List ℕ → ℕ
ups [] = 0
ups (x ∷ xs) = up x + ups xs

abbrev downs : List ℕ → ℕ
downs [] = 0
downs (x ∷ xs) = down x + downs xs

-- ---- differences

plain : (a b : ℕ) → sub_ℕ a b ≡ pos a +ℤ neg_ℤ (pos b)
plain a zero =
    let e : a - 0 ≡ a + 0 = omega arith in
    rw (le-ltb a 0 (omega arith)) (ap pos e)
plain a (suc b) = refl

four : (a b c d : ℤ) → a +ℤ b +ℤ (c +ℤ d) ≡ a +ℤ c +ℤ (b +ℤ d)
four a b c d =
    +ℤ_assoc a b (c +ℤ d) ∙ ap (λ z. a +ℤ z) (sym (+ℤ_assoc b c d) ∙ ap (λ z. z +ℤ d) (+ℤ_comm b c) ∙ +ℤ_assoc c b d) ∙ sym (+ℤ_assoc a c (b +ℤ d))

sub-add : (a b c d : ℕ) → sub_ℕ a b +ℤ sub_ℕ c d ≡ sub_ℕ (a + c) (b + d)
sub-add a b c d =
    ap₂ (λ x y. x +ℤ y) (plain a b) (plain c d) ∙ four (pos a) (neg_ℤ (pos b)) (pos c) (neg_ℤ (pos d))
    ∙ ap (λ z. pos (a + c) +ℤ z) (sym (neg_ℤ-+ℤ (pos b) (pos d))) ∙ sym (plain (a + c) (b + d))

minus-sub : (d : ℕ) → neg_ℤ (pos d) ≡ sub_ℕ 0 d
minus-sub zero = refl
minus-sub (suc d) = let e : d ≡ suc d - 1 = omega arith in rw (lt-ltb 0 (suc d) (omega arith)) (ap negsuc e)

plus-sub : (u : ℕ) → pos u ≡ sub_ℕ u 0
plus-sub u = let e : u ≡ u - 0 = omega arith in rw (le-ltb u 0 (omega arith)) (ap pos e)

word-sub : (x : ℕ) → whole_of x ≡ sub_ℕ (up x) (down x)
word-sub x = go (minus_in x) refl
  where
    go : (b : Bool) → minus_in x ≡ b → whole_of x ≡ sub_ℕ (up x) (down x)
    go true e = rw e (minus-sub (2 ^ 64 - x))
    go false e = rw e (plus-sub x)

-- ---- a list of words

words-sub : (xs : List ℕ) → sum_of xs ≡ sub_ℕ (ups xs) (downs xs)
words-sub [] = refl
words-sub (x ∷ xs) = ap₂ (λ a b. a +ℤ b) (word-sub x) (words-sub xs) ∙ sub-add (up x) (down x) (ups xs) (downs xs)

-- a small number is a word, and adds and takes away little
module _ (x : ℕ) (h : small x ≡ true) where
  pub small_word : x < 2 ^ 64
  small_word = ltb-true x (2 ^ 64) (and_left (ltb x (2 ^ 64)) (ltb (size_in x) (10 ^ 12)) h)

  one-small : (up x ≤ 10 ^ 12) × (down x ≤ 10 ^ 12)
  one-small = go (minus_in x) refl
    where
      s : size_in x < 10 ^ 12
      s = ltb-true (size_in x) (10 ^ 12) (and_right (ltb x (2 ^ 64)) (ltb (size_in x) (10 ^ 12)) h)

      go : (b : Bool) → minus_in x ≡ b → (up x ≤ 10 ^ 12) × (down x ≤ 10 ^ 12)
      go true e = let t : 2 ^ 64 - x < 10 ^ 12 = rw e at s in rw e (omega arith, omega arith)
      go false e = let t : x < 10 ^ 12 = rw e at s in rw e (omega arith, omega arith)

one_word : (x t u d : ℕ) → x < 2 ^ 64 → (t + d) % 2 ^ 64 ≡ u % 2 ^ 64 → (x + t + (down x + d)) % 2 ^ 64 ≡ (up x + u) % 2 ^ 64
one_word x t u d h e = go (dec_le (2 ^ 63) x)
  where
    go : Dec (2 ^ 63 ≤ x) → (x + t + (down x + d)) % 2 ^ 64 ≡ (up x + u) % 2 ^ 64
    go (yes k) = rw (le-leb (2 ^ 63) x k) (omega arith)
    go (no k) = rw (lt-leb (2 ^ 63) x (omega arith)) (omega arith)

abbrev AllSmall : List ℕ → Type 0
AllSmall xs = (k : ℕ) → k < length xs → small (get_or xs k 0) ≡ true

words-total : (xs : List ℕ) → AllSmall xs → (total xs + downs xs) % 2 ^ 64 ≡ ups xs % 2 ^ 64
words-total [] h = refl
words-total (x ∷ xs) h = one_word x (total xs) (ups xs) (downs xs) (small_word x (h 0 (omega arith))) (words-total xs (λ k b. h (suc k) (omega arith)))

words_small : (xs : List ℕ) → AllSmall xs → (ups xs ≤ length xs * 10 ^ 12) × (downs xs ≤ length xs * 10 ^ 12)
words_small [] h = (omega arith, omega arith)
words_small (x ∷ xs) h =
    let o : (up x ≤ 10 ^ 12) × (down x ≤ 10 ^ 12) = one-small x (h 0 (omega arith)) in
    let m : (ups xs ≤ length xs * 10 ^ 12) × (downs xs ≤ length xs * 10 ^ 12) = words_small xs (λ k b. h (suc k) (omega arith)) in
    (omega arith, omega arith)

-- the word of a sum that stays far from 2^63
sum-sub : (t u d : ℕ) → u ≤ 4096 * 10 ^ 12 → d ≤ 4096 * 10 ^ 12 → (t + d) % 2 ^ 64 ≡ u % 2 ^ 64 → whole_of (t % 2 ^ 64) ≡ sub_ℕ u d
sum-sub t u d p q e = go (dec_lt u d)
  where
    go : Dec (u < d) → whole_of (t % 2 ^ 64) ≡ sub_ℕ u d
    go (yes k) =
        let v : t % 2 ^ 64 ≡ 2 ^ 64 + u - d = omega arith in
        let n : 2 ^ 64 - (2 ^ 64 + u - d) ≡ suc (d - suc u) = omega arith in
        rw (v, le-leb (2 ^ 63) (2 ^ 64 + u - d) (omega arith), lt-ltb u d k) (ap (λ m. neg_ℤ (pos m)) n)
    go (no k) =
        let v : t % 2 ^ 64 ≡ u - d = omega arith in
        rw (v, lt-leb (2 ^ 63) (u - d) (omega arith), le-ltb u d (omega arith))

pub sums-true : (xs : List ℕ) → length xs ≤ 4096 → AllSmall xs → whole_of (sum_in xs) ≡ sum_of xs
sums-true xs few smalls =
    let b : (ups xs ≤ length xs * 10 ^ 12) × (downs xs ≤ length xs * 10 ^ 12) = words_small xs smalls in
    sum-sub (total xs) (ups xs) (downs xs) (omega arith) (omega arith) (words-total xs smalls) ∙ sym (words-sub xs)

-- ---- words as the machine has them

machine : (x : ℕ) → x < 2 ^ 64 → whole_of x ≡ to_z w64 x
machine x h = go (dec_lt x (2 ^ 63))
  where
    go : Dec (x < 2 ^ 63) → whole_of x ≡ to_z w64 x
    go (yes k) = rw (lt-leb (2 ^ 63) x k, lt-ltb x (2 ^ 63) k)
    go (no k) = let e : 2 ^ 64 - x ≡ suc (2 ^ 64 - suc x) = omega arith in rw (le-leb (2 ^ 63) x (omega arith), le-ltb x (2 ^ 63) (omega arith), e)

-- what a cast to a signed number gives
pub cast_whole : (x : ℕ) → x < 2 ^ 64 → (z : ℤ) → z ≡ to_z w64 x → to_z w64 (of_z w64 z) ≡ whole_of x
cast_whole x h z e = ap (λ y. to_z w64 (of_z w64 y)) e ∙ ap (to_z w64) (of_z-to_z w64 x (record { fits = h })) ∙ sym (machine x h)

whole_word : (x : ℕ) → x < 2 ^ 64 → of_z w64 (whole_of x) ≡ x
whole_word x h = ap (of_z w64) (machine x h) ∙ of_z-to_z w64 x (record { fits = h })

pub sums-exact : SumsExact
sums-exact xs s h few smalls = (
  (λ e. ap whole_of (eqb-true s (sum_in xs) e) ∙ sums-true xs few smalls),
  (λ e. eq-eqb s (sum_in xs) (sym (whole_word s h) ∙ ap (of_z w64) (e ∙ sym (sums-true xs few smalls)) ∙ whole_word (sum_in xs) (omega arith))),
)

-- ---- a lawful window's sums

firsts-small : (ps : List (Pair ℕ)) → all_small ps ≡ true → AllSmall (firsts ps)
firsts-small [] h k b = absurd (omega arith)
firsts-small (p ∷ ps) h zero b = and_left (small p.first) (small p.second) (and_left (small_pair p) (all_small ps) h)
firsts-small (p ∷ ps) h (suc k) b = firsts-small ps (and_right (small_pair p) (all_small ps) h) k (omega arith)

seconds-small : (ps : List (Pair ℕ)) → all_small ps ≡ true → AllSmall (seconds ps)
seconds-small [] h k b = absurd (omega arith)
seconds-small (p ∷ ps) h zero b = and_right (small p.first) (small p.second) (and_left (small_pair p) (all_small ps) h)
seconds-small (p ∷ ps) h (suc k) b = seconds-small ps (and_right (small_pair p) (all_small ps) h) k (omega arith)

firsts-length : (ps : List (Pair ℕ)) → length (firsts ps) ≡ length ps
firsts-length [] = refl
firsts-length (p ∷ ps) = ap suc (firsts-length ps)

seconds-length : (ps : List (Pair ℕ)) → length (seconds ps) ≡ length ps
seconds-length [] = refl
seconds-length (p ∷ ps) = ap suc (seconds-length ps)

module _ (w scale : ℕ) (l : List ℕ) (few : w ≤ 4096) (ok : lawful_in w scale l ≡ true) where
  held-few : length (held_in l) ≤ 4096
  held-few = omega (arith, pairs-length (get_or l 0 0) (drop 5 l), lawful-few w scale l ok)

  pub first-true : whole_of (get_or l 1 0) ≡ sum_of (firsts (held_in l))
  first-true =
      let e : get_or l 1 0 ≡ sum_in (firsts (held_in l)) = eqb-true _ _ (and_left (eqb (get_or l 1 0) (sum_in (firsts (held_in l)))) (eqb (get_or l 2 0) (sum_in (seconds (held_in l)))) (sums-lawful w scale l ok)) in
      ap whole_of e ∙ sums-true (firsts (held_in l)) (omega (arith, firsts-length (held_in l), held-few)) (firsts-small (held_in l) (smalls-lawful w scale l ok))

  pub second-true : whole_of (get_or l 2 0) ≡ sum_of (seconds (held_in l))
  second-true =
      let e : get_or l 2 0 ≡ sum_in (seconds (held_in l)) = eqb-true _ _ (and_right (eqb (get_or l 1 0) (sum_in (firsts (held_in l)))) (eqb (get_or l 2 0) (sum_in (seconds (held_in l)))) (sums-lawful w scale l ok)) in
      ap whole_of e ∙ sums-true (seconds (held_in l)) (omega (arith, seconds-length (held_in l), held-few)) (seconds-small (held_in l) (smalls-lawful w scale l ok))
