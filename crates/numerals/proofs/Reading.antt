-- How a reader finds the blanks at the ends of a text, and what the digits among its bytes spell: one turn of the loop, and its end.
use mathlib.Core.Path.{◌≡◌, refl, sym, ◌∙◌, ap}
use mathlib.Core.List.{List, map}
use mathlib.Core.Bool.{Bool, true, false, cond}
use Prim.Native.Nat.{ℕ, suc, ◌+◌, ◌-◌, ◌*◌, ◌<◌, ◌≤◌, min}
use native.Mathlib.Nat.{sub-zero}
use native.Mathlib.Numerals.{add-one}
use native.Mathlib.Omega.{arith}
use lib.Dec.{ltb}
use lib.ListN.{length, get_or, take, drop, drop_of_length-le}
use lib.Seq.{drop-cons}
use Rattle.value.specs.Digits.{value_from, value_of, is_digit, digit_in}
use Rattle.value.specs.Answer.{refused}
use Rattle.value.specs.Number.{some, read_in, unlawful, with_sign}
use Rattle.value.proofs.Digits.{cap-answer}
use Rattle.value.proofs.Answers.{Numbered, numbered-cond, numbered-in}
use Rattle.lists.specs.Scan.{left_by, left_count, right_by, keep_by, every_by}
use Rattle.lists.proofs.Scan.{left-count, map-left, map-count, map-right, both_ends}
use Rattle.ebcdic.specs.Ebcdic.{from_page}
use Rattle.numerals.specs.Numerals.{is_blank, trimmed, is_ascii, kept_by}

-- the blanks of a page
abbrev pub blank_on : ℕ → ℕ → Bool
blank_on page b = is_blank (from_page page b)

pub trim-is : (page : ℕ) (s : List ℕ) (a e : ℕ) → drop a s ≡ left_by (blank_on page) s
    → take e (take (length s - a) (drop a s)) ≡ right_by (blank_on page) (take (length s - a) (drop a s))
    → map (from_page page) (take e (take (length s - a) (drop a s))) ≡ trimmed (map (from_page page) s)
trim-is page s a e p q =
    ap (λ (n : ℕ). map (from_page page) (take n (take (length s - a) (drop a s)))) (sym (sub-zero e))
    ∙ ap (map (from_page page)) (both_ends (blank_on page) s a e p q)
    ∙ map-right is_blank (blank_on page) (from_page page) (left_by (blank_on page) s) (λ k b. refl)
    ∙ ap (right_by is_blank) (map-left is_blank (blank_on page) (from_page page) s (λ k b. refl))

pub trim-from : (page : ℕ) (s : List ℕ) (a : ℕ) → a ≤ length s → drop a s ≡ left_by (blank_on page) s → a ≡ left_count is_blank (map (from_page page) s)
trim-from page s a h e = left-count (blank_on page) s a h e ∙ map-count is_blank (blank_on page) (from_page page) s (λ k b. refl)

-- ---- digits kept, behind a size that is read already

unfoldable pub kept_from : {X : Type 0} → (ℕ → X) → X → ℕ → List ℕ → X
kept_from answer bad v s = cond (every_by is_ascii s) (answer (value_from v (map digit_in (keep_by is_digit s)))) bad

module _ {X : Type 0} (answer : ℕ → X) (bad : X) where
  pub kept-is : (s : List ℕ) → kept_from answer bad 0 s ≡ kept_by answer bad s
  unfolding kept_from kept_by
  kept-is s = refl

  module _ (g : ℕ → ℕ) (s : List ℕ) (i v : ℕ) (below : i < length s) where
    pub kept_high : is_ascii (g (get_or s i 0)) ≡ false → kept_from answer bad v (map g (drop i s)) ≡ bad
    unfolding kept_from every_by
    kept_high h = rw (drop-cons s i 0 below, h)

    pub kept-skip : is_ascii (g (get_or s i 0)) ≡ true → is_digit (g (get_or s i 0)) ≡ false → kept_from answer bad v (map g (drop i s)) ≡ kept_from answer bad v (map g (drop (i + 1) s))
    unfolding kept_from every_by keep_by
    kept-skip h e = rw (add-one, drop-cons s i 0 below, h, e)

    pub kept-go : (cap : ℕ) → ((n : ℕ) → answer (min n cap) ≡ answer n) → (next : ℕ) → is_ascii (g (get_or s i 0)) ≡ true → is_digit (g (get_or s i 0)) ≡ true
        → next ≡ min (v * 10 + digit_in (g (get_or s i 0))) cap → kept_from answer bad v (map g (drop i s)) ≡ kept_from answer bad next (map g (drop (i + 1) s))
    unfolding kept_from every_by keep_by
    kept-go cap same next h e n =
        rw (add-one, n, drop-cons s i 0 below, h, e)
        (ap (λ (m : X). cond (every_by is_ascii (map g (drop (suc i) s))) m bad)
        (sym (cap-answer answer cap same (v * 10 + digit_in (g (get_or s i 0))) (map digit_in (keep_by is_digit (map g (drop (suc i) s)))))))

  pub kept-end : (g : ℕ → ℕ) (s : List ℕ) (i v : ℕ) → length s ≤ i → kept_from answer bad v (map g (drop i s)) ≡ answer v
  unfolding kept_from every_by keep_by
  kept-end g s i v h = rw (drop_of_length-le s h)

-- the sign is given afterwards
pub kept-signed : (bound : ℕ) (negative : Bool) (s : List ℕ) → with_sign negative (kept_by (read_in bound false) unlawful s) ≡ kept_by (read_in bound negative) unlawful s
unfolding kept_by
kept-signed bound negative s = by (every_by is_ascii s)
  where
    v : ℕ
    v = value_of (map digit_in (keep_by is_digit s))

    small : (t : Bool) → with_sign negative (cond t (some false v) (refused 9)) ≡ cond t (some negative v) (refused 9)
    small true = refl
    small false = refl

    by : (t : Bool) → with_sign negative (cond t (read_in bound false v) unlawful) ≡ cond t (read_in bound negative v) unlawful
    by true = small (ltb v bound)
    by false = refl

-- the digits kept are refused by a question alone
pub kept-numbered : (bound : ℕ) (negative : Bool) (s : List ℕ) → Numbered (kept_by (read_in bound negative) unlawful s)
unfolding kept_by
kept-numbered bound negative s =
    numbered-cond (every_by is_ascii s) (read_in bound negative (value_of (map digit_in (keep_by is_digit s)))) unlawful
    (numbered-in 9 bound negative (value_of (map digit_in (keep_by is_digit s))) (λ e. omega arith)) (λ e. omega arith)
