-- The first spelling of a name and where it starts, by the table of starts; and how many names there are.
use mathlib.Core.Path.{◌≡◌, refl, sym, ap, ◌∙◌}
use mathlib.Core.Bool.{Bool, true, false, ◌||◌, not, cond, false≢true}
use mathlib.Core.List.{List, [], ◌∷◌, ◌++◌, map}
use Prim.Native.Nat.{ℕ, zero, suc, ◌-◌, ◌*◌, ◌/◌, ◌≤◌, ◌<◌, min}
use native.Mathlib.Omega.{arith}
use lib.Dec.{eqb}
use lib.ListN.{length, get_or, take, drop, replicate, length-append, length-map, length-take, get_or-eq_default}
use lib.Seq.{take-append_seam}
use borrow.Author.Tests.{ne_eqb, eqb-true, eqb-false}
use Rattle.lists.proofs.Logic.{and_left, and_right}
use Rattle.layout.specs.Layout.{entry_ok}
use Rattle.layout.proofs.Laws.{all-at}
use Rattle.layout.proofs.Lawful.{width-lawful}
use Rattle.lists.proofs.Lists.{drop-replicate, zeros-behind}
use Rattle.lines.specs.Lines.{line_from, start_in, starts_with, mask_ok}
use Rattle.lines.specs.Names.{distinct, names_at}
use Rattle.lines.proofs.Laws.{start-there}
use Rattle.layout_text.specs.declared.LayoutReading.{LayoutReading}
use Rattle.layout_text.specs.Form.{lines_of, is_none, mask_for, count_of, line_in, kind_said, all, tests, entry_lawful, mask_word}
use Rattle.layout_text.specs.Reading.{width_said, mask_said, names_of, masks_below, masks_of, mask_long, text_checked, refusal, read_of, spelling, first_start, spelling_at, name_count}
use Rattle.layout_text.specs.Firsts.{firsts_of, Firsts}
use Rattle.layout_text.specs.Walk.{bare_said, fine_in, Lasts, reading_of}
use Rattle.layout_text.proofs.Words.{words_long}
use Rattle.layout_text.proofs.Answers.{Passed, passed, Taken, taken_by, refused_by, refusal-place, refusal-other, lasts}
use Rattle.value.specs.Answer.{given, refused as not_given}

-- ---- a text that passes 1 and 2 has few mask bytes

all-get : (bs : List Bool) (i : ℕ) → all bs ≡ true → get_or bs i true ≡ true
unfolding all
all-get [] i e = refl
all-get (b ∷ bs) zero e = and_left b (all bs) e
all-get (b ∷ bs) (suc i) e = all-get bs i (and_right b (all bs) e)

mask-said : (l : List (List ℕ)) (k : ℕ) → entry_lawful l k ≡ true → mask_for (kind_said l k) (mask_said l k) ≡ true
unfolding entry_lawful
mask-said l k e = and_right (starts_with mask_word (line_in l k 10)) (mask_for (kind_said l k) (mask_said l k)) (all-get (tests l k) 10 e)

mask-small : (l : List (List ℕ)) (k : ℕ) → entry_lawful l k ≡ true → fine_in l k ≡ true → length (mask_said l k) ≤ 65535
unfolding fine_in bare_said
mask-small l k a b = by (eqb (kind_said l k) 8) (mask-said l k a) (and_right (entry_ok (bare_said l k) (length (mask_said l k))) (mask_long l k) b)
  where
    none : (s : List ℕ) → is_none s ≡ true → length s ≤ 65535
    none [] q = omega arith
    none (x ∷ s) q = absurd (false≢true q)

    by : (t : Bool) → cond t (mask_ok (mask_said l k)) (is_none (mask_said l k)) ≡ true → (not t || eqb (length (mask_said l k)) (width_said l k)) ≡ true → length (mask_said l k) ≤ 65535
    by true p q =
        let w : width_said l k ≤ 65535 = width-lawful (bare_said l k) (length (mask_said l k)) (and_left (entry_ok (bare_said l k) (length (mask_said l k))) (mask_long l k) b) in
        omega (arith, eqb-true (length (mask_said l k)) (width_said l k) q)
    by false p q = none (mask_said l k) p

masks-small : (l : List (List ℕ)) (n : ℕ) → ((k : ℕ) → k < n → length (mask_said l k) ≤ 65535) → length (masks_below l n) ≤ n * 65535
unfolding masks_below
masks-small l zero h = omega arith
masks-small l (suc n) h = omega (arith, length-append (masks_below l n) (mask_said l n), masks-small l n (λ k a. h k (omega arith)), h n (omega arith))

-- the questions before place, where there is place enough
pub room-enough : (text : List ℕ) → refusal text 18446744073709551615 18446744073709551615 ≡ text_checked text
room-enough text = by (eqb (text_checked text) 0) refl
  where
    by : (t : Bool) → eqb (text_checked text) 0 ≡ t → refusal text 18446744073709551615 18446744073709551615 ≡ text_checked text
    by true q =
        let z : text_checked text ≡ 0 = eqb-true (text_checked text) 0 q in
        let p : Passed text = passed text z in
        let m : length (masks_of (lines_of text)) ≤ count_of (lines_of text) * 65535 =
        masks-small (lines_of text) (count_of (lines_of text)) (λ k a. mask-small (lines_of text) k (p.entries k a) (all-at (fine_in (lines_of text)) (count_of (lines_of text)) k a p.fine)) in
        refusal-place text 18446744073709551615 18446744073709551615 z (omega (arith, words_long (lines_of text) (count_of (lines_of text)), p.few)) (omega (arith, p.few)) ∙ sym z
    by false q = refusal-other text 18446744073709551615 18446744073709551615 (eqb-false (text_checked text) 0 q)

-- ---- the names that a table points at

module _ (text starts : List ℕ) (count number : ℕ) where
  pub start_none : min count (length starts) ≤ number → 0 ≡ start_in text (get_or (take count starts) number 0)
  start_none h =
      let z : get_or (take count starts) number 0 ≡ 0 = get_or-eq_default (take count starts) 0 {n = number} (omega (arith, length-take count starts)) in
      start-there text 0 (omega arith) ∙ ap (start_in text) (sym z)

-- ---- the table that the pass over a text makes

module _ {text starts : List ℕ} (starts₀ : List ℕ) {count : ℕ} (e : count ≡ length (firsts_of text)) (q : starts ≡ firsts_of text ++ drop (length (firsts_of text)) starts₀) (f : Firsts text) where
  table_is : take count starts ≡ firsts_of text
  table_is = rw (e, q) (take-append_seam (firsts_of text) (drop (length (firsts_of text)) starts₀))

  pub table-names : names_at text starts count ≡ distinct (names_of (lines_of text))
  table-names = ap (map (line_from text)) table_is ∙ f.names

  pub table-count : count ≡ length (distinct (names_of (lines_of text)))
  table-count = e ∙ sym (length-map (firsts_of text) (line_from text)) ∙ ap length f.names

  pub table-cells : (n : ℕ) → starts₀ ≡ replicate n 0 → (number : ℕ) → get_or starts number 0 ≡ first_start (lines_of text) number
  table-cells n z number =
      rw (q, z, drop-replicate) (zeros-behind (firsts_of text) (n - length (firsts_of text)) number ∙ f.places number)

  pub table-front : (number : ℕ) → get_or (take count starts) number 0 ≡ first_start (lines_of text) number
  table-front number = ap (λ (s : List ℕ). get_or s number 0) table_is ∙ f.places number

-- ---- the first spelling, where it starts, and how many names there are

abbrev most : ℕ
most = 18446744073709551615

module _ (text : List ℕ) where
  module _ (r : LayoutReading) (e : given r ≡ reading_of (read_of text most most)) where
    t : Taken text most most r
    t = taken_by text most most r e

    asked : text_checked text ≡ 0
    asked = sym (room-enough text) ∙ t.passes

    pub spelled_there : (number : ℕ) → get_or (distinct (names_of (lines_of text))) number [] ≡ spelling text number
    unfolding spelling
    spelled_there number = rw asked refl

    pub place_there : (number : ℕ) → first_start (lines_of text) number ≡ spelling_at text number
    unfolding spelling_at
    place_there number = rw asked refl

    pub count-there : length (distinct (names_of (lines_of text))) ≡ name_count text
    unfolding name_count
    count-there = rw asked refl

    pub names_last : length text < 4294967296 → Lasts text (r.words / 12)
    names_last s = lasts text most most t.passes r t.count s

  module _ (n : ℕ) (e : not_given n ≡ reading_of (read_of text most most)) where
    not-asked : eqb (text_checked text) 0 ≡ false
    not-asked = ne_eqb (text_checked text) 0 (λ x. (refused_by text most most n e).1 (room-enough text ∙ x))

    pub spelled_not : (number : ℕ) → [] ≡ spelling text number
    unfolding spelling
    spelled_not number = rw not-asked refl

    pub place_not : (number : ℕ) → 0 ≡ spelling_at text number
    unfolding spelling_at
    place_not number = rw not-asked refl

    pub count-not : 0 ≡ name_count text
    unfolding name_count
    count-not = rw not-asked refl

    pub cells-not : (starts : List ℕ) (n : ℕ) → starts ≡ replicate n 0 → (number : ℕ) → get_or starts number 0 ≡ spelling_at text number
    cells-not starts n q number = ap (λ (s : List ℕ). get_or s number 0) q ∙ zeros-behind [] n number ∙ place_not number
