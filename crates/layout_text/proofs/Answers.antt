-- What was found in a pass gives the answer that the text's definition has.
use mathlib.Core.Path.{◌≡◌, refl, sym, ap, ◌∙◌}
use mathlib.Core.Bool.{Bool, true, false, ◌&&◌, cond}
use mathlib.Core.List.{List, [], ◌++◌}
use Prim.Native.Nat.{ℕ, ◌*◌, ◌/◌, ◌%◌, ◌≤◌, ◌<◌}
use native.Mathlib.Omega.{arith}
use native.Mathlib.Nat.{sub-zero}
use lib.Dec.{eqb, leb}
use lib.ListN.{length, get_or, take, drop, replicate, length-replicate}
use Rattle.lists.proofs.Lists.{drop-replicate}
use Rattle.zeros.proofs.Filled.{in-front}
use borrow.Author.Tests.{le-leb, eq-eqb, ne_eqb, leb-true, eqb-true, eqb-false}
use Rattle.value.specs.Answer.{given, refused as not_given}
use Rattle.spans.specs.Tree.{nested}
use Rattle.spans.proofs.Tree.{nested-as}
use Rattle.lists.proofs.Logic.{and_left, and_right}
use Rattle.layout.specs.Layout.{entry_at, all_below, span_of, is_group, words_ok, entries_ok, spans_ok, checked_of}
use Rattle.layout_text.specs.declared.Judged.{Judged}
use Rattle.layout_text.specs.declared.LayoutReading.{LayoutReading}
use Rattle.layout_text.specs.Form.{lines_of, line_in, count_of, kind_said, entry_lawful, lawful, span_word}
use Rattle.layout_text.specs.Reading.{number_said, masks_of, mask_long, entry_said, words_of, page_of, judged, placed, text_checked, refusal}
use Rattle.layout_text.specs.Reading.{refused, read, read_of, layout_into, number_read, page_read, words_read, masks_read, filled, LayoutRead}
use Rattle.layout_text.specs.Walk.{span_in, group_in, nested_in, fine_in, Finds, reading_of, Lasts}
use Rattle.layout_text.proofs.Words.{words_long, words_count, entry-words}
use Rattle.layout_text.proofs.Ranges.{ranges-are}
use Rattle.layout_text.proofs.Storing.{lawful-entry}

-- ---- question 1

pub page-asked : (l : List (List ℕ)) → words_ok (words_of l) (page_of l) ≡ (leb (count_of l) 512 && leb (page_of l) 1)
unfolding words_ok
page-asked l =
    let n : length (words_of l) ≡ count_of l * 12 = words_long l (count_of l) in
    let r : length (words_of l) % 12 ≡ 0 = omega arith in
    rw (eq-eqb (length (words_of l) % 12) 0 r, words_count l (count_of l)) refl

-- ---- question 3

span-said : (l : List (List ℕ)) (i : ℕ) → (entry_said l i).span ≡ number_said span_word (line_in l i 6)
unfolding entry_said
span-said l i = refl

kind-said : (l : List (List ℕ)) (i : ℕ) → (entry_said l i).kind ≡ kind_said l i
unfolding entry_said
kind-said l i = refl

pub spans-asked : (l : List (List ℕ)) (spans : List ℕ) (groups : List Bool) → ((i : ℕ) → i < count_of l → get_or spans i 0 ≡ number_said span_word (line_in l i 6)) → ((i : ℕ) → i < count_of l → get_or groups i false ≡ eqb (kind_said l i) 9)
    → spans_ok (words_of l) ≡ nested_in spans groups 8 0 (count_of l)
unfolding spans_ok nested_in
spans-asked l spans groups a b =
    ap (λ (n : ℕ). nested span_of is_group 8 (Rattle.spans.specs.Tree.tree (entry_at (words_of l)) span_of 0 n)) (words_count l (count_of l))
    ∙ nested-as (entry_at (words_of l)) span_of is_group (λ i. i) (span_in spans) (group_in groups) (count_of l)
    (λ i h. ap span_of (sym (entry-words l (count_of l) i h)) ∙ span-said l i ∙ sym (a i h))
    (λ i h. ap is_group (sym (entry-words l (count_of l) i h)) ∙ ap (λ (n : ℕ). eqb n 9) (kind-said l i) ∙ sym (b i h))
    8 0 (count_of l) (omega arith)

-- ---- all

abbrev ranges : List (List ℕ) → Bool
ranges l = entries_ok (words_of l) (length (masks_of l)) && all_below (mask_long l) (count_of l)

abbrev fits : List (List ℕ) → ℕ → ℕ → Bool
fits l words masks = leb (length (words_of l)) words && leb (length (masks_of l)) masks

pub both-true : {s t : Bool} → s ≡ true → t ≡ true → (s && t) ≡ true
both-true a b = rw (a, b) refl

pub left-false : {s : Bool} (t : Bool) → s ≡ false → (s && t) ≡ false
left-false t a = rw a refl

pub right-false : (s : Bool) {t : Bool} → t ≡ false → (s && t) ≡ false
right-false true b = b
right-false false b = refl

-- the questions of a text that was judged, one after the other
module _ (text : List ℕ) (words masks : ℕ) where
  abbrev l : List (List ℕ)
  l = lines_of text

  pub unlawful-is : lawful text ≡ false → refusal text words masks ≡ 17
  unfolding refusal text_checked
  unlawful-is f = rw f refl

  module _ (j : Judged) (spans : List ℕ) (groups : List Bool) (f : Finds text j spans groups) where
    abbrev room : Bool
    room = leb (j.count * 12) words && leb j.masks masks

    first-is : (leb (count_of l) 512 && leb (page_of l) 1) ≡ (leb j.count 512 && leb j.page 1)
    first-is = sym (λ i. leb (f.count i) 512 && leb (f.page i) 1)

    room-is : fits l words masks ≡ room
    room-is = rw (words_long l (count_of l)) (sym (λ i. leb (f.count i * 12) words && leb (f.masks i) masks))

    pub page-fails : (leb j.count 512 && leb j.page 1) ≡ false → refusal text words masks ≡ 1
    unfolding refusal text_checked
    page-fails a = rw (f.is_lawful, page-asked l, first-is, a) refl

    module _ (a : (leb j.count 512 && leb j.page 1) ≡ true) where
      few : count_of l ≤ 512
      few = leb-true (count_of l) 512 (and_left (leb (count_of l) 512) (leb (page_of l) 1) (first-is ∙ a))

      pub fine-fails : j.fine ≡ false → refusal text words masks ≡ 2
      unfolding refusal text_checked
      fine-fails b = rw (f.is_lawful, page-asked l, first-is, a, ranges-are l few, sym f.fine ∙ b) refl

      module _ (b : j.fine ≡ true) where
        nests-is : spans_ok (words_of l) ≡ nested_in spans groups 8 0 j.count
        nests-is =
            spans-asked l spans groups (λ i h. f.spans-kept i h (omega (arith, few))) (λ i h. f.groups-kept i h (omega (arith, few)))
            ∙ ap (nested_in spans groups 8 0) (sym f.count)

        pub nesting-fails : nested_in spans groups 8 0 j.count ≡ false → refusal text words masks ≡ 3
        unfolding refusal text_checked
        nesting-fails c = rw (f.is_lawful, page-asked l, first-is, a, ranges-are l few, sym f.fine ∙ b, nests-is, c) refl

        module _ (c : nested_in spans groups 8 0 j.count ≡ true) where
          pub room-fails : room ≡ false → refusal text words masks ≡ 16
          unfolding refusal text_checked
          room-fails d = rw (f.is_lawful, page-asked l, first-is, a, ranges-are l few, sym f.fine ∙ b, nests-is, c, room-is, d) refl

          pub all-pass : room ≡ true → refusal text words masks ≡ 0
          unfolding refusal text_checked
          all-pass d = rw (f.is_lawful, page-asked l, first-is, a, ranges-are l few, sym f.fine ∙ b, nests-is, c, room-is, d) refl

    pub reading-is : refusal text words masks ≡ 0 → given (record { page = j.page; words = j.count * 12; masks = j.masks }) ≡ reading_of (read_of text words masks)
    unfolding read_of
    reading-is z =
        let n : j.count * 12 ≡ length (words_of l) = ap (λ (k : ℕ). k * 12) f.count ∙ sym (words_long l (count_of l)) in
        rw z (λ i. given (record { page = f.page i; words = n i; masks = f.masks i }))

  pub refusal-is : (q : ℕ) → refusal text words masks ≡ q → (q ≡ 0 → ⊥) → not_given q ≡ reading_of (read_of text words masks)
  unfolding read_of
  refusal-is q e z = rw (e, ne_eqb q 0 z) refl

-- ---- a text that is accepted

judged-zero : (lw a b c p : Bool) → placed (judged lw a b c) p ≡ 0 → (lw ≡ true) × ((a ≡ true) × ((b ≡ true) × ((c ≡ true) × (p ≡ true))))
judged-zero true true true true true e = (refl, (refl, (refl, (refl, refl))))
judged-zero true true true true false e = absurd (omega (arith, e))
judged-zero true true true false p e = absurd (omega (arith, e))
judged-zero true true false c p e = absurd (omega (arith, e))
judged-zero true false b c p e = absurd (omega (arith, e))
judged-zero false a b c p e = absurd (omega (arith, e))

-- the outcome, by its number
pub read_taken : (text : List ℕ) (words masks : ℕ) → refusal text words masks ≡ 0 → read_of text words masks ≡ read (page_of (lines_of text)) (words_of (lines_of text)) (masks_of (lines_of text))
unfolding read_of
read_taken text words masks z = rw z refl

pub read-refused : (text : List ℕ) (words masks : ℕ) → (refusal text words masks ≡ 0 → ⊥) → read_of text words masks ≡ refused (refusal text words masks)
unfolding read_of
read-refused text words masks z = rw (ne_eqb (refusal text words masks) 0 z) refl

-- what was answered tells the outcome
pub record Taken (text : List ℕ) (words masks : ℕ) (r : LayoutReading) : Type 0 where
  pub passes : refusal text words masks ≡ 0
  pub page : r.page ≡ page_of (lines_of text)
  pub count : r.words ≡ length (words_of (lines_of text))
  pub mask_bytes : r.masks ≡ length (masks_of (lines_of text))

pub taken_by : (text : List ℕ) (words masks : ℕ) (r : LayoutReading) → given r ≡ reading_of (read_of text words masks) → Taken text words masks r
unfolding read_of
taken_by text words masks r e = by (eqb (refusal text words masks) 0) refl e
  where
    by : (t : Bool) → eqb (refusal text words masks) 0 ≡ t → given r ≡ reading_of (cond t (read (page_of (lines_of text)) (words_of (lines_of text)) (masks_of (lines_of text))) (refused (refusal text words masks)))
        → Taken text words masks r
    by false q x = let z : ◌≡◌ {A = ℕ} 0 1 = cc in absurd (omega arith)
    by true q x = record { passes = eqb-true (refusal text words masks) 0 q; page = cc; count = cc; mask_bytes = cc }

pub refused_by : (text : List ℕ) (words masks n : ℕ) → not_given n ≡ reading_of (read_of text words masks) → (n ≡ refusal text words masks) × (refusal text words masks ≡ 0 → ⊥)
unfolding read_of
refused_by text words masks n e = by (eqb (refusal text words masks) 0) refl e
  where
    by : (t : Bool) → eqb (refusal text words masks) 0 ≡ t → not_given n ≡ reading_of (cond t (read (page_of (lines_of text)) (words_of (lines_of text)) (masks_of (lines_of text))) (refused (refusal text words masks)))
        → (n ≡ refusal text words masks) × (refusal text words masks ≡ 0 → ⊥)
    by true q x = let z : ◌≡◌ {A = ℕ} 0 1 = cc in absurd (omega arith)
    by false q x = (cc, eqb-false (refusal text words masks) 0 q)

pub number-is-refusal : (text : List ℕ) (words masks : ℕ) → number_read (read_of text words masks) ≡ refusal text words masks
unfolding read_of
number-is-refusal text words masks = by (eqb (refusal text words masks) 0) refl
  where
    by : (t : Bool) → eqb (refusal text words masks) 0 ≡ t
        → number_read (cond t (read (page_of (lines_of text)) (words_of (lines_of text)) (masks_of (lines_of text))) (refused (refusal text words masks))) ≡ refusal text words masks
    by true q = sym (eqb-true (refusal text words masks) 0 q)
    by false q = refl

module _ (text : List ℕ) (words masks : ℕ) (z : refusal text words masks ≡ 0) where
  asked : (lawful text ≡ true) × ((words_ok (words_of (lines_of text)) (page_of (lines_of text)) ≡ true) × ((ranges (lines_of text) ≡ true) × ((spans_ok (words_of (lines_of text)) ≡ true) × (fits (lines_of text) words masks ≡ true))))
  unfolding refusal text_checked
  asked = judged-zero (lawful text) (words_ok (words_of (lines_of text)) (page_of (lines_of text))) (ranges (lines_of text)) (spans_ok (words_of (lines_of text))) (fits (lines_of text) words masks) z

  pub words-fit : length (words_of (lines_of text)) ≤ words
  words-fit = leb-true (length (words_of (lines_of text))) words (and_left (leb (length (words_of (lines_of text))) words) (leb (length (masks_of (lines_of text))) masks) asked.1.1.1.1)

  pub masks-fit : length (masks_of (lines_of text)) ≤ masks
  masks-fit = leb-true (length (masks_of (lines_of text))) masks (and_right (leb (length (words_of (lines_of text))) words) (leb (length (masks_of (lines_of text))) masks) asked.1.1.1.1)

  pub count-few : count_of (lines_of text) ≤ 512
  count-few = leb-true (count_of (lines_of text)) 512 (and_left (leb (count_of (lines_of text)) 512) (leb (page_of (lines_of text)) 1) (sym (page-asked (lines_of text)) ∙ asked.1.0))

  -- what is read passes the layout's own questions
  pub read-lawful : checked_of (words_of (lines_of text)) (masks_of (lines_of text)) (page_of (lines_of text)) ≡ 0
  unfolding checked_of
  read-lawful =
      rw (asked.1.0, and_left (entries_ok (words_of (lines_of text)) (length (masks_of (lines_of text)))) (all_below (mask_long (lines_of text)) (count_of (lines_of text))) asked.1.1.0, asked.1.1.1.0) refl

  pub lasts : (r : LayoutReading) → r.words ≡ length (words_of (lines_of text)) → length text < 4294967296 → Lasts text (r.words / 12)
  lasts r w s =
      let n : r.words / 12 ≡ count_of (lines_of text) = omega (arith, words_long (lines_of text) (count_of (lines_of text))) in
      record { is_lawful = asked.0; counted = n; few = omega (arith, count-few); small = s }

-- ---- the buffers

filled_none : (size : ℕ) (xs : List ℕ) → xs ≡ replicate size 0 → xs ≡ filled size []
filled_none size xs e = e ∙ ap (λ (n : ℕ). replicate n 0) (sym (sub-zero size))

filled-front : (size : ℕ) (used xs before : List ℕ) → before ≡ replicate size 0 → xs ≡ used ++ drop (length used) before → xs ≡ filled size used
filled-front size used xs before b e = e ∙ ap (λ (x : List ℕ). used ++ drop (length used) x) b ∙ ap (λ (x : List ℕ). used ++ x) (drop-replicate (length used) size 0)

-- ---- the whole call: the buffers as lent, then zeroed

module _ (text w₀ m₀ w₁ m₁ : List ℕ) (a : w₁ ≡ replicate (length w₀) 0) (b : m₁ ≡ replicate (length m₀) 0) where
  abbrev Done : ℕ → ℕ → ℕ → ℕ → List ℕ → List ℕ → Type 0
  Done number page words masks w m = LayoutRead (layout_into text w₀ m₀) number page words masks w₀ w m₀ m

  w-same : length w₁ ≡ length w₀
  w-same = ap length a ∙ length-replicate (length w₀) 0

  m-same : length m₁ ≡ length m₀
  m-same = ap length b ∙ length-replicate (length m₀) 0

  same : read_of text (length w₁) (length m₁) ≡ layout_into text w₀ m₀
  same = ap (λ (n : ℕ). read_of text n (length m₁)) w-same ∙ ap (read_of text (length w₀)) m-same

  pub refused_all : (n : ℕ) → not_given n ≡ reading_of (read_of text (length w₁) (length m₁)) → Done n 0 0 0 w₁ m₁
  refused_all n e =
      let r = refused_by text (length w₀) (length m₀) n (e ∙ ap reading_of same) in
      let d : layout_into text w₀ m₀ ≡ refused (refusal text (length w₀) (length m₀)) = read-refused text (length w₀) (length m₀) r.1 in
      rw d (record {
        numbered = r.0;
        paged = refl;
        layout_words = refl;
        mask_bytes = refl;
        layout_left = filled_none (length w₀) w₁ a;
        masks_left = filled_none (length m₀) m₁ b;
      })

  module _ (r : LayoutReading) (e : given r ≡ reading_of (read_of text (length w₁) (length m₁))) where
    here : Taken text (length w₁) (length m₁) r
    here = taken_by text (length w₁) (length m₁) r e

    pub can_store : length text < 4294967296 → Lasts text (r.words / 12) × ((length (words_of (lines_of text)) ≤ length w₁) × (length (masks_of (lines_of text)) ≤ length m₁))
    can_store s = (lasts text (length w₁) (length m₁) here.passes r here.count s, (words-fit text (length w₁) (length m₁) here.passes, masks-fit text (length w₁) (length m₁) here.passes))

    pub stored_all : (w₂ m₂ : List ℕ) → w₂ ≡ words_of (lines_of text) ++ drop (length (words_of (lines_of text))) w₁ → m₂ ≡ masks_of (lines_of text) ++ drop (length (masks_of (lines_of text))) m₁ → Done 0 r.page r.words r.masks w₂ m₂
    stored_all w₂ m₂ x y =
        let t = taken_by text (length w₀) (length m₀) r (e ∙ ap reading_of same) in
        let d : layout_into text w₀ m₀ ≡ read (page_of (lines_of text)) (words_of (lines_of text)) (masks_of (lines_of text)) = read_taken text (length w₀) (length m₀) t.passes in
        rw d (record {
          numbered = refl;
          paged = t.page;
          layout_words = t.count;
          mask_bytes = t.mask_bytes;
          layout_left = filled-front (length w₀) (words_of (lines_of text)) w₂ w₁ a x;
          masks_left = filled-front (length m₀) (masks_of (lines_of text)) m₂ m₁ b y;
        })

-- ---- a text that passes 17, 1, 2 and 3

pub record Passed (text : List ℕ) : Type 0 where
  pub entries : (k : ℕ) → k < count_of (lines_of text) → entry_lawful (lines_of text) k ≡ true
  pub few : count_of (lines_of text) ≤ 512
  pub fine : all_below (fine_in (lines_of text)) (count_of (lines_of text)) ≡ true

pub passed : (text : List ℕ) → text_checked text ≡ 0 → Passed text
unfolding text_checked
passed text z =
    let l = lines_of text in
    let t = judged-zero (lawful text) (words_ok (words_of l) (page_of l)) (ranges l) (spans_ok (words_of l)) true (ap (λ (n : ℕ). placed n true) z) in
    let n : count_of l ≤ 512 = leb-true (count_of l) 512 (and_left (leb (count_of l) 512) (leb (page_of l) 1) (sym (page-asked l) ∙ t.1.0)) in
    record { entries = λ k h. lawful-entry text k t.0 h; few = n; fine = sym (ranges-are l n) ∙ t.1.1.0 }

pub refusal-place : (text : List ℕ) (words masks : ℕ) → text_checked text ≡ 0 → length (words_of (lines_of text)) ≤ words → length (masks_of (lines_of text)) ≤ masks → refusal text words masks ≡ 0
unfolding refusal
refusal-place text words masks z a b = rw (z, le-leb (length (words_of (lines_of text))) words a, le-leb (length (masks_of (lines_of text))) masks b) refl

pub refusal-other : (text : List ℕ) (words masks : ℕ) → (text_checked text ≡ 0 → ⊥) → refusal text words masks ≡ text_checked text
unfolding refusal
refusal-other text words masks z = rw (ne_eqb (text_checked text) 0 z) refl

-- ---- for callers: what a text that is accepted leaves in the buffers

module _ (text layout layout' masks masks' : List ℕ) (number page words bytes : ℕ) (d : LayoutRead (layout_into text layout masks) number page words bytes layout layout' masks masks') (z : number ≡ 0) where
  accepted : refusal text (length layout) (length masks) ≡ 0
  accepted = sym (number-is-refusal text (length layout) (length masks)) ∙ sym d.numbered ∙ z

  taken : layout_into text layout masks ≡ read (page_of (lines_of text)) (words_of (lines_of text)) (masks_of (lines_of text))
  taken = read_taken text (length layout) (length masks) accepted

  pub page-held : page ≡ page_of (lines_of text)
  page-held = d.paged ∙ ap page_read taken

  words-there : (take words layout' ≡ words_read (layout_into text layout masks)) × (words ≤ length layout')
  words-there = in-front (length layout) words layout' (words_read (layout_into text layout masks)) d.layout_words d.layout_left

  masks-there : (take bytes masks' ≡ masks_read (layout_into text layout masks)) × (bytes ≤ length masks')
  masks-there = in-front (length masks) bytes masks' (masks_read (layout_into text layout masks)) d.mask_bytes d.masks_left

  pub words-held : take words layout' ≡ words_of (lines_of text)
  words-held = words-there.0 ∙ ap words_read taken

  pub masks-held : take bytes masks' ≡ masks_of (lines_of text)
  masks-held = masks-there.0 ∙ ap masks_read taken

  pub words_inside : words ≤ length layout'
  words_inside = words-there.1

  -- it passes the layout's own questions
  pub read-checked : checked_of (take words layout') (take bytes masks') page ≡ 0
  read-checked = rw (words-held, masks-held, page-held) (read-lawful text (length layout) (length masks) accepted)
