-- What reading both files gives.
use mathlib.Core.Path.{◌≡◌, refl, sym, ap, ◌∙◌}
use mathlib.Core.Bool.{Bool, true, false}
use mathlib.Core.List.{List, []}
use Prim.Native.Nat.{ℕ, ◌≤◌}
use native.Mathlib.Nat.{sub-zero}
use Rattle.codes.specs.declared.Refusal.{Refusal}
use Rattle.codes.specs.Refusals.{number_of as refusal_number}
use borrow.Author.Tests.{ne_eqb, eq-eqb}
use lib.IntN.{ℤ}
use lib.ListN.{length, take, replicate, length-replicate}
use Rattle.layout_text.specs.Form.{lines_of as text_lines}
use Rattle.layout_text.specs.Reading.{words_of, masks_of, page_of, refusal, layout_into, LayoutRead}
use Rattle.zeros.proofs.Filled.{in-front}
use Rattle.layout_text.proofs.Answers.{read_taken, read-refused, number-is-refusal, page-held, words-held, masks-held}
use Rattle.walks.specs.Records.{most, Decoded, refused, decode_record, number_of, items_of, texts_of, filled, RecordRead}
use Rattle.shown.specs.Shown.{layout_words, item_room, work_words, too_long, answer_by, answer, printed, shown, listed, refused_text}

-- ---- the answer, by its ways

module _ (layout : List ℕ) (lm : Bool) (bytes : List ℕ) (bm : Bool) where
  pub layout-long : too_long layout lm ≡ true → answer layout lm bytes bm ≡ refused 16
  unfolding answer
  layout-long e = rw e

  pub layout-refused : too_long layout lm ≡ false → (refusal layout layout_words most ≡ 0 → ⊥) → answer layout lm bytes bm ≡ refused (refusal layout layout_words most)
  unfolding answer answer_by
  layout-refused e n = rw (e, read-refused layout layout_words most n)

  pub bytes-long : too_long layout lm ≡ false → refusal layout layout_words most ≡ 0 → too_long bytes bm ≡ true → answer layout lm bytes bm ≡ refused 4
  unfolding answer answer_by
  bytes-long e z k = rw (e, read_taken layout layout_words most z, k)

  pub decoded-is : too_long layout lm ≡ false → refusal layout layout_words most ≡ 0 → too_long bytes bm ≡ false
      → answer layout lm bytes bm ≡ decode_record (words_of (text_lines layout)) (masks_of (text_lines layout)) (page_of (text_lines layout)) bytes item_room most work_words
  unfolding answer answer_by
  decoded-is e z k = rw (e, read_taken layout layout_words most z, k)

-- ---- what is read

zeros-filled : (n : ℕ) (xs : List ℕ) → xs ≡ replicate n 0 → xs ≡ filled (length xs) []
zeros-filled n xs e = e ∙ ap (λ (m : ℕ). replicate m 0) (sym (length-replicate {A = ℕ} n 0) ∙ ap length (sym e) ∙ sym (sub-zero (length xs)))

-- a refusal leaves the buffers of zeros as they are
pub refused-reads : (d : Decoded) (e : Refusal) (items text : List ℕ) → items ≡ replicate item_room 0 → text ≡ replicate most 0
    → d ≡ refused (refusal_number e) → RecordRead d (refusal_number e) 0 0 items items text text [] []
refused-reads d e items text a b q =
    rw q (record { numbered = refl; words_read = refl; text_bytes = refl; items_left = zeros-filled item_room items a; text_left = zeros-filled most text b; counts_left = refl })

-- the record's outcome is the answer, where the buffers have the sizes that the answer names
pub decoded-reads : (d : Decoded) (f : ℕ → ℕ → ℕ → Decoded) (number words bytes : ℕ) (items items' text text' : List ℕ) (counts counts' : List ℤ)
    → items ≡ replicate item_room 0 → text ≡ replicate most 0 → length counts ≡ work_words → d ≡ f item_room most work_words
    → RecordRead (f (length items) (length text) (length counts)) number words bytes items items' text text' counts counts' → RecordRead d number words bytes items items' text text' [] []
decoded-reads d f number words bytes items items' text text' counts counts' a b k e g =
    let i : length items ≡ item_room = ap length a ∙ length-replicate {A = ℕ} item_room 0 in
    let t : length text ≡ most = ap length b ∙ length-replicate {A = ℕ} most 0 in
    let h : d ≡ f (length items) (length text) (length counts) =
    e ∙ ap (λ (z : ℕ). f z most work_words) (sym i) ∙ ap (λ (z : ℕ). f (length items) z work_words) (sym t) ∙ ap (f (length items) (length text)) (sym k) in
    rw h (record { numbered = g.numbered; words_read = g.words_read; text_bytes = g.text_bytes; items_left = g.items_left; text_left = g.text_left; counts_left = refl })

-- ---- the layout that was read

module _ (text w₀ w m₀ m : List ℕ) (number page words bytes : ℕ) (g : LayoutRead (layout_into text w₀ m₀) number page words bytes w₀ w m₀ m) where
  pub number_at : length w₀ ≡ layout_words → length m₀ ≡ most → number ≡ refusal text layout_words most
  number_at a b = g.numbered ∙ number-is-refusal text (length w₀) (length m₀) ∙ ap (λ (n : ℕ). refusal text n (length m₀)) a ∙ ap (refusal text layout_words) b

  -- the call that reads the record by it
  pub call-is : number ≡ 0 → (s : List ℕ) → decode_record (words_of (text_lines text)) (masks_of (text_lines text)) (page_of (text_lines text)) s item_room most work_words
      ≡ decode_record (take words w) (take bytes m) page s item_room most work_words
  call-is z s =
      let p = page-held text w₀ w m₀ m number page words bytes g z in
      let x = words-held text w₀ w m₀ m number page words bytes g z in
      let y = masks-held text w₀ w m₀ m number page words bytes g z in
      rw (p, x, y)

-- ---- what is printed

module _ (layout : List ℕ) (lm : Bool) (bytes : List ℕ) (bm : Bool) (number words used : ℕ) (items items' text text' : List ℕ)
    (g : RecordRead (answer layout lm bytes bm) number words used items items' text text' [] []) where
  items-there : (take words items' ≡ items_of (answer layout lm bytes bm)) × (words ≤ length items')
  items-there = in-front (length items) words items' (items_of (answer layout lm bytes bm)) g.words_read g.items_left

  text-there : (take used text' ≡ texts_of (answer layout lm bytes bm)) × (used ≤ length text')
  text-there = in-front (length text) used text' (texts_of (answer layout lm bytes bm)) g.text_bytes g.text_left

  pub prints-refusal : (number ≡ 0 → ⊥) → refused_text number ≡ shown layout lm bytes bm
  unfolding shown printed
  prints-refusal n =
      let k : number_of (answer layout lm bytes bm) ≡ 0 → ⊥ = λ z. n (g.numbered ∙ z) in
      ap refused_text g.numbered ∙ rw (ne_eqb (number_of (answer layout lm bytes bm)) 0 k)

  pub prints-list : number ≡ 0 → listed layout (take words items') (take used text') ≡ shown layout lm bytes bm
  unfolding shown printed
  prints-list z =
      let k : number_of (answer layout lm bytes bm) ≡ 0 = sym g.numbered ∙ z in
      ap (λ (l : List ℕ). listed layout l (take used text')) items-there.0
      ∙ ap (listed layout (items_of (answer layout lm bytes bm))) text-there.0
      ∙ rw (eq-eqb (number_of (answer layout lm bytes bm)) 0 k)
