-- What the call and its parts leave, from what the reader, the writer and the clearing leave: each law takes the facts of one way out of a function and makes the record that its contract cites.
use mathlib.Core.Path.{◌≡◌, refl, sym, ap, ◌∙◌}
use mathlib.Core.List.{List, []}
use Prim.Native.Nat.{ℕ, ◌-◌, ◌/◌, ◌≤◌}
use native.Mathlib.Omega.{arith}
use lib.IntN.{ℤ, pos}
use lib.ListN.{length, take, replicate}
use Rattle.zeros.proofs.Filled.{in-front}
use Rattle.walks.specs.Records.{asking, filled, Decoded, decoded, decode_record, read_into, number_of, items_of, texts_of, RecordRead, Encoded, refused, encoded, written_into, refusal_of, bytes_of, RecordWritten}
use Rattle.walks.specs.Records as Records
use Rattle.walks.proofs.Asked.{asking-none, asking-some}
use Rattle.convert.specs.Calls.{kept_in, back_asks, rewritten, convert_record, converted_into, Cleared, RecordConverted}
use Rattle.convert.specs.Parts.{BackJudged, ListRewritten}

-- ---- buffers

none_left : (xs ys : List ℕ) → Cleared xs ys → ys ≡ filled (length xs) []
none_left xs ys e = let z : length xs ≡ length xs - 0 = omega arith in e ∙ ap (λ n. replicate n 0) z

none-cleared : (xs ys : List ℕ) → ys ≡ filled (length xs) [] → Cleared xs ys
none-cleared xs ys e = let z : length xs - 0 ≡ length xs = omega arith in e ∙ ap (λ n. replicate n 0) z

-- a buffer cleared twice, or filled and then cleared
again : (xs ys zs : List ℕ) → length ys ≡ length xs → Cleared ys zs → Cleared xs zs
again xs ys zs n e = e ∙ ap (λ k. replicate k 0) n

counted : (xs ys zs : List ℤ) → length ys ≡ length xs → zs ≡ replicate (length ys) (pos 0) → zs ≡ replicate (length xs) (pos 0)
counted xs ys zs n e = e ∙ ap (λ k. replicate k (pos 0)) n

-- ---- questions

-- a writer that refuses is what its refusal makes of the call
own : (w x : Encoded) → (refusal_of w ≡ 0 → ⊥) → asking refused (refusal_of w) x ≡ w
own (refused n) x h = asking-some refused x n h
own (encoded bs) x h = absurd (h refl)

-- a record buffer of zeros after a refusal
refusing : (e : Encoded) (n number bytes : ℕ) (r r' : List ℕ) (c c' : List ℤ) → e ≡ refused n → number ≡ n → bytes ≡ 0 → Cleared r r' → c' ≡ replicate (length c) (pos 0) → RecordWritten e number bytes r r' c c'
refusing e n number bytes r r' c c' q a b k z = record {
  numbered = a ∙ ap refusal_of (sym q);
  record_bytes = b ∙ ap (λ x. length (bytes_of x)) (sym q);
  record_left = none_left r r' k ∙ ap (λ x. filled (length r) (bytes_of x)) (sym q);
  counts_left = z;
}

-- ---- reading back

module _ (d : Decoded) (number words bytes : ℕ) (bi bi' bt bt' : List ℕ) (c c' : List ℤ) (r : RecordRead d number words bytes bi bi' bt bt' c c') where
  pub words_are : take words bi' ≡ items_of d
  words_are = (in-front (length bi) words bi' (items_of d) r.words_read r.items_left).0

  pub bytes-are : take bytes bt' ≡ texts_of d
  bytes-are = (in-front (length bt) bytes bt' (texts_of d) r.text_bytes r.text_left).0

-- ---- a list rewritten

module _ (l masks : List ℕ) (page : ℕ) (items text r bi bt : List ℕ) (c : List ℤ) (number bytes : ℕ) (r' : List ℕ) (c' : List ℤ)
    (w : RecordWritten (written_into l masks page items text r c) number bytes r r' c c') where
  abbrev E : Encoded
  E = written_into l masks page items text r c

  abbrev Whole : Encoded
  Whole = rewritten l masks page items text (length r) (length bi) (length bt) (length c)

  -- the writer's own answer, where that is the call's
  kept-answer : (c'' : List ℤ) → c'' ≡ replicate (length c) (pos 0) → Whole ≡ E → RecordWritten Whole number bytes r r' c c''
  kept-answer c'' z e = record {
    numbered = w.numbered ∙ ap refusal_of (sym e);
    record_bytes = w.record_bytes ∙ ap (λ x. length (bytes_of x)) (sym e);
    record_left = w.record_left ∙ ap (λ x. filled (length r) (bytes_of x)) (sym e);
    counts_left = z;
  }

  pub not_written : (number ≡ 0 → ⊥) → (bi' bt' : List ℕ) → Cleared bi bi' × Cleared bt bt' → ListRewritten Whole number bytes r r' bi bi' bt bt' c c'
  unfolding rewritten
  not_written h bi' bt' z = record { record_written = kept-answer c' w.counts_left (own E _ (λ k. h (w.numbered ∙ k))); back_items_left = z.0; back_text_left = z.1 }

  module _ (z : number ≡ 0) (n : length c' ≡ length c) (asked : ℕ) (bi' bt' : List ℕ) (c'' : List ℤ)
      (j : BackJudged (read_into l masks page (take bytes r') bi bt c') items text asked bi bi' bt bt' c' c'') where
    abbrev D : Decoded
    D = decode_record l masks page (bytes_of E) (length bi) (length bt) (length c)

    back_is : read_into l masks page (take bytes r') bi bt c' ≡ D
    back_is = λ i. decode_record l masks page ((in-front (length r) bytes r' (bytes_of E) w.record_bytes w.record_left).0 i) (length bi) (length bt) (n i)

    asked_is : asked ≡ back_asks (number_of D) (kept_in items text D)
    asked_is = j.numbered ∙ ap (λ d. back_asks (number_of d) (kept_in items text d)) back_is

    counts-are : c'' ≡ replicate (length c) (pos 0)
    counts-are = counted c c' c'' n j.counts_left

    pub not-kept : (asked ≡ 0 → ⊥) → (r'' : List ℕ) → length r' ≡ length r → Cleared r' r''
        → (number' bytes' : ℕ) → (number' ≡ asked) × (bytes' ≡ 0) → ListRewritten Whole number' bytes' r r'' bi bi' bt bt' c c''
    unfolding rewritten
    not-kept h r'' m k number' bytes' f = record {
      record_written = refusing Whole asked number' bytes' r r'' c c'' (asking-none refused _ (refusal_of E) (sym w.numbered ∙ z) ∙ asking-some refused E _ (λ e. h (asked_is ∙ e)) ∙ ap refused (sym asked_is)) f.0 f.1 (again r r' r'' m k) counts-are;
      back_items_left = j.back_items_left;
      back_text_left = j.back_text_left;
    }

    pub all-kept : asked ≡ 0 → ListRewritten Whole number bytes r r' bi bi' bt bt' c c''
    unfolding rewritten
    all-kept h = record {
      record_written = kept-answer c'' counts-are (asking-none refused _ (refusal_of E) (sym w.numbered ∙ z) ∙ asking-none refused E _ (sym asked_is ∙ h));
      back_items_left = j.back_items_left;
      back_text_left = j.back_text_left;
    }

-- ---- the whole call

module _ (old old_masks : List ℕ) (old_page : ℕ) (record' new new_masks : List ℕ) (new_page : ℕ) (r items text bi bt : List ℕ) (c : List ℤ)
    (number words bytes : ℕ) (items' text' : List ℕ) (c' : List ℤ) (d : RecordRead (read_into old old_masks old_page record' items text c) number words bytes items items' text text' c c') where
  abbrev Read : Decoded
  Read = read_into old old_masks old_page record' items text c

  abbrev Call : Encoded
  Call = converted_into old old_masks old_page record' new new_masks new_page r items text bi bt c

  unread : (x : Decoded) → (number_of x ≡ 0 → ⊥) → (items_of x ≡ []) × (texts_of x ≡ [])
  unread (Records.refused n) h = (refl, refl)
  unread (decoded ws t) h = absurd (h refl)

  pub not-read : (number ≡ 0 → ⊥) → (r' : List ℕ) → Cleared r r' → (bi' bt' : List ℕ) → Cleared bi bi' × Cleared bt bt'
      → (number' bytes' : ℕ) → (number' ≡ number) × (bytes' ≡ 0) → RecordConverted Call number' bytes' r r' items items' text text' bi bi' bt bt' c c'
  unfolding convert_record
  not-read h r' k bi' bt' z number' bytes' f =
      let u = unread Read (λ e. h (d.numbered ∙ e)) in
      record {
        record_written = refusing Call number number' bytes' r r' c c' (asking-some refused _ (number_of Read) (λ e. h (d.numbered ∙ e)) ∙ ap refused (sym d.numbered)) f.0 f.1 k d.counts_left;
        items_left = none-cleared items items' (d.items_left ∙ ap (filled (length items)) u.0);
        text_left = none-cleared text text' (d.text_left ∙ ap (filled (length text)) u.1);
        back_items_left = z.0;
        back_text_left = z.1;
      }

  module _ (z : number ≡ 0) (n : length c' ≡ length c) (number' bytes' : ℕ) (r' bi' bt' : List ℕ) (c'' : List ℤ)
      (w : ListRewritten (rewritten new new_masks new_page (take words items') (take bytes text') (length r) (length bi) (length bt) (length c')) number' bytes' r r' bi bi' bt bt' c' c'') where
    call-is : rewritten new new_masks new_page (take words items') (take bytes text') (length r) (length bi) (length bt) (length c') ≡ Call
    unfolding convert_record
    call-is =
        (λ i. rewritten new new_masks new_page (words_are Read number words bytes items items' text text' c c' d i) (bytes-are Read number words bytes items items' text text' c c' d i) (length r) (length bi) (length bt) (n i))
        ∙ sym (asking-none refused _ (number_of Read) (sym d.numbered ∙ z))

    pub whole-call : (items'' text'' : List ℕ) → Cleared items' items'' × Cleared text' text'' → length items' ≡ length items → length text' ≡ length text
        → RecordConverted Call number' bytes' r r' items items'' text text'' bi bi' bt bt' c c''
    whole-call items'' text'' k a b = record {
      record_written = record {
        numbered = w.record_written.numbered ∙ ap refusal_of call-is;
        record_bytes = w.record_written.record_bytes ∙ ap (λ x. length (bytes_of x)) call-is;
        record_left = w.record_written.record_left ∙ ap (λ x. filled (length r) (bytes_of x)) call-is;
        counts_left = counted c c' c'' n w.record_written.counts_left;
      };
      items_left = again items items' items'' a k.0;
      text_left = again text text' text'' b k.1;
      back_items_left = w.back_items_left;
      back_text_left = w.back_text_left;
    }
