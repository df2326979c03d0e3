-- Reading what was written gives the text back, over any width and on both pages; what is written is as long as the field, and bytes.
use mathlib.Core.Path.{◌≡◌, refl, sym, ap, ◌∙◌}
use mathlib.Core.Bool.{Bool, true, false, cond}
use mathlib.Core.List.{List, [], ◌∷◌, ◌++◌, map, append-nil}
use Prim.Native.Nat.{ℕ, zero, suc, ◌-◌, ◌≤◌, ◌<◌, suc-le-suc}
use native.Mathlib.Nat.{not-suc-le-zero, le_of_suc-le-suc, zero-lt-suc}
use native.Mathlib.Omega.{arith}
use native.Mathlib.Decide.{dec_le}
use lib.Dec.{leb}
use lib.ListN.{length, get_or, replicate, length-map, length-append, length-replicate}
use borrow.Author.Tests.{eq-eqb, ne_eqb, le-leb, lt-leb}
use Rattle.lists.specs.Scan.{right_by, before_by}
use Rattle.lists.proofs.Lists.{map-append, map-replicate}
use Rattle.lists.proofs.Scan.{left-kept, right_kept, before-kept, left-pads, right-pads}
use Rattle.ebcdic.specs.Ebcdic.{from_page, onto_page}
use Rattle.ebcdic.proofs.Laws.{page-back, bytes_back, onto-byte}
use Rattle.text.specs.Text.{is_byte, cut, read_text, justified, written, padded, Fits}
use Rattle.value.specs.declared.Scalar.TheVariants.{Text}
use Rattle.text.specs.Shown.{Shows, shows, none, text_in, refusal_at, encoded_in}
use Rattle.text.proofs.Cuts.{Bytes, right-spared}

-- the written bytes, read: the text and its pads
pub field_back : (page : ℕ) (right : Bool) (pad w : ℕ) (t : List ℕ) → pad < 256 → Bytes t → map (from_page page) (written page right pad w t) ≡ justified right pad w t
unfolding written
field_back page true pad w t p h = rw (map-append, map-append, map-replicate, map-replicate, page-back page pad p, bytes_back page t h)
field_back page false pad w t p h = rw (map-append, map-append, map-replicate, map-replicate, page-back page pad p, bytes_back page t h)

module _ (pad w : ℕ) (t : List ℕ) where
  same : is_byte pad pad ≡ true
  same = eq-eqb pad pad refl

  zero-kept : ((k : ℕ) → k < length t → get_or t k 0 ≡ 0 → ⊥) → before_by (is_byte 0) t ≡ t
  zero-kept h = before-kept (is_byte 0) t (λ k b. ne_eqb (get_or t k 0) 0 (h k b))

  cut-back : (right trim : Bool) → Fits right trim pad w t → cut right trim pad (justified right pad w t) ≡ t
  unfolding cut
  cut-back true true f =
      ap (before_by (is_byte 0)) (left-pads (is_byte pad) pad (w - length t) t same ∙ left-kept (is_byte pad) t (λ b. ne_eqb (get_or t 0 0) pad (f.no_pad refl b)))
      ∙ zero-kept (f.no_zero refl)
  cut-back false true f =
      let k = right_kept (is_byte pad) t (λ b. ne_eqb (get_or t (length t - 1) 0) pad (f.no_pad refl b)) in
      sym (right-spared (is_byte pad) (is_byte 0) (t ++ replicate (w - length t) pad))
      ∙ ap (λ (l : List ℕ). right_by (is_byte pad) (before_by (is_byte 0) l)) (right-pads (is_byte pad) pad (w - length t) t same ∙ k)
      ∙ ap (right_by (is_byte pad)) (zero-kept (f.no_zero refl)) ∙ k
  cut-back true false f =
      let e : w - length t ≡ 0 = omega (arith, f.whole refl) in
      rw e
  cut-back false false f =
      let e : w - length t ≡ 0 = omega (arith, f.whole refl) in
      rw (e, append-nil)

pub read_back : (page : ℕ) (right trim : Bool) (pad w : ℕ) (t : List ℕ) → pad < 256 → Fits right trim pad w t
    → read_text page right trim pad (written page right pad w t) ≡ t
read_back page right trim pad w t p f = ap (cut right trim pad) (field_back page right pad w t p f.bytes) ∙ cut-back pad w t right trim f

-- ---- length and bytes of what is written

length-justified : (right : Bool) (pad w : ℕ) (t : List ℕ) → length t ≤ w → length (justified right pad w t) ≡ w
length-justified true pad w t h = rw (length-append, length-replicate) (omega arith)
length-justified false pad w t h = rw (length-append, length-replicate) (omega arith)

pub written-length : (page : ℕ) (right : Bool) (pad w : ℕ) (t : List ℕ) → length t ≤ w → length (written page right pad w t) ≡ w
unfolding written
written-length page right pad w t h = length-map (justified right pad w t) (onto_page page) ∙ length-justified right pad w t h

both_bytes : (s t : List ℕ) → Bytes s → Bytes t → Bytes (s ++ t)
both_bytes [] t h i k b = i k b
both_bytes (x ∷ s) t h i zero b = h 0 (zero-lt-suc (length s))
both_bytes (x ∷ s) t h i (suc k) b = both_bytes s t (λ j m. h (suc j) (suc-le-suc m)) i k (le_of_suc-le-suc b)

pad-bytes : (n pad : ℕ) → pad < 256 → Bytes (replicate n pad)
pad-bytes zero pad p k b = absurd (not-suc-le-zero b)
pad-bytes (suc n) pad p zero b = p
pad-bytes (suc n) pad p (suc k) b = pad-bytes n pad p k (le_of_suc-le-suc b)

justified-bytes : (right : Bool) (pad w : ℕ) (t : List ℕ) → pad < 256 → Bytes t → Bytes (justified right pad w t)
justified-bytes true pad w t p h = both_bytes (replicate (w - length t) pad) t (pad-bytes (w - length t) pad p) h
justified-bytes false pad w t p h = both_bytes t (replicate (w - length t) pad) h (pad-bytes (w - length t) pad p)

map-bytes : (page : ℕ) (s : List ℕ) → Bytes s → Bytes (map (onto_page page) s)
map-bytes page [] h k b = absurd (not-suc-le-zero b)
map-bytes page (x ∷ s) h zero b = onto-byte page x (h 0 (zero-lt-suc (length s)))
map-bytes page (x ∷ s) h (suc k) b = map-bytes page s (λ j m. h (suc j) (suc-le-suc m)) k (le_of_suc-le-suc b)

pub written-bytes : (page : ℕ) (right : Bool) (pad w : ℕ) (t : List ℕ) → pad < 256 → Bytes t → Bytes (written page right pad w t)
unfolding written
written-bytes page right pad w t p h = map-bytes page (justified right pad w t) (justified-bytes right pad w t p h)

-- a Pad alike
pub padded-length : (page pad w : ℕ) → length (padded page pad w) ≡ w
padded-length page pad w = length-replicate w (onto_page page pad)

pub padded-bytes : (page pad w : ℕ) → pad < 256 → Bytes (padded page pad w)
padded-bytes page pad w p = pad-bytes w (onto_page page pad) (onto-byte page pad p)

-- ---- a scalar's field

pub encoded-length : (page : ℕ) (right : Bool) (pad : ℕ) (part : List ℕ) (s : Shows) → length (encoded_in page right pad part s) ≡ length part
encoded-length page right pad part none = refl
encoded-length page right pad part (shows t) = go (dec_le (length t) (length part))
  where
    go : Dec (length t ≤ length part) → length (encoded_in page right pad part (shows t)) ≡ length part
    go (yes h) = rw (le-leb (length t) (length part) h) (written-length page right pad (length part) t h)
    go (no h) = rw (lt-leb (length t) (length part) (omega arith))

-- a field that refuses stays as it was
pub refused-same : (page : ℕ) (right : Bool) (pad : ℕ) (part : List ℕ) (s : Shows) → (refusal_at (length part) s ≡ 0 → ⊥) → encoded_in page right pad part s ≡ part
refused-same page right pad part none n = refl
refused-same page right pad part (shows t) n = by (leb (length t) (length part)) n
  where
    by : (b : Bool) → (◌≡◌ {A = ℕ} (cond b 0 14) 0 → ⊥) → cond b (written page right pad (length part) t) part ≡ part
    by true m = absurd (m refl)
    by false m = refl

-- a Text that fits is accepted, and comes back
pub text-accepted : (right trim : Bool) (pad start count w : ℕ) (t : List ℕ) → Fits right trim pad w t → refusal_at w (text_in (Text start count) t) ≡ 0
text-accepted right trim pad start count w t f = rw (le-leb (length t) w f.room)

pub text-back : (page : ℕ) (right trim : Bool) (pad start count : ℕ) (part t : List ℕ) → pad < 256 → Fits right trim pad (length part) t
    → read_text page right trim pad (encoded_in page right pad part (text_in (Text start count) t)) ≡ t
text-back page right trim pad start count part t p f = rw (le-leb (length t) (length part) f.room) (read_back page right trim pad (length part) t p f)
