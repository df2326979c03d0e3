-- The cut of a field's raw bytes, each compared with the pad as it stands on the page, is the cut of the bytes that were read.
use mathlib.Core.Path.{◌≡◌, refl, sym, ap, ◌∙◌}
use mathlib.Core.Bool.{Bool, true, false, cond}
use mathlib.Core.List.{List, [], ◌∷◌, map}
use Prim.Native.Nat.{ℕ, zero, suc, ◌-◌, ◌≤◌, ◌<◌, suc-le-suc}
use native.Mathlib.Nat.{not-suc-le-zero, le_of_suc-le-suc, zero-lt-suc}
use native.Mathlib.Omega.{arith}
use lib.ListN.{length, get_or, take, drop}
use lib.Seq.{take-take, length-take-le}
use Rattle.lists.specs.Scan.{left_by, left_count, join_by, right_by, before_by}
use Rattle.lists.proofs.Scan.{map-left, map-count, map-right, map-before, before-kept, tail-part}
use Rattle.ebcdic.specs.Ebcdic.{from_page, onto_page}
use Rattle.ebcdic.proofs.Laws.{same_byte, zero-byte}
use Rattle.text.specs.Text.{is_byte, cut, cut_from, read_text}

abbrev pub Bytes : List ℕ → Type 0
Bytes s = (k : ℕ) → k < length s → get_or s k 0 < 256

rest : (x : ℕ) (s : List ℕ) → Bytes (x ∷ s) → Bytes s
rest x s h k b = h (suc k) (suc-le-suc b)

-- what a scan leaves of bytes are bytes
left-bytes : (f : ℕ → Bool) (s : List ℕ) → Bytes s → Bytes (left_by f s)
unfolding left_by
left-bytes f [] h = h
left-bytes f (x ∷ s) h = by (f x) (left-bytes f s (rest x s h))
  where
    by : (t : Bool) → Bytes (left_by f s) → Bytes (cond t (left_by f s) (x ∷ s))
    by true i = i
    by false i = h

before-bytes : (f : ℕ → Bool) (s : List ℕ) → Bytes s → Bytes (before_by f s)
unfolding before_by
before-bytes f [] h = h
before-bytes f (x ∷ s) h = by (f x) (before-bytes f s (rest x s h))
  where
    by : (t : Bool) → Bytes (before_by f s) → Bytes (cond t [] (x ∷ before_by f s))
    by true i k b = absurd (not-suc-le-zero b)
    by false i zero b = h 0 (zero-lt-suc (length s))
    by false i (suc k) b = i k (le_of_suc-le-suc b)

-- cutting the end before as well changes nothing
pub right-spared : (f g : ℕ → Bool) (s : List ℕ) → right_by f (before_by g (right_by f s)) ≡ right_by f (before_by g s)
unfolding right_by before_by
right-spared f g [] = refl
right-spared f g (x ∷ s) = by (right_by f s) (g x) refl (right-spared f g s)
  where
    one : (t : Bool) → f x ≡ t → g x ≡ false → right_by f (before_by g (cond t [] (x ∷ []))) ≡ cond t [] (x ∷ [])
    one true e n = refl
    one false e n = rw (n, e)

    stop : (t : Bool) → g x ≡ true → right_by f (before_by g (cond t [] (x ∷ []))) ≡ []
    stop true e = refl
    stop false e = rw e

    by : (r : List ℕ) (t : Bool) → g x ≡ t → right_by f (before_by g r) ≡ right_by f (before_by g s)
        → right_by f (before_by g (join_by f x r)) ≡ right_by f (cond t [] (x ∷ before_by g s))
    by [] true e i = stop (f x) e
    by [] false e i = one (f x) refl e ∙ ap (join_by f x) i
    by (y ∷ r) true e i = rw e
    by (y ∷ r) false e i = rw e (ap (join_by f x) i)

right-twice : (f : ℕ → Bool) (s : List ℕ) → right_by f (right_by f s) ≡ right_by f s
right-twice f s =
    let same : (t : List ℕ) → before_by (λ _. false) t ≡ t = λ t. before-kept (λ _. false) t (λ k h. refl) in
    ap (right_by f) (sym (same (right_by f s))) ∙ right-spared f (λ _. false) s ∙ ap (right_by f) (same s)

module _ (page pad : ℕ) (p : pad < 256) (s : List ℕ) (h : Bytes s) where
  zero-cut : (t : List ℕ) → Bytes t → map (from_page page) (before_by (is_byte 0) t) ≡ before_by (is_byte 0) (map (from_page page) t)
  zero-cut t b = map-before (is_byte 0) (is_byte 0) (from_page page) t (λ k i. zero-byte page (get_or t k 0) (b k i))

  pub right-cut : map (from_page page) (before_by (is_byte 0) (left_by (is_byte (onto_page page pad)) s)) ≡ read_text page true true pad s
  unfolding cut
  right-cut =
      zero-cut (left_by (is_byte (onto_page page pad)) s) (left-bytes (is_byte (onto_page page pad)) s h)
      ∙ ap (before_by (is_byte 0)) (map-left (is_byte pad) (is_byte (onto_page page pad)) (from_page page) s (λ k i. same_byte page (get_or s k 0) pad (h k i) p))

  pub left_cut : map (from_page page) (right_by (is_byte (onto_page page pad)) (before_by (is_byte 0) s)) ≡ read_text page false true pad s
  unfolding cut
  left_cut =
      map-right (is_byte pad) (is_byte (onto_page page pad)) (from_page page) (before_by (is_byte 0) s)
      (λ k i. same_byte page (get_or (before_by (is_byte 0) s) k 0) pad (before-bytes (is_byte 0) s h k i) p)
      ∙ ap (right_by (is_byte pad)) (zero-cut s h)

  -- the parts that the code takes
  pub right-part : (q a z : ℕ) → q ≡ onto_page page pad → drop a s ≡ left_by (is_byte q) s
      → take z (take (length s - a) (drop a s)) ≡ before_by (is_byte 0) (take (length s - a) (drop a s))
      → map (from_page page) (take z (take (length s - a) (drop a s))) ≡ read_text page true true pad s
  right-part q a z r e f =
      ap (map (from_page page)) (f ∙ ap (before_by (is_byte 0)) (tail-part s a ∙ e ∙ ap (λ (b : ℕ). left_by (is_byte b) s) r))
      ∙ right-cut

  pub left-part : (q e : ℕ) → q ≡ onto_page page pad → take e s ≡ right_by (is_byte q) (before_by (is_byte 0) s) → map (from_page page) (take e s) ≡ read_text page false true pad s
  left-part q e r i =
      ap (map (from_page page)) (i ∙ ap (λ (b : ℕ). right_by (is_byte b) (before_by (is_byte 0) s)) r)
      ∙ left_cut

  -- where the first of them starts
  pub right-from : (q a : ℕ) → q ≡ onto_page page pad → a ≡ left_count (is_byte q) s → a ≡ cut_from true true pad (map (from_page page) s)
  unfolding cut_from
  right-from q a r e =
      e ∙ ap (λ (n : ℕ). left_count (is_byte n) s) r
      ∙ map-count (is_byte pad) (is_byte (onto_page page pad)) (from_page page) s (λ k i. same_byte page (get_or s k 0) pad (h k i) p)

pub from_zero : (right : Bool) (pad : ℕ) (s : List ℕ) → 0 ≡ cut_from right false pad s
unfolding cut_from
from_zero right pad s = refl

pub from-right : (pad : ℕ) (s : List ℕ) → 0 ≡ cut_from false true pad s
unfolding cut_from
from-right pad s = refl

-- ---- where a left-justified text ends: the pads at the end are passed, then the first 0 byte is looked for, and then the pads before it are passed

module _ (f g : ℕ → Bool) (s : List ℕ) (e z : ℕ) (i : e ≤ length s) (j : z ≤ length (take e s)) (k : take e s ≡ right_by f s)
    (l : take z (take e s) ≡ before_by g (take e s)) where
  first-cut : take z (take e s) ≡ before_by g (right_by f s)
  first-cut = l ∙ ap (before_by g) k

  -- there is no 0 byte
  pub end_kept : z ≡ e → take e s ≡ right_by f (before_by g s)
  end_kept m =
      let whole : before_by g (right_by f s) ≡ right_by f s = sym first-cut ∙ ap (λ (n : ℕ). take n (take e s)) m ∙ take-take e e s (omega arith) ∙ k in
      k ∙ sym (right-twice f s) ∙ ap (right_by f) (sym whole) ∙ right-spared f g s

  pub end-cut : (r : ℕ) → r ≤ length (take z s) → take r (take z s) ≡ right_by f (take z s) → (r ≤ length s) × (take r s ≡ right_by f (before_by g s))
  end-cut r m n =
      let d : length (take e s) ≡ e = length-take-le e s (omega arith) in
      let h : length (take z s) ≡ z = length-take-le z s (omega arith) in
      let u : take z s ≡ before_by g (right_by f s) = sym (take-take z e s (omega arith)) ∙ first-cut in
      (omega arith, sym (take-take r z s (omega arith)) ∙ n ∙ ap (right_by f) u ∙ right-spared f g s)
