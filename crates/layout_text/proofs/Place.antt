-- The lines of a text, and the positions where they start.
use mathlib.Core.Path.{◌≡◌, refl, sym, ap, ◌∙◌}
use mathlib.Core.Bool.{Bool, true, false, ◌&&◌, cond, and-false}
use mathlib.Core.List.{List, [], ◌∷◌}
use Prim.Native.Nat.{ℕ, zero, suc, ◌+◌, ◌-◌, ◌≤◌, ◌<◌, zero-le, suc-le-suc}
use native.Mathlib.Nat.{not-suc-le-zero, le_of_suc-le-suc}
use native.Mathlib.Omega.{arith}
use lib.ListN.{length, take, drop, get_or, length-drop, drop_of_length-le, get_or-eq_default}
use lib.Seq.{drop-drop, get_or-drop}
use borrow.Author.Tests.{ltb-true, ltb-false}
use Rattle.lists.specs.Scan.{before_by}
use Rattle.value.specs.Answer.{refused, given}
use Rattle.lines.specs.Lines.{place, is_end, line_from, ends_in, starts_with, value_at}
use Rattle.lines.proofs.Inside.{value-inside, Inside}
use Rattle.lines.proofs.Laws.{starts-long}
use Rattle.lines.specs.declared.Found.{Found}
use Rattle.layout_text.specs.Form.{onto, lines_of, size_of, line_start, ended}
use Rattle.layout_text.specs.Walk.{Here, bytes_of}

-- ---- a run of bytes up to the first 0x0A

lines_cons : (s : List ℕ) → length (before_by is_end s) < length s → lines_of s ≡ before_by is_end s ∷ lines_of (drop (suc (length (before_by is_end s))) s)
unfolding lines_of before_by
lines_cons [] h = absurd (not-suc-le-zero h)
lines_cons (x ∷ s) h = by (is_end x) h (λ k. lines_cons s k)
  where
    by : (t : Bool) → length (cond t [] (x ∷ before_by is_end s)) < suc (length s)
        → (length (before_by is_end s) < length s → lines_of s ≡ before_by is_end s ∷ lines_of (drop (suc (length (before_by is_end s))) s))
        → cond t ([] ∷ lines_of s) (onto x (lines_of s)) ≡ cond t [] (x ∷ before_by is_end s) ∷ lines_of (drop (suc (length (cond t [] (x ∷ before_by is_end s)))) (x ∷ s))
    by true k ih = refl
    by false k ih = ap (onto x) (ih (le_of_suc-le-suc k))

ended-after : (s : List ℕ) → length (before_by is_end s) < length s → ended s ≡ ended (drop (suc (length (before_by is_end s))) s)
unfolding ended before_by
ended-after [] h = absurd (not-suc-le-zero h)
ended-after (x ∷ []) h = by (is_end x) h
  where
    by : (t : Bool) → length (cond t [] (x ∷ [])) < 1 → t ≡ ended (drop (suc (length (cond t [] (x ∷ [])))) (x ∷ []))
    by true k = refl
    by false k = absurd (not-suc-le-zero (le_of_suc-le-suc k))
ended-after (x ∷ y ∷ s) h = by (is_end x) h (λ k. ended-after (y ∷ s) k)
  where
    by : (t : Bool) → length (cond t [] (x ∷ before_by is_end (y ∷ s))) < suc (suc (length s))
        → (length (before_by is_end (y ∷ s)) < suc (length s) → ended (y ∷ s) ≡ ended (drop (suc (length (before_by is_end (y ∷ s)))) (y ∷ s)))
        → ended (y ∷ s) ≡ ended (drop (suc (length (cond t [] (x ∷ before_by is_end (y ∷ s))))) (x ∷ y ∷ s))
    by true k ih = refl
    by false k ih = ih (le_of_suc-le-suc k)

-- bytes without 0x0A are no ended run
not-ended : (x : ℕ) (s : List ℕ) → length (x ∷ s) ≤ length (before_by is_end (x ∷ s)) → ended (x ∷ s) ≡ false
unfolding ended before_by
not-ended x [] h = by (is_end x) h
  where
    by : (t : Bool) → 1 ≤ length (cond t [] (x ∷ [])) → t ≡ false
    by true k = absurd (not-suc-le-zero k)
    by false k = refl
not-ended x (y ∷ s) h = by (is_end x) h (λ k. not-ended y s k)
  where
    by : (t : Bool) → suc (suc (length s)) ≤ length (cond t [] (x ∷ before_by is_end (y ∷ s))) → (suc (length s) ≤ length (before_by is_end (y ∷ s)) → ended (y ∷ s) ≡ false) → ended (y ∷ s) ≡ false
    by true k ih = absurd (not-suc-le-zero k)
    by false k ih = ih (le_of_suc-le-suc k)

before-drop : (f : ℕ → Bool) (w : ℕ) (s : List ℕ) → w ≤ length (before_by f s) → before_by f (drop w s) ≡ drop w (before_by f s)
unfolding before_by
before-drop f zero s h = refl
before-drop f (suc w) [] h = refl
before-drop f (suc w) (x ∷ s) h = by (f x) h (λ k. before-drop f w s k)
  where
    by : (t : Bool) → suc w ≤ length (cond t [] (x ∷ before_by f s)) → (w ≤ length (before_by f s) → before_by f (drop w s) ≡ drop w (before_by f s))
        → before_by f (drop w s) ≡ drop (suc w) (cond t [] (x ∷ before_by f s))
    by true k ih = absurd (not-suc-le-zero k)
    by false k ih = ih (le_of_suc-le-suc k)

-- ---- a line that was found

record Shape (word text : List ℕ) (at e : ℕ) : Type 0 where
  ends : ends_in text at ≡ true
  starts : starts_with word (line_from text at) ≡ true
  end : e ≡ at + length (line_from text at)

shape : (word text : List ℕ) (at a e n : ℕ) → given (place a e n) ≡ value_at word text at → Shape word text at e
unfolding value_at
shape word text at a e n h = by (ends_in text at) (starts_with word (line_from text at)) refl refl h
  where
    by : (p q : Bool) → ends_in text at ≡ p → starts_with word (line_from text at) ≡ q
        → given (place a e n) ≡ cond (p && q) (given (place (at + length word) (at + length (line_from text at)) (at + length (line_from text at) + 1))) (refused 17) → Shape word text at e
    by true true p q r = record { ends = p; starts = q; end = cc }
    by true false p q r = let z : ◌≡◌ {A = ℕ} 0 1 = cc in absurd (omega arith)
    by false q p s r = let z : ◌≡◌ {A = ℕ} 0 1 = cc in absurd (omega arith)

pub record Lined (word text : List ℕ) (i at : ℕ) (p : Found) : Type 0 where
  pub here : Here text (i + 1) p.next
  pub starts : starts_with word (get_or (lines_of text) i []) ≡ true
  pub bytes : bytes_of text p ≡ drop (length word) (get_or (lines_of text) i [])
  pub name : line_from text p.start ≡ drop (length word) (get_or (lines_of text) i [])
  pub start : p.start ≡ at + length word
  pub order : p.start ≤ p.end
  pub inside : p.end < length text
  pub next : p.next ≡ p.end + 1

first : (l : List (List ℕ)) (i : ℕ) (x : List ℕ) (rest : List (List ℕ)) → drop i l ≡ x ∷ rest → get_or l i [] ≡ x
first l i x rest e =
    let z : i + 0 ≡ i = omega arith in
    ap (λ (n : ℕ). get_or l n []) (sym z) ∙ sym (get_or-drop i l 0 []) ∙ ap (λ (k : List (List ℕ)). get_or k 0 []) e

long : (l : List (List ℕ)) (i : ℕ) (x : List ℕ) (rest : List (List ℕ)) → drop i l ≡ x ∷ rest → i < length l
long l i x rest e = let q : length (drop i l) ≡ length l - i = length-drop i l in omega (arith, ap length e)

module _ (word text : List ℕ) (i at : ℕ) (h : Here text i at) where
  pub line-found : (a e n : ℕ) → given (place a e n) ≡ value_at word text at → Lined word text i at (record { start = a; end = e; next = n })
  line-found a e n f =
      let s : Shape word text at e = shape word text at a e n f in
      let v : Inside word text at a e n = value-inside word text at a e n f in
      let m = length (line_from text at) in
      let k : m < length (drop at text) = ltb-true m (length (drop at text)) s.ends in
      let w : length word ≤ m = starts-long word (line_from text at) s.starts in
      let c : drop i (lines_of text) ≡ line_from text at ∷ lines_of (drop (suc m) (drop at text)) = h.rest ∙ lines_cons (drop at text) k in
      let g : get_or (lines_of text) i [] ≡ line_from text at = first (lines_of text) i (line_from text at) (lines_of (drop (suc m) (drop at text))) c in
      let b : i < length (lines_of text) = long (lines_of text) i (line_from text at) (lines_of (drop (suc m) (drop at text))) c in
      let x : at + suc m ≡ n = omega (arith, s.end, v.next) in
      let d : drop (suc m) (drop at text) ≡ drop n text = drop-drop (suc m) at text ∙ ap (λ (j : ℕ). drop j text) x in
      record {
        here = record {
          inside = omega (arith, v.inside, v.next);
          ahead = omega (arith, s.end, v.next, h.ahead);
          there = omega (arith, b);
          rest = sym (drop-drop 1 i (lines_of text)) ∙ ap (drop 1) c ∙ ap lines_of d;
          same = h.same ∙ ended-after (drop at text) k ∙ ap ended d;
        };
        starts = ap (starts_with word) g ∙ s.starts;
        bytes = v.bytes ∙ ap (drop (length word)) (sym g);
        name =
            ap (λ (j : ℕ). before_by is_end (drop j text)) v.start ∙ ap (before_by is_end) (sym (drop-drop (length word) at text))
            ∙ before-drop is_end (length word) (drop at text) w ∙ ap (drop (length word)) (sym g);
        start = v.start;
        order = v.order;
        inside = v.inside;
        next = v.next;
      }

-- ---- a line that was not: the text is not ended, or the line starts otherwise

missing-open : (text : List ℕ) (i : ℕ) (r : List ℕ) → drop i (lines_of text) ≡ lines_of r → ended text ≡ ended r → length r ≤ length (before_by is_end r)
    → (w : ℕ) (ws : List ℕ) → (ended text && starts_with (w ∷ ws) (get_or (lines_of text) i [])) ≡ false
unfolding lines_of starts_with
missing-open text i [] e s h w ws =
    let q : length (drop i (lines_of text)) ≡ length (lines_of text) - i = length-drop i (lines_of text) in
    let z : length (drop i (lines_of text)) ≡ 0 = ap length e in
    rw (get_or-eq_default (lines_of text) [] {n = i} (omega arith)) (and-false (ended text))
missing-open text i (x ∷ r) e s h w ws = rw (s ∙ not-ended x r h) refl

pub line-missing : (w : ℕ) (ws text : List ℕ) (i at : ℕ) → Here text i at → (question : ℕ) → refused question ≡ value_at (w ∷ ws) text at → (ended text && starts_with (w ∷ ws) (get_or (lines_of text) i [])) ≡ false
unfolding value_at
line-missing w ws text i at h question f = by (ends_in text at) (starts_with (w ∷ ws) (line_from text at)) refl refl f
  where
    by : (p q : Bool) → ends_in text at ≡ p → starts_with (w ∷ ws) (line_from text at) ≡ q
        → refused question ≡ cond (p && q) (given (place (at + length (w ∷ ws)) (at + length (line_from text at)) (at + length (line_from text at) + 1))) (refused 17)
        → (ended text && starts_with (w ∷ ws) (get_or (lines_of text) i [])) ≡ false
    by true true p q r = let z : ◌≡◌ {A = ℕ} 0 1 = cc in absurd (omega arith)
    by true false p q r =
        let m = length (line_from text at) in
        let c : drop i (lines_of text) ≡ line_from text at ∷ lines_of (drop (suc m) (drop at text)) = h.rest ∙ lines_cons (drop at text) (ltb-true m (length (drop at text)) p) in
        rw (first (lines_of text) i (line_from text at) (lines_of (drop (suc m) (drop at text))) c, q) (and-false (ended text))
    by false q p s r = missing-open text i (drop at text) h.rest h.same (ltb-false (length (line_from text at)) (length (drop at text)) p) w ws

-- ---- the start and the end

pub here-start : (text : List ℕ) → Here text 0 0
here-start text = record { inside = omega arith; ahead = omega arith; there = omega arith; rest = refl; same = refl }

pub here_end : (text : List ℕ) (i at : ℕ) → Here text i at → length text ≤ at → (length (lines_of text) ≡ i) × (ended text ≡ true)
unfolding lines_of ended
here_end text i at h k =
    let z : drop at text ≡ [] = drop_of_length-le text k in
    let e : drop i (lines_of text) ≡ [] = h.rest ∙ ap lines_of z in
    let q : length (drop i (lines_of text)) ≡ length (lines_of text) - i = length-drop i (lines_of text) in
    let l : length (drop i (lines_of text)) ≡ 0 = ap length e in
    (omega (arith, h.there), h.same ∙ ap ended z)

some : (x : ℕ) (s : List ℕ) → 1 ≤ length (lines_of (x ∷ s))
unfolding lines_of
some x s = by (is_end x) (lines_of s)
  where
    by : (t : Bool) (l : List (List ℕ)) → 1 ≤ length (cond t ([] ∷ l) (onto x l))
    by true l = suc-le-suc zero-le
    by false [] = suc-le-suc zero-le
    by false (y ∷ l) = suc-le-suc zero-le

-- a line stands where the text goes on
pub here-more : (text : List ℕ) (i at : ℕ) → Here text i at → at < length text → i < length (lines_of text)
here-more text i at h k = go (drop at text) h.rest (length-drop at text)
  where
    go : (r : List ℕ) → drop i (lines_of text) ≡ lines_of r → length r ≡ length text - at → i < length (lines_of text)
    go [] e q = absurd (omega arith)
    go (x ∷ r) e q =
        let a : length (drop i (lines_of text)) ≡ length (lines_of text) - i = length-drop i (lines_of text) in
        let b : 1 ≤ length (lines_of (x ∷ r)) = some x r in
        omega (arith, ap length e)

-- ---- where a line starts

size-split : (i : ℕ) (l : List (List ℕ)) → size_of (take i l) + size_of (drop i l) ≡ size_of l
unfolding size_of
size-split zero l = omega arith
size-split (suc i) [] = refl
size-split (suc i) (x ∷ l) = omega (arith, size-split i l)

size-onto : (x : ℕ) (l : List (List ℕ)) → 1 ≤ length l → size_of (onto x l) ≡ suc (size_of l)
unfolding size_of
size-onto x [] h = absurd (not-suc-le-zero h)
size-onto x (y ∷ l) h = omega arith

-- the lines of an ended text take its bytes; those of another, one more
size-lines : (s : List ℕ) → size_of (lines_of s) ≡ length s + cond (ended s) 0 1
unfolding lines_of ended size_of
size-lines [] = omega arith
size-lines (x ∷ []) = by (is_end x)
  where
    by : (t : Bool) → size_of (cond t ([] ∷ []) ((x ∷ []) ∷ [])) ≡ 1 + cond t 0 1
    by true = refl
    by false = refl
size-lines (x ∷ y ∷ s) = by (is_end x) (size-lines (y ∷ s))
  where
    by : (t : Bool) → size_of (lines_of (y ∷ s)) ≡ length (y ∷ s) + cond (ended (y ∷ s)) 0 1
        → size_of (cond t ([] ∷ lines_of (y ∷ s)) (onto x (lines_of (y ∷ s)))) ≡ suc (length (y ∷ s)) + cond (ended (y ∷ s)) 0 1
    by true e = omega arith
    by false e = omega (arith, size-onto x (lines_of (y ∷ s)) (some y s))

pub here-at : (text : List ℕ) (i at : ℕ) → Here text i at → at ≡ line_start (lines_of text) i
here-at text i at h =
    let a : size_of (take i (lines_of text)) + size_of (drop i (lines_of text)) ≡ size_of (lines_of text) = size-split i (lines_of text) in
    let b : size_of (lines_of text) ≡ length text + cond (ended text) 0 1 = size-lines text in
    let c : size_of (drop i (lines_of text)) ≡ length (drop at text) + cond (ended text) 0 1 =
    ap size_of h.rest ∙ size-lines (drop at text) ∙ ap (λ (t : Bool). length (drop at text) + cond t 0 1) (sym h.same) in
    omega (arith, length-drop at text, h.inside)

-- a line is refused by 17
pub value_17 : (word text : List ℕ) (at q : ℕ) → refused q ≡ value_at word text at → q ≡ 17
unfolding value_at
value_17 word text at q e = by (ends_in text at && starts_with word (line_from text at)) e
  where
    by : (t : Bool) → refused q ≡ cond t (given (place (at + length word) (at + length (line_from text at)) (at + length (line_from text at) + 1))) (refused 17) → q ≡ 17
    by true r = let z : ◌≡◌ {A = ℕ} 0 1 = cc in absurd (omega arith)
    by false r = cc
