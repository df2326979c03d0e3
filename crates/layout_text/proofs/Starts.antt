-- Where different names start, in the order of first sight: their names are the different names of a text, and the one with a number starts where its first sight does.
use mathlib.Core.Path.{◌≡◌, refl, sym, ap, ◌∙◌}
use mathlib.Core.Bool.{Bool, true, false, cond}
use mathlib.Core.List.{List, [], ◌∷◌, ◌++◌, map}
use Prim.Native.Nat.{ℕ, ◌+◌, ◌≤◌, ◌<◌, zero-le}
use native.Mathlib.Omega.{arith}
use lib.Dec.{eqb, ltb}
use lib.ListN.{length, get_or, length-append, length-map, get_or-append, get_or-eq_default}
use lib.Seq.{get_or-append_seam}
use borrow.Author.Tests.{ne_eqb, eqb-true, eqb-false, lt-ltb, le-ltb, ltb-true, ltb-false}
use Rattle.lines.specs.Lines.{line_from}
use Rattle.lines.specs.Names.{index_in, see, see_all, number_in, see_at}
use Rattle.lines.proofs.Sight.{index-most, see-new, see-in, all-kept, seen-names}
use Rattle.layout_text.specs.Reading.{Sight, names_in, first_at}
use Rattle.layout_text.specs.Firsts.{see_all_at}

-- the k-th element of a list, or `more` past its end, where the list has one more element behind it
snoc-at : (s : List ℕ) (x k more : ℕ)
    → cond (ltb k (length (s ++ (x ∷ [])))) (get_or (s ++ (x ∷ [])) k 0) more ≡ cond (ltb k (length s)) (get_or s k 0) (cond (eqb (length s) k) x more)
snoc-at s x k more =
    let e : length (s ++ (x ∷ [])) ≡ length s + 1 = length-append s (x ∷ []) in
    rw e (by (ltb k (length s)) refl)
  where
    after : (u : Bool) → eqb (length s) k ≡ u → length s ≤ k → cond (ltb k (length s + 1)) (get_or (s ++ (x ∷ [])) k 0) more ≡ cond u x more
    after true q l =
        let z : length s ≡ k = eqb-true (length s) k q in
        rw (lt-ltb k (length s + 1) (omega arith)) (ap (λ (n : ℕ). get_or (s ++ (x ∷ [])) n 0) (sym z) ∙ get_or-append_seam s x [] 0)
    after false q l =
        let z : length s ≡ k → ⊥ = eqb-false (length s) k q in
        rw (le-ltb k (length s + 1) (omega arith)) refl

    by : (t : Bool) → ltb k (length s) ≡ t → cond (ltb k (length s + 1)) (get_or (s ++ (x ∷ [])) k 0) more ≡ cond t (get_or s k 0) (cond (eqb (length s) k) x more)
    by true q =
        let l : k < length s = ltb-true k (length s) q in
        rw (lt-ltb k (length s + 1) (omega arith)) (get_or-append s (x ∷ []) 0 k l)
    by false q = after (eqb (length s) k) refl (ltb-false k (length s) q)

-- past the end stands 0
at-or-zero : (s : List ℕ) (k : ℕ) → cond (ltb k (length s)) (get_or s k 0) 0 ≡ get_or s k 0
at-or-zero s k = by (ltb k (length s)) refl
  where
    by : (t : Bool) → ltb k (length s) ≡ t → cond t (get_or s k 0) 0 ≡ get_or s k 0
    by true q = refl
    by false q = sym (get_or-eq_default s 0 {n = k} (ltb-false k (length s) q))

-- the names that stand where the sights are
abbrev pub names_from : List ℕ → List Sight → List (List ℕ)
names_from text sights = map (λ s. line_from text s.at) sights

module _ (text : List ℕ) where
  pub all_after : (starts : List ℕ) (a b : List Sight) → see_all_at text starts (a ++ b) ≡ see_all_at text (see_all_at text starts a) b
  unfolding see_all_at
  all_after starts [] b = refl
  all_after starts (s ∷ a) b = all_after (see_at text starts s.at) a b

  pub all-names : (starts : List ℕ) (sights : List Sight) → map (line_from text) (see_all_at text starts sights) ≡ see_all (map (line_from text) starts) (names_from text sights)
  unfolding see_all_at
  all-names starts [] = refl
  all-names starts (s ∷ sights) = all-names (see_at text starts s.at) sights ∙ ap (λ (l : List (List ℕ)). see_all l (names_from text sights)) (seen-names text starts s.at)

  -- no start is past n
  pub see-inside : (starts : List ℕ) (at n : ℕ) → ((k : ℕ) → get_or starts k 0 ≤ n) → at ≤ n → (k : ℕ) → get_or (see_at text starts at) k 0 ≤ n
  see-inside starts at n h a k = by (ltb (index_in (line_from text at) (map (line_from text) starts)) (length starts))
    where
      pick : (t u : Bool) → cond t (get_or starts k 0) (cond u at 0) ≤ n
      pick true u = h k
      pick false true = a
      pick false false = zero-le

      by : (t : Bool) → get_or (cond t starts (starts ++ (at ∷ []))) k 0 ≤ n
      by true = h k
      by false = rw (sym (at-or-zero (starts ++ (at ∷ [])) k) ∙ snoc-at starts at k 0) (pick (ltb k (length starts)) (eqb (length starts) k))

  -- the k-th start: one of those given, or where the first sight of the name with that number is
  abbrev Numbered : List ℕ → List Sight → List ℕ → ℕ
  Numbered starts sights n = index_in n (see_all (map (line_from text) starts) (names_in sights))

  module _ (starts : List ℕ) (s : Sight) (sights : List Sight) (e : s.name ≡ line_from text s.at) (k more : ℕ) where
    abbrev seen : List (List ℕ)
    seen = map (line_from text) starts

    long : length seen ≡ length starts
    long = length-map starts (line_from text)

    -- the name was seen, or is new
    old : index_in s.name seen < length starts
        → cond (ltb k (length starts)) (get_or starts k 0) more ≡ cond (ltb k (length starts)) (get_or starts k 0) (cond (eqb (Numbered starts (s ∷ sights) s.name) k) s.at more)
    old h = by (ltb k (length starts)) refl
      where
        kept : Numbered starts (s ∷ sights) s.name ≡ index_in s.name seen
        kept = all-kept s.name seen (names_in (s ∷ sights)) (omega (arith, long))

        by : (t : Bool) → ltb k (length starts) ≡ t → cond t (get_or starts k 0) more ≡ cond t (get_or starts k 0) (cond (eqb (Numbered starts (s ∷ sights) s.name) k) s.at more)
        by true q = refl
        by false q =
            let l : length starts ≤ k = ltb-false k (length starts) q in
            rw (ne_eqb (Numbered starts (s ∷ sights) s.name) k (λ z. absurd (omega (arith, kept)))) refl

    new : length starts ≤ index_in s.name seen
        → cond (ltb k (length (starts ++ (s.at ∷ [])))) (get_or (starts ++ (s.at ∷ [])) k 0) more ≡ cond (ltb k (length starts)) (get_or starts k 0) (cond (eqb (Numbered starts (s ∷ sights) s.name) k) s.at more)
    new h =
        let m : index_in s.name seen ≤ length seen = index-most s.name seen in
        let z : index_in s.name seen ≡ length seen = omega (arith, long) in
        let f : Numbered starts (s ∷ sights) s.name ≡ length starts =
        all-kept s.name (see seen s.name) (names_in sights) (see-in s.name seen) ∙ see-new s.name seen z ∙ long in
        rw f (snoc-at starts s.at k more)

    one : cond (ltb k (length (see_at text starts s.at))) (get_or (see_at text starts s.at) k 0) more
        ≡ cond (ltb k (length starts)) (get_or starts k 0) (cond (eqb (Numbered starts (s ∷ sights) s.name) k) s.at more)
    one = by (ltb (index_in (line_from text s.at) seen) (length starts)) (ap (λ (n : List ℕ). ltb (index_in n seen) (length starts)) e)
      where
        by : (t : Bool) → ltb (index_in s.name seen) (length starts) ≡ t
            → cond (ltb k (length (cond t starts (starts ++ (s.at ∷ []))))) (get_or (cond t starts (starts ++ (s.at ∷ []))) k 0) more
            ≡ cond (ltb k (length starts)) (get_or starts k 0) (cond (eqb (Numbered starts (s ∷ sights) s.name) k) s.at more)
        by true q = old (ltb-true (index_in s.name seen) (length starts) q)
        by false q = new (ltb-false (index_in s.name seen) (length starts) q)

  all-at : (starts : List ℕ) (sights : List Sight) → names_in sights ≡ names_from text sights → (k : ℕ)
      → get_or (see_all_at text starts sights) k 0 ≡ cond (ltb k (length starts)) (get_or starts k 0) (first_at (Numbered starts sights) k sights)
  unfolding see_all_at first_at
  all-at starts [] e k = sym (at-or-zero starts k)
  all-at starts (s ∷ sights) e k =
      let h : s.name ≡ line_from text s.at = cc in
      let t : names_in sights ≡ names_from text sights = cc in
      let n : map (line_from text) (see_at text starts s.at) ≡ see (map (line_from text) starts) s.name = seen-names text starts s.at ∙ ap (see (map (line_from text) starts)) (sym h) in
      all-at (see_at text starts s.at) sights t k
      ∙ ap (λ (l : List (List ℕ)). cond (ltb k (length (see_at text starts s.at))) (get_or (see_at text starts s.at) k 0) (first_at (λ m. index_in m (see_all l (names_in sights))) k sights)) n
      ∙ one starts s sights h k (first_at (Numbered starts (s ∷ sights)) k sights)

  -- from no start on
  pub firsts_at : (sights : List Sight) → names_in sights ≡ names_from text sights → (k : ℕ) → get_or (see_all_at text [] sights) k 0 ≡ first_at (number_in (names_in sights)) k sights
  firsts_at sights e k = all-at [] sights e k ∙ rw (le-ltb k 0 zero-le) refl
