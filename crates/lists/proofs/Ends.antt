-- std counts the elements at an end that pass a test; what stands behind them, or before them, is what the scans of `lists` leave.
use Rattle.std.proofs.Common.{◌≡◌, subst, refl, sym, ap, ◌∙◌, ℕ, ◌+◌, ◌-◌, ◌≤◌, ◌<◌, Bool, true, false, not, cond, List, [], ◌∷◌, ◌++◌, length, take, drop, get_or, reverse, suc, inl, inr, ◌⊎◌, arith, lt-ltb, le-ltb, length-append}
use Rattle.std.proofs.lemmas.List.{reverse-append, reverse-reverse, length-reverse}
use Rattle.std.proofs.Math.Seq.{take-length, get_or-append_seam}
use Rattle.std.proofs.lemmas.List.{take-append-le}
use Rattle.std.specs.Option.{unwrap_or}
use Rattle.std.specs.List.{prefix_len, suffix_len, position, position_or_len}
use Rattle.std.proofs.lemmas.Bool.{cases_lt}
use Rattle.lists.specs.Scan.{left_by, left_count, right_by, before_by}
use Rattle.lists.proofs.Scan.{left-count, right-pads, right_kept}

pub prefix-le : (f : ℕ → Bool) (s : List ℕ) → prefix_len f s ≤ length s
prefix-le f [] = omega arith
prefix-le f (x ∷ s) = by (f x) (prefix-le f s)
  where
    by : (b : Bool) → prefix_len f s ≤ length s → cond b (1 + prefix_len f s) 0 ≤ length (x ∷ s)
    by true h = omega arith
    by false h = omega arith

-- where `position` finds nothing, the length stands for it
pub found-or-end : (p : ℕ → Bool) (s : List ℕ) → unwrap_or (position p s) (length s) ≡ prefix_len (λ x. not (p x)) s
found-or-end p s = go (cases_lt (position_or_len p s) (length s))
  where
    go : (position_or_len p s < length s) ⊎ (length s ≤ position_or_len p s) → unwrap_or (position p s) (length s) ≡ position_or_len p s
    go (inl h) = rw (lt-ltb (position_or_len p s) (length s) h)
    go (inr h) = let l = prefix-le (λ x. not (p x)) s in rw (le-ltb (position_or_len p s) (length s) h) (omega arith)

-- two tests that agree count alike
prefix-same : (f g : ℕ → Bool) → ((x : ℕ) → f x ≡ g x) → (s : List ℕ) → prefix_len f s ≡ prefix_len g s
prefix-same f g e [] = refl
prefix-same f g e (x ∷ s) = rw (e x, prefix-same f g e s)

not-not : (f : ℕ → Bool) (x : ℕ) → not (not (f x)) ≡ f x
not-not f x = by (f x)
  where
    by : (b : Bool) → not (not b) ≡ b
    by true = refl
    by false = refl

-- the first element that fails a test, from the left and from the right
pub other-left : (f : ℕ → Bool) (s : List ℕ) → unwrap_or (position (λ x. not (f x)) s) (length s) ≡ prefix_len f s
other-left f s = found-or-end (λ x. not (f x)) s ∙ prefix-same (λ x. not (not (f x))) f (not-not f) s

pub other-right : (f : ℕ → Bool) (s : List ℕ) → unwrap_or (position (λ x. not (f x)) (reverse s)) (length s) ≡ suffix_len f s
other-right f s = ap (unwrap_or (position (λ x. not (f x)) (reverse s))) (sym (length-reverse s)) ∙ other-left f (reverse s)

pub prefix-left : (f : ℕ → Bool) (s : List ℕ) → drop (prefix_len f s) s ≡ left_by f s
unfolding left_by
prefix-left f [] = refl
prefix-left f (x ∷ s) = by (f x) (prefix-left f s)
  where
    by : (b : Bool) → drop (prefix_len f s) s ≡ left_by f s → drop (cond b (1 + prefix_len f s) 0) (x ∷ s) ≡ cond b (left_by f s) (x ∷ s)
    by true e = let q : 1 + prefix_len f s ≡ suc (prefix_len f s) = omega arith in rw q e
    by false e = refl

pub prefix-count : (f : ℕ → Bool) (s : List ℕ) → prefix_len f s ≡ left_count f s
prefix-count f s = left-count f s (prefix_len f s) (prefix-le f s) (prefix-left f s)

-- what comes before the first element that passes
pub prefix-before : (f : ℕ → Bool) (s : List ℕ) → take (prefix_len (λ x. not (f x)) s) s ≡ before_by f s
unfolding before_by
prefix-before f [] = refl
prefix-before f (x ∷ s) = by (f x) (prefix-before f s)
  where
    by : (b : Bool) → take (prefix_len (λ y. not (f y)) s) s ≡ before_by f s → take (cond (not b) (1 + prefix_len (λ y. not (f y)) s) 0) (x ∷ s) ≡ cond b [] (x ∷ before_by f s)
    by true e = refl
    by false e = let q : 1 + prefix_len (λ y. not (f y)) s ≡ suc (prefix_len (λ y. not (f y)) s) = omega arith in rw q (ap (λ (l : List ℕ). x ∷ l) e)

-- the right end, by the list the other way round
module _ (f : ℕ → Bool) where
  snoc : (l : List ℕ) (x : ℕ) → f x ≡ false → right_by f (l ++ (x ∷ [])) ≡ l ++ (x ∷ [])
  snoc l x e =
      let n : length (l ++ (x ∷ [])) - 1 ≡ length l = omega (arith, lt-ltb, le-ltb, length-append l (x ∷ [])) in
      right_kept f (l ++ (x ∷ [])) (λ h. ap (λ (k : ℕ). f (get_or (l ++ (x ∷ [])) k 0)) n ∙ ap f (get_or-append_seam l x [] 0) ∙ e)

  right-of : (t : List ℕ) → take (length t - prefix_len f t) (reverse t) ≡ right_by f (reverse t)
  unfolding right_by
  right-of [] = refl
  right-of (x ∷ t) = by (f x) refl (right-of t)
    where
      r : reverse (x ∷ t) ≡ reverse t ++ (x ∷ [])
      r = reverse-append (x ∷ []) t

      l : length (reverse t) ≡ length t
      l = length-reverse t

      by : (b : Bool) → f x ≡ b → take (length t - prefix_len f t) (reverse t) ≡ right_by f (reverse t) → take (suc (length t) - cond b (1 + prefix_len f t) 0) (reverse (x ∷ t)) ≡ right_by f (reverse (x ∷ t))
      by true q e =
          let k : suc (length t) - (1 + prefix_len f t) ≡ length t - prefix_len f t = omega arith in
          rw (r, k) (take-append-le (length t - prefix_len f t) (reverse t) (x ∷ []) (omega (arith, length-reverse t)) ∙ e ∙ sym (right-pads f x 1 (reverse t) q))
      by false q e =
          let a : length (reverse t ++ (x ∷ [])) ≡ length (reverse t) + 1 = length-append (reverse t) (x ∷ []) in
          let k : suc (length t) - 0 ≡ length (reverse t ++ (x ∷ [])) = omega (arith, length-reverse t) in
          rw (r, k) (take-length (reverse t ++ (x ∷ [])) ∙ sym (snoc (reverse t) x q))

  pub suffix-right : (s : List ℕ) → take (length s - suffix_len f s) s ≡ right_by f s
  suffix-right s =
      let P : ℕ → List ℕ → Type 0 = λ n l. take (n - suffix_len f s) l ≡ right_by f l in
      subst (λ (l : List ℕ). P (length s) l) (reverse-reverse s) (subst (λ (n : ℕ). P n (reverse (reverse s))) (length-reverse s) (right-of (reverse s)))
