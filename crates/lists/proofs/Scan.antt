-- Scans by any test f: one turn of a loop and its ends; a scan of a list that is g of each element; what a scan keeps.
use mathlib.Core.Path.{◌≡◌, refl, sym, ap, ◌∙◌}
use mathlib.Core.Bool.{Bool, true, false, ◌&&◌, cond, false≢true}
use mathlib.Core.List.{List, [], ◌∷◌, ◌++◌, map}
use Prim.Native.Nat.{ℕ, zero, suc, ◌+◌, ◌-◌, ◌≤◌, ◌<◌, suc-le-suc}
use native.Mathlib.Nat.{not-suc-le-zero, le_of_eq, sub-zero, zero-lt-suc, le_refl}
use native.Mathlib.Numerals.{add-one}
use native.Mathlib.Omega.{arith}
use lib.ListN.{length, get_or, take, drop, replicate, drop_of_length-le, length-drop, length-map}
use lib.Seq.{drop-cons, take-suc, take_all, take-length}
use Rattle.lists.specs.Scan.{left_by, left_count, join_by, right_by, before_by, keep_by, every_by}

module _ (f : ℕ → Bool) (s : List ℕ) where
  pub left-go : (i : ℕ) → i < length s → f (get_or s i 0) ≡ true → left_by f (drop i s) ≡ left_by f (drop (i + 1) s)
  unfolding left_by
  left-go i h e = rw (add-one, drop-cons s i 0, e)

  pub left-stop : (i : ℕ) → i < length s → f (get_or s i 0) ≡ false → left_by f (drop i s) ≡ drop i s
  unfolding left_by
  left-stop i h e = rw (drop-cons s i 0, e)

  pub left_end : (i : ℕ) → length s ≤ i → left_by f (drop i s) ≡ drop i s
  unfolding left_by
  left_end i h = rw (drop_of_length-le s h)

  pub left-count : (a : ℕ) → a ≤ length s → drop a s ≡ left_by f s → a ≡ left_count f s
  left-count a h e = omega (arith, ap length e, length-drop a s)

  join-snoc : (y x : ℕ) (xs : List ℕ) → join_by f y (xs ++ (x ∷ [])) ≡ y ∷ (xs ++ (x ∷ []))
  join-snoc y x [] = refl
  join-snoc y x (z ∷ xs) = refl

  snoc-stop : (x : ℕ) (xs : List ℕ) → f x ≡ false → right_by f (xs ++ (x ∷ [])) ≡ xs ++ (x ∷ [])
  unfolding right_by
  snoc-stop x [] e = rw e
  snoc-stop x (y ∷ xs) e = ap (join_by f y) (snoc-stop x xs e) ∙ join-snoc y x xs

  last_of : (e : ℕ) → 0 < e → e ≤ length s → take e s ≡ take (e - 1) s ++ (get_or s (e - 1) 0 ∷ [])
  last_of e h k =
      let q : e ≡ suc (e - 1) = omega arith in
      ap (λ (n : ℕ). take n s) q ∙ take-suc s (e - 1) 0 (omega arith)

  pub right-stop : (e : ℕ) → 0 < e → e ≤ length s → f (get_or s (e - 1) 0) ≡ false → right_by f (take e s) ≡ take e s
  right-stop e h k q = ap (right_by f) (last_of e h k) ∙ snoc-stop (get_or s (e - 1) 0) (take (e - 1) s) q ∙ sym (last_of e h k)

  pub right_end : (e : ℕ) → e ≤ 0 → right_by f (take e s) ≡ take e s
  unfolding right_by
  right_end zero h = refl
  right_end (suc e) h = absurd (not-suc-le-zero h)

-- ---- a scan of g of each element, by a test f, is one of the elements by a test h that agrees with it on them

module _ (f h : ℕ → Bool) (g : ℕ → ℕ) where
  pub map-left : (s : List ℕ) → ((k : ℕ) → k < length s → h (get_or s k 0) ≡ f (g (get_or s k 0))) → map g (left_by h s) ≡ left_by f (map g s)
  unfolding left_by
  map-left [] e = refl
  map-left (x ∷ s) e = rw (e 0 (zero-lt-suc (length s))) (by (f (g x)) (map-left s (λ k b. e (suc k) (suc-le-suc b))))
    where
      by : (t : Bool) → map g (left_by h s) ≡ left_by f (map g s) → map g (cond t (left_by h s) (x ∷ s)) ≡ cond t (left_by f (map g s)) (g x ∷ map g s)
      by true q = q
      by false q = refl

  pub map-count : (s : List ℕ) → ((k : ℕ) → k < length s → h (get_or s k 0) ≡ f (g (get_or s k 0))) → left_count h s ≡ left_count f (map g s)
  map-count s e = omega (arith, ap length (map-left s e), length-map (left_by h s) g, length-map s g)

  pub map-right : (s : List ℕ) → ((k : ℕ) → k < length s → h (get_or s k 0) ≡ f (g (get_or s k 0))) → map g (right_by h s) ≡ right_by f (map g s)
  unfolding right_by
  map-right [] e = refl
  map-right (x ∷ s) e = by (right_by h s) (map-right s (λ k b. e (suc k) (suc-le-suc b)))
    where
      none : (t : Bool) → map g (cond t [] (x ∷ [])) ≡ cond t [] (g x ∷ [])
      none true = refl
      none false = refl

      by : (r : List ℕ) → map g r ≡ right_by f (map g s) → map g (join_by h x r) ≡ join_by f (g x) (right_by f (map g s))
      by [] q = rw (e 0 (zero-lt-suc (length s)), ← q) (none (f (g x)))
      by (y ∷ r) q = rw (← q) refl

  pub map-before : (s : List ℕ) → ((k : ℕ) → k < length s → h (get_or s k 0) ≡ f (g (get_or s k 0))) → map g (before_by h s) ≡ before_by f (map g s)
  unfolding before_by
  map-before [] e = refl
  map-before (x ∷ s) e = rw (e 0 (zero-lt-suc (length s))) (by (f (g x)) (map-before s (λ k b. e (suc k) (suc-le-suc b))))
    where
      by : (t : Bool) → map g (before_by h s) ≡ before_by f (map g s) → map g (cond t [] (x ∷ before_by h s)) ≡ cond t [] (g x ∷ before_by f (map g s))
      by true q = refl
      by false q = ap (λ (l : List ℕ). g x ∷ l) q

-- ---- what a scan keeps

module _ (f : ℕ → Bool) where
  pub left-kept : (t : List ℕ) → (0 < length t → f (get_or t 0 0) ≡ false) → left_by f t ≡ t
  unfolding left_by
  left-kept [] h = refl
  left-kept (x ∷ t) h = left-stop f (x ∷ t) 0 (zero-lt-suc (length t)) (h (zero-lt-suc (length t)))

  pub right_kept : (t : List ℕ) → (0 < length t → f (get_or t (length t - 1) 0) ≡ false) → right_by f t ≡ t
  unfolding right_by
  right_kept [] h = refl
  right_kept (x ∷ t) h =
      let s = x ∷ t in
      let l : 0 < length s = zero-lt-suc (length t) in
      ap (right_by f) (sym (take-length s)) ∙ right-stop f s (length s) l (le_refl (length s)) (h l) ∙ take-length s

  pub before-kept : (t : List ℕ) → ((k : ℕ) → k < length t → f (get_or t k 0) ≡ false) → before_by f t ≡ t
  unfolding before_by
  before-kept [] h = refl
  before-kept (x ∷ t) h = rw (h 0 (zero-lt-suc (length t))) (ap (λ (l : List ℕ). x ∷ l) (before-kept t (λ k b. h (suc k) (suc-le-suc b))))

  pub left-pads : (p k : ℕ) (t : List ℕ) → f p ≡ true → left_by f (replicate k p ++ t) ≡ left_by f t
  unfolding left_by
  left-pads p zero t e = refl
  left-pads p (suc k) t e = rw e (left-pads p k t e)

  only-pads : (p k : ℕ) → f p ≡ true → right_by f (replicate k p) ≡ []
  unfolding right_by
  only-pads p zero e = refl
  only-pads p (suc k) e = rw (only-pads p k e, e)

  pub right-pads : (p k : ℕ) (t : List ℕ) → f p ≡ true → right_by f (t ++ replicate k p) ≡ right_by f t
  unfolding right_by
  right-pads p k [] e = only-pads p k e
  right-pads p k (x ∷ t) e = ap (join_by f x) (right-pads p k t e)

  pub every_true : (t : List ℕ) → ((k : ℕ) → k < length t → f (get_or t k 0) ≡ true) → every_by f t ≡ true
  unfolding every_by
  every_true [] h = refl
  every_true (x ∷ t) h = rw (h 0 (zero-lt-suc (length t))) (every_true t (λ k b. h (suc k) (suc-le-suc b)))

  pub keep-every : (t : List ℕ) → every_by f t ≡ true → keep_by f t ≡ t
  unfolding keep_by every_by
  keep-every [] h = refl
  keep-every (x ∷ t) h = by (f x) h (λ q. keep-every t q)
    where
      by : (b : Bool) → (b && every_by f t) ≡ true → (every_by f t ≡ true → keep_by f t ≡ t) → cond b (x ∷ keep_by f t) (keep_by f t) ≡ x ∷ t
      by true q r = ap (λ (l : List ℕ). x ∷ l) (r q)
      by false q r = absurd (false≢true q)

-- ---- a part found by two scans

-- the elements from a on, and of these the first e
pub both_ends : (f : ℕ → Bool) (s : List ℕ) (a e : ℕ) → drop a s ≡ left_by f s → take e (take (length s - a) (drop a s)) ≡ right_by f (take (length s - a) (drop a s))
    → take (e - 0) (take (length s - a) (drop a s)) ≡ right_by f (left_by f s)
both_ends f s a e p q =
    let t = take (length s - a) (drop a s) in
    ap (λ (n : ℕ). take n t) (sub-zero e) ∙ q ∙ ap (right_by f) (take_all (length s - a) (drop a s) (le_of_eq (length-drop a s)) ∙ p)

pub tail-part : (s : List ℕ) (a : ℕ) → take (length s - a) (drop a s) ≡ drop a s
tail-part s a = take_all (length s - a) (drop a s) (le_of_eq (length-drop a s))

-- what every element passes, it passes by a weaker test
pub every-weaker : (f g : ℕ → Bool) → ((x : ℕ) → f x ≡ true → g x ≡ true) → (t : List ℕ) → every_by f t ≡ true → every_by g t ≡ true
unfolding every_by
every-weaker f g w [] h = refl
every-weaker f g w (x ∷ t) h = by (f x) refl h (λ q. every-weaker f g w t q)
  where
    by : (b : Bool) → f x ≡ b → (b && every_by f t) ≡ true → (every_by f t ≡ true → every_by g t ≡ true) → (g x && every_by g t) ≡ true
    by true e q r = rw (w x e) (r q)
    by false e q r = absurd (false≢true q)

-- the first element and the rest pass
pub every-head : (f : ℕ → Bool) (x : ℕ) (t : List ℕ) → every_by f (x ∷ t) ≡ true → f x ≡ true
unfolding every_by
every-head f x t h = by (f x) h
  where
    by : (b : Bool) → (b && every_by f t) ≡ true → b ≡ true
    by true q = refl
    by false q = absurd (false≢true q)

pub every-tail : (f : ℕ → Bool) (x : ℕ) (t : List ℕ) → every_by f (x ∷ t) ≡ true → every_by f t ≡ true
unfolding every_by
every-tail f x t h = by (f x) h
  where
    by : (b : Bool) → (b && every_by f t) ≡ true → every_by f t ≡ true
    by true q = q
    by false q = absurd (false≢true q)
