-- Which texts S-5 changed: byte by byte, both rules agree on what follows, or the pad stands before the first 0 byte, where their answers differ in length.
use mathlib.Core.Path.{◌≡◌, refl, sym, ap, ◌∙◌}
use mathlib.Core.Bool.{Bool, true, false, cond, false≢true}
use mathlib.Core.List.{List, [], ◌∷◌, ◌++◌}
use mathlib.Core.Logic.{◌⊎◌, inl, inr, ⊎_elim}
use Prim.Native.Nat.{ℕ, zero, suc, ◌<◌, ◌≤◌, suc-le-suc}
use native.Mathlib.Nat.{not-suc-le-zero, le_of_suc-le-suc, zero-lt-suc}
use native.Mathlib.Omega.{arith}
use lib.ListN.{length, get_or, length-append}
use borrow.Author.Tests.{eqb-true, eqb-false, ne_eqb, eq-eqb}
use Rattle.lists.specs.Scan.{join_by, right_by, before_by}
use Rattle.lists.proofs.Scan.{right-pads}
use Rattle.text.specs.Text.{is_byte, cut}
use Rattle.text.specs.Changed.{pad_first, Changed, ExactlyThese}

module _ (pad : ℕ) where
  abbrev new_cut : List ℕ → List ℕ
  new_cut s = right_by (is_byte pad) (before_by (is_byte 0) s)

  abbrev old_cut : List ℕ → List ℕ
  old_cut s = before_by (is_byte 0) (right_by (is_byte pad) s)

  -- the field is one of those, or both rules cut it alike
  abbrev Either : List ℕ → Type 0
  Either s = Changed false true pad s ⊎ (new_cut s ≡ old_cut s)

  -- a byte in front of one of those
  further : (x : ℕ) (s : List ℕ) → is_byte 0 x ≡ false → Changed false true pad s → Changed false true pad (x ∷ s)
  further x s e c =
      record {
        trimmed = refl;
        left = refl;
        other = c.other;
        before = x ∷ c.before;
        after = c.after;
        bytes = ap (λ (l : List ℕ). x ∷ l) c.bytes;
        first = first;
      }
    where
      first : (k : ℕ) → k < suc (length c.before) → get_or (x ∷ c.before) k 0 ≡ 0 → ⊥
      first zero h q = eqb-false x 0 e q
      first (suc k) h q = c.first k (le_of_suc-le-suc h) q

  -- the pad, and then the 0 byte
  here : (x y : ℕ) (s : List ℕ) → is_byte pad x ≡ true → is_byte 0 x ≡ false → is_byte 0 y ≡ true → Changed false true pad (x ∷ y ∷ s)
  here x y s p e z =
      let same = eqb-true x pad p in
      let none = eqb-true y 0 z in
      record {
        trimmed = refl;
        left = refl;
        other = λ q. eqb-false x 0 e (same ∙ q);
        before = [];
        after = s;
        bytes = rw (same, none);
        first = λ k h. absurd (not-suc-le-zero h);
      }

  -- at a 0 byte both stop
  join-stop : (x : ℕ) (r : List ℕ) → is_byte 0 x ≡ true → before_by (is_byte 0) (join_by (is_byte pad) x r) ≡ []
  unfolding before_by
  join-stop x [] e = by (is_byte pad x)
    where
      by : (t : Bool) → before_by (is_byte 0) (cond t [] (x ∷ [])) ≡ []
      by true = refl
      by false = rw e
  join-stop x (y ∷ r) e = rw e

  -- any other byte goes before what both left of the rest
  module _ (x : ℕ) (e : is_byte 0 x ≡ false) where
    one : join_by (is_byte pad) x [] ≡ before_by (is_byte 0) (join_by (is_byte pad) x [])
    unfolding before_by
    one = by (is_byte pad x)
      where
        by : (t : Bool) → cond t [] (x ∷ []) ≡ before_by (is_byte 0) (cond t [] (x ∷ []))
        by true = refl
        by false = rw e

    -- what is left starts with y, and so does the rest
    right-head : (s : List ℕ) (y : ℕ) (r : List ℕ) → right_by (is_byte pad) s ≡ y ∷ r → is_byte 0 y ≡ true → is_byte pad x ≡ true → Changed false true pad (x ∷ s)
    unfolding right_by
    right-head [] y r q z p = let n : ◌≡◌ {A = ℕ} 0 1 = cc in absurd (omega arith)
    right-head (a ∷ s) y r q z p = here x a s p e (rw (head (right_by (is_byte pad) s) q) z)
      where
        one-head : (t : Bool) → cond t [] (a ∷ []) ≡ y ∷ r → a ≡ y
        one-head true h = let n : ◌≡◌ {A = ℕ} 0 1 = cc in absurd (omega arith)
        one-head false h = cc

        head : (l : List ℕ) → join_by (is_byte pad) a l ≡ y ∷ r → a ≡ y
        head [] h = one-head (is_byte pad a) h
        head (b ∷ l) h = cc

    step : (s r : List ℕ) → right_by (is_byte pad) s ≡ r → new_cut s ≡ before_by (is_byte 0) r
        → Changed false true pad (x ∷ s) ⊎ (join_by (is_byte pad) x (new_cut s) ≡ before_by (is_byte 0) (join_by (is_byte pad) x r))
    unfolding before_by
    step s [] q i = inr (ap (join_by (is_byte pad) x) i ∙ one)
    step s (y ∷ r) q i = by (is_byte 0 y) refl
      where
        stop : is_byte 0 y ≡ true → (t : Bool) → is_byte pad x ≡ t → Changed false true pad (x ∷ s) ⊎ (cond t [] (x ∷ []) ≡ x ∷ [])
        stop z true p = inl (right-head s y r q z p)
        stop z false p = inr refl

        by : (t : Bool) → is_byte 0 y ≡ t → Changed false true pad (x ∷ s) ⊎ (join_by (is_byte pad) x (new_cut s) ≡ before_by (is_byte 0) (x ∷ y ∷ r))
        by true z =
            let none : new_cut s ≡ [] = rw z at i in
            ⊎_elim inl (λ h. inr (ap (join_by (is_byte pad) x) none ∙ h ∙ rw (e, z))) (stop z (is_byte pad x) refl)
        by false z = inr (ap (join_by (is_byte pad) x) i ∙ rw (e, z))

  either : (s : List ℕ) → Either s
  unfolding right_by before_by
  either [] = inr refl
  either (x ∷ s) = by (is_byte 0 x) refl (either s)
    where
      by : (t : Bool) → is_byte 0 x ≡ t → Either s → Either (x ∷ s)
      by true e i = inr (rw e (sym (join-stop x (right_by (is_byte pad) s) e)))
      by false e i = ⊎_elim (λ c. inl (further x s e c)) (λ q. ⊎_elim inl (λ h. inr (rw e h)) (step x e s (right_by (is_byte pad) s) refl q)) i

-- ---- and there they do differ

before-both : (f : ℕ → Bool) (a b : List ℕ) → ((k : ℕ) → k < length a → f (get_or a k 0) ≡ false) → before_by f (a ++ b) ≡ a ++ before_by f b
unfolding before_by
before-both f [] b h = refl
before-both f (x ∷ a) b h = rw (h 0 (zero-lt-suc (length a))) (ap (λ (l : List ℕ). x ∷ l) (before-both f a b (λ k i. h (suc k) (suc-le-suc i))))

join-other : (f : ℕ → Bool) (x : ℕ) (r : List ℕ) → f x ≡ false → join_by f x r ≡ x ∷ r
join-other f x [] e = rw e
join-other f x (y ∷ r) e = refl

-- nothing is cut in front of an element that stays
right-both : (f : ℕ → Bool) (a : List ℕ) (x y : ℕ) (b : List ℕ) → f y ≡ false → right_by f (a ++ (x ∷ y ∷ b)) ≡ a ++ (x ∷ y ∷ right_by f b)
unfolding right_by
right-both f [] x y b e = rw (join-other f y (right_by f b) e)
right-both f (z ∷ []) x y b e = rw (join-other f y (right_by f b) e)
right-both f (z ∷ w ∷ a) x y b e = ap (join_by f z) (right-both f (w ∷ a) x y b e)

right-length : (f : ℕ → Bool) (s : List ℕ) → length (right_by f s) ≤ length s
unfolding right_by
right-length f [] = omega arith
right-length f (x ∷ s) = by (right_by f s) (right-length f s)
  where
    one : (t : Bool) → length (cond t [] (x ∷ [])) ≤ suc (length s)
    one true = omega arith
    one false = omega arith

    by : (r : List ℕ) → length r ≤ length s → length (join_by f x r) ≤ suc (length s)
    by [] h = one (f x)
    by (y ∷ r) h = omega arith

module _ (pad : ℕ) (a b : List ℕ) (other : pad ≡ 0 → ⊥) (first : (k : ℕ) → k < length a → get_or a k 0 ≡ 0 → ⊥) where
  before-zero : (r : List ℕ) → before_by (is_byte 0) (a ++ (pad ∷ 0 ∷ r)) ≡ a ++ (pad ∷ [])
  unfolding before_by
  before-zero r =
      before-both (is_byte 0) a (pad ∷ 0 ∷ r) (λ k h. ne_eqb (get_or a k 0) 0 (first k h))
      ∙ rw (ne_eqb pad 0 other)

  new-there : new_cut pad (a ++ (pad ∷ 0 ∷ b)) ≡ right_by (is_byte pad) a
  new-there = ap (right_by (is_byte pad)) (before-zero b) ∙ right-pads (is_byte pad) pad 1 a (eq-eqb pad pad refl)

  old-there : old_cut pad (a ++ (pad ∷ 0 ∷ b)) ≡ a ++ (pad ∷ [])
  old-there =
      ap (before_by (is_byte 0)) (right-both (is_byte pad) a pad 0 b (ne_eqb 0 pad (λ e. other (sym e))))
      ∙ before-zero (right_by (is_byte pad) b)

  differ : new_cut pad (a ++ (pad ∷ 0 ∷ b)) ≡ old_cut pad (a ++ (pad ∷ 0 ∷ b)) → ⊥
  differ q = omega (arith, ap length (sym new-there ∙ q ∙ old-there), right-length (is_byte pad) a, length-append a (pad ∷ []))

pub exactly-these : ExactlyThese
unfolding cut pad_first
exactly-these right false pad s = record { only = λ d. absurd (d refl); all = λ c. absurd (false≢true c.trimmed) }
exactly-these true true pad s = record { only = λ d. absurd (d refl); all = λ c. absurd (false≢true (sym c.left)) }
exactly-these false true pad s = record { only = λ d. ⊎_elim (λ c. c) (λ q. absurd (d q)) (either pad s); all = λ c q. differ pad c.before c.after c.other c.first (rw c.bytes at q) }
