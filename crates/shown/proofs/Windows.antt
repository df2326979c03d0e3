-- What a buffer holds after bytes were handed over from its start on: a piece of them.
use mathlib.Core.Path.{◌≡◌, refl, ap, ◌∙◌}
use mathlib.Core.List.{List, [], ◌∷◌, ◌++◌, append_assoc}
use Prim.Native.Nat.{ℕ, zero, suc, ◌+◌, ◌-◌}
use native.Mathlib.Omega.{arith}
use native.Mathlib.Nat.{zero-add}
use borrow.Author.Tests.{lt-ltb, le-ltb, ne_eqb}
use lib.ListN.{length, take, drop, set, length-append}
use Rattle.text.specs.Text.{front}
use Rattle.shown.specs.Sink.{State, one, all, Took}
use Rattle.shown.specs.Shown.{piece}

abbrev pub from_named : ℕ → List ℕ → ℕ → ℕ → State
from_named n o k u = record { name = n; out = o; skip = k; used = u }

module _ (name : ℕ) where
  -- ---- bytes that are passed over

  skip-one : (o : List ℕ) (k u b : ℕ) → one (from_named name o (suc k) u) b ≡ from_named name o k u
  unfolding one
  skip-one o k u b =
      let e : suc k - 1 ≡ k = omega arith in
      rw (ne_eqb (suc k) 0 (λ z. omega (arith, z)), e)

  skip-out : (bytes o : List ℕ) (k u : ℕ) → ((all (from_named name o k u) bytes).out ≡ (all (from_named name o 0 u) (drop k bytes)).out) × ((all (from_named name o k u) bytes).used ≡ (all (from_named name o 0 u) (drop k bytes)).used)
  unfolding all
  skip-out [] o zero u = (refl, refl)
  skip-out [] o (suc k) u = (refl, refl)
  skip-out (b ∷ bs) o zero u = (refl, refl)
  skip-out (b ∷ bs) o (suc k) u =
      let h = skip-out bs o k u in
      let e : all (one (from_named name o (suc k) u) b) bs ≡ all (from_named name o k u) bs = ap (λ (x : State). all x bs) (skip-one o k u b) in
      (ap (λ (x : State). x.out) e ∙ h.0, ap (λ (x : State). x.used) e ∙ h.1)

  -- ---- bytes that are stored behind p, where q stands

  set-seam : (p : List ℕ) (y : ℕ) (q : List ℕ) (b : ℕ) → set (p ++ (y ∷ q)) (length p) b ≡ (p ++ (b ∷ [])) ++ q
  set-seam [] y q b = refl
  set-seam (x ∷ p) y q b = ap (λ (l : List ℕ). x ∷ l) (set-seam p y q b)

  store-one : (p : List ℕ) (y : ℕ) (q : List ℕ) (b : ℕ) → one (from_named name (p ++ (y ∷ q)) 0 (length p)) b ≡ from_named name ((p ++ (b ∷ [])) ++ q) 0 (length (p ++ (b ∷ [])))
  unfolding one
  store-one p y q b =
      let l : length (p ++ (y ∷ q)) ≡ length p + suc (length q) = length-append p (y ∷ q) in
      let m : length (p ++ (b ∷ [])) ≡ length p + 1 = length-append p (b ∷ []) in
      rw (lt-ltb (length p) (length (p ++ (y ∷ q))) (omega arith), set-seam p y q b, m)

  full-one : (p : List ℕ) (b : ℕ) → one (from_named name (p ++ []) 0 (length p)) b ≡ from_named name (p ++ []) 0 (length p)
  unfolding one
  full-one p b =
      let l : length (p ++ []) ≡ length p + 0 = length-append p [] in
      rw (le-ltb (length p) (length (p ++ [])) (omega arith))

  abbrev Holds : List ℕ → List ℕ → List ℕ → Type 0
  Holds p q bytes =
      ((all (from_named name (p ++ q) 0 (length p)) bytes).out ≡ p ++ front (take (length q) bytes) q) × ((all (from_named name (p ++ q) 0 (length p)) bytes).used ≡ length p + length (take (length q) bytes))

  full : (bytes p : List ℕ) → Holds p [] bytes
  unfolding all
  full [] p = (refl, omega arith)
  full (b ∷ bs) p =
      let h = full bs p in
      let e : all (one (from_named name (p ++ []) 0 (length p)) b) bs ≡ all (from_named name (p ++ []) 0 (length p)) bs = ap (λ (x : State). all x bs) (full-one p b) in
      (ap (λ (x : State). x.out) e ∙ h.0, ap (λ (x : State). x.used) e ∙ h.1)

  fill-out : (bytes p q : List ℕ) → Holds p q bytes
  unfolding all
  fill-out bytes p [] = full bytes p
  fill-out [] p (y ∷ q) = (refl, omega arith)
  fill-out (b ∷ bs) p (y ∷ q) =
      let h = fill-out bs (p ++ (b ∷ [])) q in
      let m : length (p ++ (b ∷ [])) ≡ length p + 1 = length-append p (b ∷ []) in
      let e : length (p ++ (b ∷ [])) + length (take (length q) bs) ≡ length p + suc (length (take (length q) bs)) = omega arith in
      let f : all (one (from_named name (p ++ (y ∷ q)) 0 (length p)) b) bs ≡ all (from_named name ((p ++ (b ∷ [])) ++ q) 0 (length (p ++ (b ∷ [])))) bs = ap (λ (x : State). all x bs) (store-one p y q b) in
      (ap (λ (x : State). x.out) f ∙ h.0 ∙ append_assoc p (b ∷ []) (front (take (length q) bs) q), ap (λ (x : State). x.used) f ∙ h.1 ∙ e)

  -- ---- the whole

  pub window : (o bytes : List ℕ) (at : ℕ) (y : State) → Took (from_named name o at 0) bytes y
      → (y.used ≡ length (piece at (length o) bytes)) × (y.out ≡ front (piece at (length o) bytes) o)
  window o bytes at y t =
      let k = skip-out bytes o at 0 in
      let f = fill-out (drop at bytes) [] o in
      (ap (λ (x : State). x.used) t ∙ k.1 ∙ f.1 ∙ zero-add (length (piece at (length o) bytes)), ap (λ (x : State). x.out) t ∙ k.0 ∙ f.0)
