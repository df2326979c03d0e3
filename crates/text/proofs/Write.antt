-- What the writing functions leave is what the definitions say.
use mathlib.Core.Path.{◌≡◌, refl, sym, ap, ◌∙◌, subst}
use mathlib.Core.Bool.{true, false, cond}
use mathlib.Core.Logic.{◌⊎◌, inl, inr}
use Rattle.std.proofs.lemmas.Bool.{cases_lt}
use borrow.Author.Tests.{lt-leb}
use lib.Dec.{leb}
use mathlib.Core.List.{List, [], ◌∷◌, ◌++◌, map, append-nil}
use Prim.Native.Nat.{ℕ, ◌-◌, ◌≤◌, ◌<◌}
use native.Mathlib.Nat.{le_refl, le_of_eq}
use native.Mathlib.Omega.{arith}
use lib.ListN.{length, take, drop, replicate, length-replicate, length-map, drop_of_length-le}
use lib.Seq.{take_all}
use Rattle.lists.proofs.Lists.{map-append, map-replicate, take-replicate, drop-replicate}
use Rattle.ebcdic.specs.Ebcdic.{onto_page, copied}
use Rattle.text.specs.Text.{written, padded}

-- a text that is not refused at a width has room
pub room-told : (m n : ℕ) → ◌≡◌ {A = ℕ} 0 (cond (leb m n) 0 14) → m ≤ n
room-told m n e = go (cases_lt n m)
  where
    go : (n < m) ⊎ (m ≤ n) → m ≤ n
    go (inr h) = h
    go (inl h) = let z : ◌≡◌ {A = ℕ} 0 14 = rw (lt-leb m n h) at e in absurd (omega arith)

-- a copy that has room
pub copied_all : (f : ℕ → ℕ) (s out : List ℕ) → length s ≤ length out → copied f s out ≡ map f s ++ drop (length s) out
copied_all f s out h =
    ap (λ (l : List ℕ). l ++ drop (length s) out) (take_all (length out) (map f s) (subst (λ (n : ℕ). n ≤ length out) (sym (length-map s f)) h))

module _ (page : ℕ) (text : List ℕ) (pad n : ℕ) (h : length text ≤ n) where
  abbrev g : ℕ → ℕ
  g = onto_page page

  left-written : (fl cp : List ℕ) → fl ≡ padded page pad n → cp ≡ copied g text fl → cp ≡ written page false pad n text
  unfolding written
  left-written fl cp e q =
      let l : length text ≤ length fl = rw (e, length-replicate) h in
      q ∙ copied_all g text fl l ∙ rw (e, drop-replicate, map-append, map-replicate)

  right-core : (gap k : ℕ) → k ≡ length text → gap ≡ n - length text
      → take gap (replicate n (g pad)) ++ (copied g text (take k (drop gap (replicate n (g pad)))) ++ drop k (drop gap (replicate n (g pad))))
      ≡ map g (replicate (n - length text) pad ++ text)
  right-core gap k p q =
      let gle : gap ≤ n = omega arith in
      let nk : n - gap ≡ k = omega arith in
      let kk : k - k ≡ 0 = omega arith in
      let all : take k (map g text) ≡ map g text = take_all k (map g text) (le_of_eq (length-map text g ∙ sym p)) in
      rw (map-append, map-replicate, ← q, ← p, take-replicate gap n (g pad) gle, drop-replicate gap n (g pad), nk, take-replicate k k (g pad) (le_refl k), drop-replicate k k (g pad), kk, length-replicate, all, append-nil (map g text ++ replicate 0 (g pad)), append-nil (map g text))

  pub right-written : (fl cp : List ℕ) → fl ≡ padded page pad n
      → cp ≡ copied g text (take (length fl - (length fl - length text)) (drop (length fl - length text) fl))
      → take (length fl - length text) fl ++ (cp ++ drop (length fl - (length fl - length text)) (drop (length fl - length text) fl)) ≡ written page true pad n text
  unfolding written
  right-written fl cp e q =
      rw (q, e) (right-core (length (replicate n (g pad)) - length text) (length (replicate n (g pad)) - (length (replicate n (g pad)) - length text)) (rw length-replicate (omega arith)) (rw length-replicate refl))

  -- the same where the text starts at 0
  pub left-from-start : (fl cp : List ℕ) → fl ≡ padded page pad n → cp ≡ copied g text (take (length fl - 0) (drop 0 fl))
      → take 0 fl ++ (cp ++ drop (length fl - 0) (drop 0 fl)) ≡ written page false pad n text
  left-from-start fl cp e q =
      let z : length fl - 0 ≡ length fl = omega arith in
      let whole : take (length fl) fl ≡ fl = take_all (length fl) fl (le_refl (length fl)) in
      let none : drop (length fl) fl ≡ [] = drop_of_length-le fl (le_refl (length fl)) in
      rw (z, none, append-nil) (left-written fl cp e (rw (z, whole) at q))

-- page 0 leaves a text as it is
pub ascii-page : (s : List ℕ) → map (onto_page 0) s ≡ s
unfolding onto_page
ascii-page [] = refl
ascii-page (x ∷ s) = ap (λ (l : List ℕ). x ∷ l) (ascii-page s)
