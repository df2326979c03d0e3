-- The run of counts stands for the list of the counts set: a name's two words stand at its first entry.
use mathlib.Core.Path.{◌≡◌, refl, sym, ap, ◌∙◌}
use mathlib.Core.Bool.{Bool, true, false, ◌&&◌, cond}
use mathlib.Core.List.{List, [], ◌∷◌}
use Prim.Native.Nat.{ℕ, zero, suc, ◌+◌, ◌*◌, ◌<◌, ◌≤◌, min, ◌^◌, ◌-◌}
use native.Mathlib.Omega.{arith}
use lib.Dec.{eqb, ltb}
use lib.IntN.{ℤ, pos}
use lib.ListN.{length, get_or, set, replicate, length-set, length-replicate}
use lib.Seq.{get_or-set_same, get_or-set_other}
use borrow.Author.Tests.{eqb-true, eqb-false}
use Rattle.layout.specs.Layout.{entry_count}
use Rattle.walks.specs.Walk.{never, times}
use Rattle.walks.specs.Kinds.{Count, look}
use Rattle.decode_leaf.specs.Counts.{nat_of, first_in, first, status_of, set_in, many_of, held_in}

-- ---- the first entry of a name

module _ (l : List ℕ) where
  found_in : (n name i : ℕ) → first_in n l name i < i + n → get_or l (first_in n l name i * 12) 0 ≡ name
  unfolding first_in
  found_in zero name i h = absurd (omega arith)
  found_in (suc n) name i h = go (eqb (get_or l (i * 12) 0) name) refl h (λ k. found_in n name (suc i) k)
    where
      go : (b : Bool) → eqb (get_or l (i * 12) 0) name ≡ b → cond b i (first_in n l name (suc i)) < i + suc n
          → (first_in n l name (suc i) < suc i + n → get_or l (first_in n l name (suc i) * 12) 0 ≡ name) → get_or l (cond b i (first_in n l name (suc i)) * 12) 0 ≡ name
      go true e k ih = eqb-true (get_or l (i * 12) 0) name e
      go false e k ih = ih (omega arith)

  some_in : (n name i j : ℕ) → i ≤ j → j < i + n → get_or l (j * 12) 0 ≡ name → first_in n l name i < i + n
  unfolding first_in
  some_in zero name i j a b e = absurd (omega arith)
  some_in (suc n) name i j a b e = go (eqb (get_or l (i * 12) 0) name) refl (λ k. some_in n name (suc i) j k (omega arith) e)
    where
      go : (c : Bool) → eqb (get_or l (i * 12) 0) name ≡ c → (suc i ≤ j → first_in n l name (suc i) < suc i + n) → cond c i (first_in n l name (suc i)) < i + suc n
      go true q ih = omega arith
      go false q ih = let d : i ≡ j → ⊥ = (λ z. eqb-false (get_or l (i * 12) 0) name q (ap (λ m. get_or l (m * 12) 0) z ∙ e)) in let g : suc i ≤ j = omega arith in omega (arith, ih g)

  -- names at one place are one name
  pub first_one : (a b : ℕ) → first l a < entry_count l → first l a ≡ first l b → a ≡ b
  unfolding first
  first_one a b h e =
      sym (found_in (entry_count l) a 0 (omega arith)) ∙ ap (λ m. get_or l (m * 12) 0) e ∙ found_in (entry_count l) b 0 (omega arith)

  -- each entry's name has a first entry
  pub first_some : (i name : ℕ) → i < entry_count l → get_or l (i * 12) 0 ≡ name → first l name < entry_count l
  unfolding first
  first_some i name h e = omega (arith, some_in (entry_count l) name 0 i (omega arith) (omega arith) e)

-- ---- the run

pub record Stands (l : List ℕ) (cs : List Count) (run : List ℤ) : Type 0 where
  pub long : entry_count l * 2 ≤ length run
  pub same : (name : ℕ) → held_in l name run ≡ look cs name

zeros-at : (n i : ℕ) → get_or (replicate n (pos 0)) i (pos 0) ≡ pos 0
zeros-at zero i = refl
zeros-at (suc n) zero = refl
zeros-at (suc n) (suc i) = zeros-at n i

pub stands-none : (l : List ℕ) (n : ℕ) → entry_count l * 2 ≤ n → Stands l [] (replicate n (pos 0))
unfolding look held_in
stands-none l n h = record { long = omega (arith, length-replicate n (pos 0)); same = λ name. rw (zeros-at n (first l name * 2)) refl }

module _ (l : List ℕ) (cs : List Count) (run : List ℤ) (name : ℕ) (negative : Bool) (size : ℕ) (found : first l name < entry_count l)
    (small : (negative && ltb 0 size) ≡ false → size < 2 ^ 63) (s : Stands l cs run) where
  abbrev Mid : List ℤ
  Mid = set run (first l name * 2) (pos (status_of negative size))

  mid-long : length Mid ≡ length run
  mid-long = length-set run (first l name * 2) (pos (status_of negative size))

  first_word : get_or (set Mid (first l name * 2 + 1) (pos (min (2 ^ 63 - 1) size))) (first l name * 2) (pos 0) ≡ pos (status_of negative size)
  first_word = get_or-set_other Mid (first l name * 2 + 1) (first l name * 2) (pos (min (2 ^ 63 - 1) size)) (pos 0) (λ z. omega (arith, z))
      ∙ get_or-set_same run (first l name * 2) (pos (status_of negative size)) (pos 0) (omega (arith, s.long, found))

  second_word : get_or (set Mid (first l name * 2 + 1) (pos (min (2 ^ 63 - 1) size))) (first l name * 2 + 1) (pos 0) ≡ pos (min (2 ^ 63 - 1) size)
  second_word = get_or-set_same Mid (first l name * 2 + 1) (pos (min (2 ^ 63 - 1) size)) (pos 0) (omega (arith, s.long, found, mid-long))

  told : many_of (status_of negative size) (min (2 ^ 63 - 1) size) ≡ cond (negative && ltb 0 size) (never 6) (times size)
  told = go (negative && ltb 0 size) refl
    where
      go : (b : Bool) → (negative && ltb 0 size) ≡ b → many_of (cond b 2 1) (min (2 ^ 63 - 1) size) ≡ cond b (never 6) (times size)
      go true e = refl
      go false e = let z : min (2 ^ 63 - 1) size ≡ size = omega (arith, small e) in ap times z

  abbrev New : List Count
  New = record { name = name; negative = negative; size = size } ∷ cs

  pub stands_set : Stands l New (set_in l name negative size run)
  unfolding set_in look held_in
  stands_set = record {
    long = omega (arith, s.long, mid-long, length-set Mid (first l name * 2 + 1) (pos (min (2 ^ 63 - 1) size)));
    same = λ n. go n (eqb name n) refl;
  }
    where
      end : List ℤ
      end = set Mid (first l name * 2 + 1) (pos (min (2 ^ 63 - 1) size))

      go : (n : ℕ) (b : Bool) → eqb name n ≡ b
          → many_of (nat_of (get_or (set Mid (first l name * 2 + 1) (pos (min (2 ^ 63 - 1) size))) (first l n * 2) (pos 0))) (nat_of (get_or (set Mid (first l name * 2 + 1) (pos (min (2 ^ 63 - 1) size))) (first l n * 2 + 1) (pos 0)))
          ≡ cond b (cond (negative && ltb 0 size) (never 6) (times size)) (look cs n)
      go n true e = rw (← eqb-true name n e, first_word, second_word) told
      go n false e =
          let d : first l name ≡ first l n → ⊥ = (λ z. eqb-false name n e (first_one l name n found z)) in
          let w : get_or (set Mid (first l name * 2 + 1) (pos (min (2 ^ 63 - 1) size))) (first l n * 2) (pos 0) ≡ get_or run (first l n * 2) (pos 0)
          = get_or-set_other Mid (first l name * 2 + 1) (first l n * 2) (pos (min (2 ^ 63 - 1) size)) (pos 0) (λ z. omega (arith, z))
          ∙ get_or-set_other run (first l name * 2) (first l n * 2) (pos (status_of negative size)) (pos 0) (λ z. d (omega (arith, z))) in
          let v : get_or (set Mid (first l name * 2 + 1) (pos (min (2 ^ 63 - 1) size))) (first l n * 2 + 1) (pos 0) ≡ get_or run (first l n * 2 + 1) (pos 0)
          = get_or-set_other Mid (first l name * 2 + 1) (first l n * 2 + 1) (pos (min (2 ^ 63 - 1) size)) (pos 0) (λ z. d (omega (arith, z)))
          ∙ get_or-set_other run (first l name * 2) (first l n * 2 + 1) (pos (status_of negative size)) (pos 0) (λ z. omega (arith, z)) in
          rw (w, v) (s.same n)
