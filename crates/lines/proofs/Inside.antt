-- A value that was found lies in the text, behind its word and before the line's 0x0A.
use mathlib.Core.Path.{◌≡◌, refl, sym, ap, ◌∙◌, subst}
use mathlib.Core.Bool.{Bool, true, false, not, ◌&&◌, cond}
use mathlib.Core.List.{List, [], ◌∷◌}
use Prim.Native.Nat.{ℕ, zero, suc, ◌+◌, ◌-◌, ◌≤◌, ◌<◌}
use native.Mathlib.Nat.{not-suc-le-zero, le_of_suc-le-suc, suc-sub-suc, sub-zero}
use native.Mathlib.Omega.{arith}
use lib.ListN.{length, take, drop, length-drop}
use lib.Seq.{drop-drop}
use borrow.Author.Tests.{ltb-true}
use Rattle.lists.specs.Scan.{before_by, every_by}
use Rattle.lines.specs.Lines.{place, is_end, line_from, ends_in, starts_with, value_at}
use Rattle.value.specs.Answer.{refused, given}
use Rattle.lines.proofs.Laws.{starts-long}

before-take : (f : ℕ → Bool) (s : List ℕ) → take (length (before_by f s)) s ≡ before_by f s
unfolding before_by
before-take f [] = refl
before-take f (x ∷ s) = by (f x) (before-take f s)
  where
    by : (t : Bool) → take (length (before_by f s)) s ≡ before_by f s → take (length (cond t [] (x ∷ before_by f s))) (x ∷ s) ≡ cond t [] (x ∷ before_by f s)
    by true e = refl
    by false e = ap (λ (l : List ℕ). x ∷ l) e

take-drop : (w l : ℕ) (s : List ℕ) → w ≤ l → take (l - w) (drop w s) ≡ drop w (take l s)
take-drop zero l s h = ap (λ (n : ℕ). take n s) (sub-zero l)
take-drop (suc w) zero s h = absurd (not-suc-le-zero h)
take-drop (suc w) (suc l) [] h = nothing (suc l - suc w)
  where
    nothing : (n : ℕ) → ◌≡◌ {A = List ℕ} (take n []) []
    nothing zero = refl
    nothing (suc n) = refl
take-drop (suc w) (suc l) (x ∷ s) h = ap (λ (n : ℕ). take n (drop w s)) (suc-sub-suc l w) ∙ take-drop w l s (le_of_suc-le-suc h)

-- where the value and the next line stand, and the value's bytes
pub record Inside (word text : List ℕ) (at a e n : ℕ) : Type 0 where
  pub start : a ≡ at + length word
  pub order : a ≤ e
  pub inside : e < length text
  pub next : n ≡ e + 1
  pub bytes : take (e - a) (drop a text) ≡ drop (length word) (line_from text at)

found : (word text : List ℕ) (at : ℕ) → ends_in text at ≡ true → starts_with word (line_from text at) ≡ true
    → Inside word text at (at + length word) (at + length (line_from text at)) (at + length (line_from text at) + 1)
found word text at p q =
    let w = length word in
    let l = length (line_from text at) in
    let h : w ≤ l = starts-long word (line_from text at) q in
    let k : l < length (drop at text) = ltb-true l (length (drop at text)) p in
    let d : length (drop at text) ≡ length text - at = length-drop at text in
    let m : at + l - (at + w) ≡ l - w = omega arith in
    record {
      start = refl;
      order = omega arith;
      inside = omega arith;
      next = refl;
      bytes =
          ap (λ (n : ℕ). take n (drop (at + w) text)) m ∙ ap (take (l - w)) (sym (drop-drop w at text)) ∙ take-drop w l (drop at text) h
          ∙ ap (drop w) (before-take is_end (drop at text));
    }

pub value-inside : (word text : List ℕ) (at a e n : ℕ) → given (place a e n) ≡ value_at word text at → Inside word text at a e n
unfolding value_at
value-inside word text at a e n h = by (ends_in text at) (starts_with word (line_from text at)) refl refl h
  where
    by : (p q : Bool) → ends_in text at ≡ p → starts_with word (line_from text at) ≡ q
        → given (place a e n) ≡ cond (p && q) (given (place (at + length word) (at + length (line_from text at)) (at + length (line_from text at) + 1))) (refused 17) → Inside word text at a e n
    by true true p q r =
        let x : at + length word ≡ a = cc in
        let y : at + length (line_from text at) ≡ e = cc in
        let z : at + length (line_from text at) + 1 ≡ n = cc in
        subst (λ (a : ℕ). Inside word text at a e n) x
        (subst (λ (e : ℕ). Inside word text at (at + length word) e n) y
        (subst (λ (n : ℕ). Inside word text at (at + length word) (at + length (line_from text at)) n) z (found word text at p q)))
    by true false p q r = let z : ◌≡◌ {A = ℕ} 0 1 = cc in absurd (omega arith)
    by false q p s r = let z : ◌≡◌ {A = ℕ} 0 1 = cc in absurd (omega arith)

-- no byte of a line is 0x0A
before-every : (s : List ℕ) → every_by (λ x. not (is_end x)) (before_by is_end s) ≡ true
unfolding before_by every_by
before-every [] = refl
before-every (x ∷ s) = by (is_end x) refl (before-every s)
  where
    by : (t : Bool) → is_end x ≡ t → every_by (λ x. not (is_end x)) (before_by is_end s) ≡ true → every_by (λ x. not (is_end x)) (cond t [] (x ∷ before_by is_end s)) ≡ true
    by true q e = refl
    by false q e = rw q e

pub no_end : (text : List ℕ) (at : ℕ) → every_by (λ x. not (is_end x)) (line_from text at) ≡ true
no_end text at = before-every (drop at text)
