-- A scalar's text, piece by piece; 24 bytes hold any.
use mathlib.Core.Path.{◌≡◌, sym, ap, ◌∙◌, subst}
use mathlib.Core.Bool.{Bool, true, false, ◌&&◌, cond}
use mathlib.Core.List.{List, [], ◌∷◌, ◌++◌, append_assoc}
use Prim.Native.Nat.{ℕ, suc, ◌+◌, ◌-◌, ◌*◌, ◌/◌, ◌^◌, ◌≤◌, ◌<◌}
use native.Mathlib.Nat.{div-lt_iff_lt-mul, lt_of_lt_of_le}
use native.Mathlib.Omega.{arith}
use borrow.Author.Tests.{ne_eqb, eq-eqb}
use lib.Dec.{ltb, lit≤}
use lib.ListN.{length, length-append}
use lib.Pow.{pow-add}
use Rattle.value.specs.Word.{power_ten}
use Rattle.value.proofs.Digits.{pow-pos10}
use Rattle.value.proofs.Word.{power-is}
use Rattle.text.specs.Text.{front}
use Rattle.value.specs.Digits.{digit_text}
use Rattle.text.specs.Shown.{digit_count, whole_text, minus_text, int_text, decimal_text, placed}
use Rattle.value.proofs.Digits.{length-digit_text}
use Rattle.text.proofs.Count.{count-below}
use Rattle.text.proofs.Places.{placed-front}

-- ---- one piece more

pub length_more : (s t : List ℕ) (at r : ℕ) → at ≡ length s → r ≡ at + length t → r ≡ length (s ++ t)
length_more s t at r e q = q ∙ ap (λ (n : ℕ). n + length t) e ∙ sym (length-append s t)

pub front-more : (s t out last fin : List ℕ) (at : ℕ) → at ≡ length s → last ≡ front s out → fin ≡ placed at t last → fin ≡ front (s ++ t) out
front-more s t out last fin at e q r =
    r ∙ ap (λ (n : ℕ). placed n t last) e ∙ ap (placed (length s) t) q ∙ placed-front s t out

-- ---- lengths

pub minus-short : (negative : Bool) (size at : ℕ) → at ≡ length (minus_text negative size) → at ≤ 1
minus-short negative size at e = subst (λ (n : ℕ). n ≤ 1) (sym e) (by (ltb 0 size && negative))
  where
    by : (t : Bool) → length {A = ℕ} (cond t (45 ∷ []) []) ≤ 1
    by true = omega arith
    by false = omega arith

pub whole-short : (size : ℕ) → size < 2 ^ 64 → length (whole_text size) ≤ 20
whole-short size f = subst (λ (n : ℕ). n ≤ 20) (sym (length-digit_text (digit_count size) size)) (count-below 19 size (lt_of_lt_of_le f (lit≤ tt)))

pub ten-pos : (scale p : ℕ) → scale ≤ 18 → p ≡ power_ten scale → 0 < p
ten-pos scale p h e = subst (λ (n : ℕ). 0 < n) (sym (e ∙ power-is scale (omega arith))) (pow-pos10 scale)

-- the whole part of a decimal and its scale have at most 20 digits together
pub parts-short : (size scale p : ℕ) → size < 2 ^ 64 → scale ≤ 18 → p ≡ power_ten scale → length (whole_text (size / p)) + scale ≤ 20
parts-short size scale p f h e =
    let q : p ≡ 10 ^ scale = e ∙ power-is scale (omega arith) in
    let s : suc (19 - scale) + scale ≡ 20 = omega arith in
    let w : 10 ^ suc (19 - scale) * 10 ^ scale ≡ 10 ^ 20 = sym (pow-add 10 (suc (19 - scale)) scale) ∙ ap (λ (n : ℕ). 10 ^ n) s in
    let b : size < 10 ^ suc (19 - scale) * 10 ^ scale = subst (λ (n : ℕ). size < n) (sym w) (lt_of_lt_of_le f (lit≤ tt)) in
    let d : size / 10 ^ scale < 10 ^ suc (19 - scale) = (div-lt_iff_lt-mul {k = 10 ^ scale} {x = size} {y = 10 ^ suc (19 - scale)} (pow-pos10 scale)).1 b in
    let c : digit_count (size / 10 ^ scale) ≤ suc (19 - scale) = count-below (19 - scale) (size / 10 ^ scale) d in
    rw (q, length-digit_text (digit_count (size / 10 ^ scale)) (size / 10 ^ scale)) (omega arith)

-- ---- decimals

pub decimal-int : (negative : Bool) (size scale : ℕ) → scale ≡ 0 → int_text negative size ≡ decimal_text negative size scale
unfolding decimal_text
decimal-int negative size scale e = rw (eq-eqb scale 0 e)

pub decimal-parts : (negative : Bool) (size scale p : ℕ) → (scale ≡ 0 → ⊥) → scale ≤ 18 → p ≡ power_ten scale
    → (minus_text negative size ++ whole_text (size / p)) ++ (46 ∷ digit_text scale size) ≡ decimal_text negative size scale
unfolding decimal_text
decimal-parts negative size scale p h k e =
    let q : p ≡ 10 ^ scale = e ∙ power-is scale (omega arith) in
    rw (ne_eqb scale 0 h, q) (append_assoc (minus_text negative size) (whole_text (size / 10 ^ scale)) (46 ∷ digit_text scale size))
