-- Texts put into a buffer one behind the other; digits written from the right.
use mathlib.Core.Path.{◌≡◌, sym, ap, ◌∙◌}
use mathlib.Core.List.{List, ◌++◌, append_assoc}
use Prim.Native.Nat.{ℕ, suc, ◌+◌, ◌-◌, ◌/◌, ◌%◌, ◌^◌, ◌≤◌, ◌<◌}
use native.Mathlib.Nat.{div-one, pow-zero, sub-zero}
use native.Mathlib.Omega.{arith}
use lib.ListN.{length, take, drop, set, length-append}
use lib.Seq.{take-append_seam, drop-append-add, drop-drop, drop-length}
use Rattle.lists.proofs.Lists.{drop-set}
use Rattle.lists.proofs.Part.{in_whole, mid-length}
use Rattle.value.proofs.Digits.{next_place}
use Rattle.text.specs.Text.{front}
use Rattle.value.specs.Digits.{digit_text}
use Rattle.text.specs.Shown.{placed}
use Rattle.value.proofs.Digits.{length-digit_text}

-- a text behind another at the front
pub placed-front : (s t out : List ℕ) → placed (length s) t (front s out) ≡ front (s ++ t) out
placed-front s t out =
    rw (take-append_seam s (drop (length s) out), drop-append-add s (drop (length s) out) (length t), drop-drop (length t) (length s) out, length-append s t, append_assoc)

-- digits in a part that was lent
pub digits-placed : (at n v : ℕ) (xs last : List ℕ) → at + n ≤ length xs → last ≡ digit_text (length (take (at + n - at) (drop at xs))) v
    → take at xs ++ (last ++ drop (at + n - at) (drop at xs)) ≡ placed at (digit_text n v) xs
digits-placed at n v xs last h e =
    rw (e, mid-length at n xs h) (in_whole at n xs (digit_text n v))
    ∙ ap (λ (k : ℕ). take at xs ++ (digit_text n v ++ drop (at + k) xs)) (sym (length-digit_text n v))

-- ---- digits from the right: from i on they stand in a part of n bytes, and rest is what is left of the number

pub record Spelt (part : List ℕ) (n v i rest : ℕ) : Type 0 where
  pub tail : drop i part ≡ digit_text (n - i) v
  pub left : rest ≡ v / 10 ^ (n - i)

pub spelt-none : (part : List ℕ) (v : ℕ) → Spelt part (length part) v (length part) v
spelt-none part v =
    let e : length part - length part ≡ 0 = omega arith in
    record { tail = rw e (drop-length part); left = rw (e, pow-zero, div-one) }

pub spelt-more : (part : List ℕ) (n v i rest d rest' : ℕ) → 0 < i → i ≤ n → length part ≡ n → d ≡ rest % 10 → rest' ≡ rest / 10 → Spelt part n v i rest
    → Spelt (set part (i - 1) (48 + d)) n v (i - 1) rest'
spelt-more part n v i rest d rest' h k l p q r =
    let e : n - (i - 1) ≡ suc (n - i) = omega arith in
    let s : suc (i - 1) ≡ i = omega arith in
    record {
      tail = rw (e, p, drop-set part (i - 1) (48 + rest % 10) (omega arith), s, r.tail, r.left);
      left = rw (e, q, r.left, next_place);
    }

pub spelt-all : (part : List ℕ) (n v i rest : ℕ) → i ≡ 0 → Spelt part n v i rest → part ≡ digit_text n v
spelt-all part n v i rest e r =
    ap (λ (k : ℕ). drop k part) (sym e) ∙ r.tail ∙ ap (λ (k : ℕ). digit_text (n - k) v) e ∙ ap (λ (k : ℕ). digit_text k v) (sub-zero n)
