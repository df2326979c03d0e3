-- How a writer from the right makes a text of digits; and a text whose last byte is stored by itself.
use mathlib.Core.Path.{◌≡◌, refl, ◌∙◌, ap}
use mathlib.Core.List.{List, [], ◌∷◌, ◌++◌, map}
use Prim.Native.Nat.{ℕ, suc, ◌+◌, ◌-◌, ◌/◌, ◌%◌, ◌^◌, ◌<◌, ◌≤◌}
use native.Mathlib.Nat.{div-one, pow-zero}
use native.Mathlib.Omega.{arith}
use lib.ListN.{length, take, drop, set, drop_of_length-le, length-map, length-drop, length-append}
use lib.Seq.{length-take-le}
use Rattle.value.specs.Digits.{digit_text}
use Rattle.value.proofs.Digits.{next_place, length-digit_text}
use Rattle.lists.proofs.Lists.{drop-set}

-- from i on a text of w digits is written, each as f of it; rest is what is left of the size
pub record Written (f : ℕ → ℕ) (l : List ℕ) (w size i rest : ℕ) : Type 0 where
  pub tail : drop i l ≡ map f (digit_text (w - i) size)
  pub left : rest ≡ size / 10 ^ (w - i)

pub written_none : (f : ℕ → ℕ) (l : List ℕ) (size : ℕ) → Written f l (length l) size (length l) size
written_none f l size =
    let e : length l - length l ≡ 0 = omega arith in
    record {
      tail = rw (e, drop_of_length-le l {i = length l} (omega arith));
      left = rw (e, pow-zero, div-one);
    }

pub written-more : (f : ℕ → ℕ) (l : List ℕ) (w size i rest b next : ℕ) → 0 < i → i ≤ w → length l ≡ w → Written f l w size i rest
    → b ≡ f (48 + rest % 10) → next ≡ rest / 10 → Written f (set l (i - 1) b) w size (i - 1) next
written-more f l w size i rest b next h m k r eb en =
    let e : w - (i - 1) ≡ suc (w - i) = omega arith in
    let s : suc (i - 1) ≡ i = omega arith in
    record {
      tail = rw (e, drop-set l (i - 1) b (omega arith), s, r.tail, eb, r.left);
      left = rw (e, en, r.left, next_place);
    }

pub written_all : (f : ℕ → ℕ) (l : List ℕ) (w size i rest : ℕ) → i ≡ 0 → Written f l w size i rest → l ≡ map f (digit_text w size)
written_all f l w size i rest z r = let e : w - 0 ≡ w = omega arith in rw (z, e) at r.tail

pub text-length : (f : ℕ → ℕ) (w size : ℕ) → length (map f (digit_text w size)) ≡ w
text-length f w size = length-map (digit_text w size) f ∙ length-digit_text w size

-- ---- all bytes but the last, lent

mid-is : (xs : List ℕ) → length (take (length xs - 1) xs) ≡ length xs - 1
mid-is xs = length-take-le (length xs - 1) xs (omega arith)

pub last-left : (xs : List ℕ) → 0 < length xs → length (drop (length xs - 1) xs) ≡ 1
last-left xs h = length-drop (length xs - 1) xs ∙ omega arith

pub last-piece : (f : ℕ → ℕ) (xs l : List ℕ) (size : ℕ) → l ≡ map f (digit_text (length (take (length xs - 1) xs)) size) → l ≡ map f (digit_text (length xs - 1) size)
last-piece f xs l size e = rw (mid-is xs) at e

pub last-all : (xs l : List ℕ) → 0 < length xs → length l ≡ length (take (length xs - 1) xs) → length xs - 1 < length (l ++ drop (length xs - 1) xs)
last-all xs l h e =
    let m = mid-is xs in
    let d = last-left xs h in
    let s : length (l ++ drop (length xs - 1) xs) ≡ length l + length (drop (length xs - 1) xs) = length-append l (drop (length xs - 1) xs) in
    omega arith

pub set-behind : (ys zs : List ℕ) (b k : ℕ) → k ≡ length ys → length zs ≡ 1 → set (ys ++ zs) k b ≡ ys ++ (b ∷ [])
set-behind ys zs b k e h = rw e (go ys)
  where
    one : (l : List ℕ) → length l ≡ 1 → set l 0 b ≡ b ∷ []
    one [] q = absurd (omega arith)
    one (x ∷ []) q = refl
    one (x ∷ y ∷ l) q = absurd (omega arith)

    go : (l : List ℕ) → set (l ++ zs) (length l) b ≡ l ++ (b ∷ [])
    go [] = one zs h
    go (x ∷ l) = ap (λ (t : List ℕ). x ∷ t) (go l)
