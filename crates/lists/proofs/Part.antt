-- A part of a list that was lent: what the whole is after the part has changed; and the place of a part of a slice.
use mathlib.Core.Path.{◌≡◌, sym, ap, ◌∙◌}
use mathlib.Core.Bool.{Bool, true, false, cond}
use mathlib.Core.List.{List, [], ◌∷◌, ◌++◌}
use Prim.Native.Nat.{ℕ, zero, suc, ◌+◌, ◌-◌, ◌≤◌}
use native.Mathlib.Omega.{arith}
use native.Mathlib.Nat.{zero-add, suc-add}
use lib.ListN.{length, take, drop, length-drop}
use lib.Seq.{take-nil, drop-drop, length-take-le}
use denote.Ref.{Bor}
use borrow.Rule.Slice.PartMut.{put_same}
use Rattle.lists.specs.Part.{place_in}

pub in_whole : (at w : ℕ) (xs ys : List ℕ) → take at xs ++ (ys ++ drop (at + w - at) (drop at xs)) ≡ take at xs ++ (ys ++ drop (at + w) xs)
in_whole at w xs ys =
    let e : at + (at + w - at) ≡ at + w = omega arith in
    ap (λ (l : List ℕ). take at xs ++ (ys ++ l)) (drop-drop (at + w - at) at xs ∙ ap (λ (n : ℕ). drop n xs) e)

pub mid-length : (at w : ℕ) (xs : List ℕ) → at + w ≤ length xs → length (take (at + w - at) (drop at xs)) ≡ w
mid-length at w xs h =
    let d : length (drop at xs) ≡ length xs - at = length-drop at xs in
    length-take-le (at + w - at) (drop at xs) (omega arith) ∙ omega arith

-- a callee's choice between new bytes for the part and the part as it was, in the whole
pub lift : (b : Bool) (at w : ℕ) (xs new last : List ℕ) → last ≡ cond b new (take (at + w - at) (drop at xs))
    → take at xs ++ (last ++ drop (at + w - at) (drop at xs)) ≡ cond b (take at xs ++ (new ++ drop (at + w) xs)) xs
lift true at w xs new last e = rw e (in_whole at w xs new)
lift false at w xs new last e = rw e (put_same at (at + w - at) xs)

-- behind the first p of p + n elements
pub drop-take : {A : Type 0} (p n : ℕ) (l : List A) → drop p (take (p + n) l) ≡ take n (drop p l)
drop-take zero n l = ap (λ k. take k l) (zero-add n)
drop-take (suc p) n [] = rw (suc-add p n) (sym (take-nil n))
drop-take (suc p) n (x ∷ l) = rw (suc-add p n) (drop-take p n l)

-- ---- the start of a slice, and of a part of a part

pub place-zero : (x : Bor (List ℕ)) → x.ref_ptr ≡ place_in x 0
place-zero x = λ i. (x.ref_ptr.0, sym (zero-add x.ref_ptr.1) i)

pub place-add : (x : Bor (List ℕ)) (a k : ℕ) → ◌≡◌ {A = ℕ × ℕ} (x.ref_ptr.0, k + (a + x.ref_ptr.1)) (place_in x (a + k))
place-add x a k =
    let e : k + (a + x.ref_ptr.1) ≡ a + k + x.ref_ptr.1 = omega arith in
    λ i. (x.ref_ptr.0, e i)
