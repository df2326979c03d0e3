-- A record in a buffer of zeros, and bytes put behind it.
use mathlib.Core.Path.{◌≡◌, sym, ap, ap₂, ◌∙◌}
use mathlib.Core.List.{List, ◌++◌, append_assoc}
use Prim.Native.Nat.{ℕ, ◌+◌, ◌-◌, ◌≤◌}
use native.Mathlib.Omega.{arith}
use lib.ListN.{length, take, drop, replicate, length-append}
use lib.Seq.{take_at, drop-append-add}
use Rattle.lists.proofs.Lists.{drop-replicate}
use Rattle.walks.specs.Records.{filled}

-- a buffer that holds a list and zeros behind it is as long as the list at least
pub fits-room : (n : ℕ) (r bs : List ℕ) → r ≡ filled n bs → length r ≡ n → length bs ≤ n
fits-room n r bs p q =
    let a : length (filled n bs) ≡ length bs + length (replicate {A = ℕ} (n - length bs) 0) = length-append bs (replicate (n - length bs) 0) in
    let b : length r ≡ length (filled n bs) = ap (λ l. length l) p in
    omega arith

-- ---- a record, zeros, and the bytes put behind the record

module _ (n : ℕ) (bs more : List ℕ) where
  abbrev pub Stood : List ℕ
  Stood = bs ++ take (n - length bs) more

  module _ (r : List ℕ) (at end : ℕ) (p : r ≡ filled n bs) (long : length r ≡ n) (q : at ≡ length bs) (e : end ≡ at + length (take (length r - at) more)) where
    end-at : end ≡ length bs + length (take (n - length bs) more)
    end-at = e ∙ ap₂ (λ a k. a + length (take (k - a) more)) q long

    whole : length Stood ≡ end
    whole = length-append bs (take (n - length bs) more) ∙ sym end-at

    pub stood : take at r ++ (take (length r - at) more ++ drop end r) ≡ filled n Stood
    stood =
        let m : ℕ = length (take (n - length bs) more) in
        let a : take at r ≡ bs = ap (take at) p ∙ take_at bs (replicate (n - length bs) 0) at (sym q) in
        let d : drop end r ≡ replicate (n - length bs - m) 0 = ap₂ drop end-at p ∙ drop-append-add bs (replicate (n - length bs) 0) m ∙ drop-replicate m (n - length bs) 0 in
        let z : n - length bs - m ≡ n - length Stood = omega (arith, whole, end-at) in
        ap₂ (λ x y. x ++ (take (length r - at) more ++ y)) a d ∙ ap₂ (λ k i. bs ++ (take (k - i) more ++ replicate (n - length bs - m) 0)) long q
        ∙ sym (append_assoc bs (take (n - length bs) more) (replicate (n - length bs - m) 0)) ∙ ap (λ i. Stood ++ replicate i 0) z

    pub front : (r' : List ℕ) → r' ≡ take at r ++ (take (length r - at) more ++ drop end r) → take end r' ≡ Stood
    front r' w = ap (take end) (w ∙ stood) ∙ take_at Stood (replicate (n - length Stood) 0) end whole
