-- What the laws of the walk take of a layout that passed its questions.
use mathlib.Core.Path.{◌≡◌, refl, sym, ap, ◌∙◌}
use mathlib.Core.Bool.{Bool, true, false, cond, false≢true}
use mathlib.Core.List.{List, []}
use Prim.Native.Nat.{ℕ, zero, suc, ◌-◌, ◌≤◌, ◌<◌}
use native.Mathlib.Omega.{arith}
use lib.Dec.{eqb, leb, ltb}
use lib.ListN.{length}
use borrow.Author.Tests.{leb-true, eqb-true, ltb-true}
use Rattle.spans.specs.Tree.{none, node, end_of, tree_in, tree}
use Rattle.lists.proofs.Logic.{and_right}
use Rattle.layout.specs.declared.Entry.{Entry}
use Rattle.layout.specs.Layout.{entry_at, entry_count, span_of, part, plain_ok, bool_ok, kind_ok, entry_ok, checked_of}
use Rattle.layout.proofs.Lawful.{entry-lawful, kind-lawful, width-lawful, reserved-lawful}
use Rattle.items.specs.declared.Item.{Item}
use Rattle.walks.specs.Walk.{Coded, unfit, bytes}
use Rattle.walks.specs.Kinds.{enc}
use Rattle.encode_leaf.specs.Machine.{codec, put_width, judged, bytes_in}
use Rattle.encode_leaf.proofs.Leaves.{bytes-long}
use Rattle.encode.proofs.Spread.{Fair, AllFair}

bool-wide : (e : Entry) (masks : ℕ) → entry_ok e masks ≡ true → e.kind ≡ 5 → 1 ≤ e.width
unfolding kind_ok bool_ok
bool-wide e masks h k =
    leb-true 1 e.width (and_right (plain_ok e 0 0 0 0) (leb 1 e.width) (sym (ap (λ n. kind_ok n e masks) k) ∙ kind-lawful e masks h))

put-within : (e : Entry) (masks : ℕ) → entry_ok e masks ≡ true → put_width e ≤ e.width
put-within e masks h = by (eqb e.kind 5) refl (leb e.kind 8)
  where
    by : (a : Bool) → eqb e.kind 5 ≡ a → (b : Bool) → cond a 1 (cond b e.width 0) ≤ e.width
    by true q b = bool-wide e masks h (eqb-true e.kind 5 q)
    by false q true = omega arith
    by false q false = omega arith

abbrev fine : Coded → Bool
fine (unfit n) = false
fine (bytes bs) = true

abbrev bytes_of : Coded → List ℕ
bytes_of (unfit n) = []
bytes_of (bytes bs) = bs

module _ (masks text : List ℕ) (page : ℕ) where
  fair-entry : (e : Entry) → entry_ok e (length masks) ≡ true → Fair (codec masks page text) e
  unfolding enc
  fair-entry e h = record {
    reserved = reserved-lawful e (length masks) h;
    width = width-lawful e (length masks) h;
    within = λ it bs q. by it bs (eqb (judged masks text e it) 0) refl q;
  }
    where
      by : (it : Item) (bs : List ℕ) (b : Bool) → eqb (judged masks text e it) 0 ≡ b → cond b (bytes (bytes_in masks page text e it)) (unfit (judged masks text e it)) ≡ bytes bs → length bs ≤ e.width
      by it bs true u q =
          let l : length bs ≡ put_width e = ap length (sym (ap bytes_of q)) ∙ bytes-long masks page text e it (eqb-true (judged masks text e it) 0 u) in
          omega (arith, l, put-within e (length masks) h)
      by it bs false u q = absurd (false≢true (ap fine q))

  module _ (l : List ℕ) (h : checked_of l masks page ≡ 0) where
    pub fair-at : (i : ℕ) → i < entry_count l → Fair (codec masks page text) (entry_at l i)
    fair-at i k = fair-entry (entry_at l i) (entry-lawful l masks page h i k)

    fair-in : (f lo hi : ℕ) → hi ≤ entry_count l → AllFair (codec masks page text) (tree_in f (entry_at l) span_of lo hi)
    unfolding tree_in
    fair-in zero lo hi k = tt
    fair-in (suc f) lo hi k = go (ltb lo hi) refl (λ lo' hi'. fair-in f lo' hi')
      where
        go : (b : Bool) → ltb lo hi ≡ b → ((lo' hi' : ℕ) → hi' ≤ entry_count l → AllFair (codec masks page text) (tree_in f (entry_at l) span_of lo' hi'))
            → AllFair (codec masks page text) (cond b (node (entry_at l lo) (tree_in f (entry_at l) span_of (suc lo) (end_of (span_of (entry_at l lo)) lo hi)) (tree_in f (entry_at l) span_of (end_of (span_of (entry_at l lo)) lo hi) hi)) none)
        go true e ih = (
          fair-at lo (omega (arith, ltb-true lo hi e)),
          (ih (suc lo) (end_of (span_of (entry_at l lo)) lo hi) (omega arith), ih (end_of (span_of (entry_at l lo)) lo hi) hi k),
        )
        go false e ih = tt

    pub fair-part : (lo hi : ℕ) → hi ≤ entry_count l → AllFair (codec masks page text) (part l lo hi)
    unfolding tree
    fair-part lo hi k = fair-in (hi - lo) lo hi k
