-- A call that is accepted passed its questions one by one, and the test over a whole list is the test of each of its values, by induction on where the value stands.
use mathlib.Core.Path.{◌≡◌, refl, ap, ◌∙◌}
use mathlib.Core.Bool.{Bool, true, false}
use mathlib.Core.List.{List}
use Prim.Native.Nat.{ℕ}
use native.Mathlib.Omega.{arith}
use lib.Dec.{eqb}
use borrow.Author.Tests.{eqb-true, eqb-false}
use Rattle.items.specs.Items.{Values, head_of, lookup}
use Rattle.spans.specs.Tree.{none, node}
use Rattle.lists.proofs.Logic.{and_left, and_right, and}
use Rattle.walks.specs.Records.{asking, Decoded, number_of, items_of, texts_of, Encoded, refused, refusal_of}
use Rattle.walks.proofs.Asked.{asking-none}
use Rattle.convert.specs.Same.{same_value, all_kept}
use Rattle.convert.specs.Calls.{listed, kept_in, back_asks, wrote, back, rewritten, read, convert_record}
use Rattle.convert.specs.Accepted.{Stands, here, later, AcceptedExactly, WritersOwn}

-- ---- questions

passed : (n : ℕ) (x : Encoded) → refusal_of (asking refused n x) ≡ 0 → (n ≡ 0) × (refusal_of x ≡ 0)
passed n x e = go (eqb n 0) refl
  where
    go : (t : Bool) → eqb n 0 ≡ t → (n ≡ 0) × (refusal_of x ≡ 0)
    go true h = (eqb-true n 0 h, (rw h at e))
    go false h = absurd (eqb-false n 0 h (rw h at e))

module _ (a b c : ℕ) (w : Encoded) where
  three-passed : refusal_of (asking refused a (asking refused b (asking refused c w))) ≡ 0 → (a ≡ 0) × ((b ≡ 0) × (c ≡ 0))
  three-passed e =
      let f : (a ≡ 0) × (refusal_of (asking refused b (asking refused c w)) ≡ 0) = passed a (asking refused b (asking refused c w)) e in
      let g : (b ≡ 0) × (refusal_of (asking refused c w) ≡ 0) = passed b (asking refused c w) f.1 in
      (f.0, (g.0, (passed c w g.1).0))

  three-pass : a ≡ 0 → b ≡ 0 → c ≡ 0 → asking refused a (asking refused b (asking refused c w)) ≡ w
  three-pass p q r = asking-none refused (asking refused b (asking refused c w)) a p ∙ asking-none refused (asking refused c w) b q ∙ asking-none refused w c r

back-passed : (n : ℕ) (kept : Bool) → back_asks n kept ≡ 0 → (n ≡ 0) × (kept ≡ true)
back-passed n kept e = go (eqb n 0) refl (eqb n 16) refl kept refl
  where
    go : (s : Bool) → eqb n 0 ≡ s → (t : Bool) → eqb n 16 ≡ t → (k : Bool) → kept ≡ k → (n ≡ 0) × (kept ≡ true)
    go true p t q true h = (eqb-true n 0 p, h)
    go true p t q false h = let z : ◌≡◌ {A = ℕ} 20 0 = rw (p, h) at e in absurd (omega arith)
    go false p true q k h = let z : ◌≡◌ {A = ℕ} 16 0 = rw (p, q) at e in absurd (omega arith)
    go false p false q k h = let z : ◌≡◌ {A = ℕ} 20 0 = rw (p, q) at e in absurd (omega arith)

back_passes : (n : ℕ) (kept : Bool) → n ≡ 0 → kept ≡ true → back_asks n kept ≡ 0
back_passes n kept z k = rw (z, k)

-- ---- every value

module _ (t u : List ℕ) (old : Values) where
  one_kept : {v new : Values} → Stands v new → all_kept t u old new ≡ true → same_value t u (lookup (head_of v).name old) v ≡ true
  unfolding all_kept
  one_kept (here {x} {ms} {r}) k = and_left (same_value t u (lookup x.name old) (node x ms r)) (all_kept t u old r) k
  one_kept (later {v} {x} {ms} {r} s) k = one_kept s (and_right (same_value t u (lookup x.name old) (node x ms r)) (all_kept t u old r) k)

  each-kept : (new : Values) → ((v : Values) → Stands v new → same_value t u (lookup (head_of v).name old) v ≡ true) → all_kept t u old new ≡ true
  unfolding all_kept
  each-kept none h = refl
  each-kept (node x ms r) h = and (h (node x ms r) here) (each-kept r (λ v s. h v (later s)))

-- ---- the call

module _ (old old_masks : List ℕ) (old_page : ℕ) (r new new_masks : List ℕ) (new_page room items text back_items back_text work : ℕ) where
  abbrev A : Decoded
  A = read old old_masks old_page r new new_masks new_page room items text back_items back_text work

  abbrev W : Encoded
  W = wrote new new_masks new_page (items_of A) (texts_of A) room back_items back_text work

  abbrev B : Decoded
  B = back new new_masks new_page (items_of A) (texts_of A) room back_items back_text work

  abbrev asked : ℕ
  asked = back_asks (number_of B) (kept_in (items_of A) (texts_of A) B)

  all-passed : refusal_of (convert_record old old_masks old_page r new new_masks new_page room items text back_items back_text work) ≡ 0 → (number_of A ≡ 0) × ((refusal_of W ≡ 0) × (asked ≡ 0))
  unfolding convert_record rewritten
  all-passed e = three-passed (number_of A) (refusal_of W) asked W e

  all_pass : number_of A ≡ 0 → refusal_of W ≡ 0 → asked ≡ 0 → convert_record old old_masks old_page r new new_masks new_page room items text back_items back_text work ≡ W
  unfolding convert_record rewritten
  all_pass p q k = three-pass (number_of A) (refusal_of W) asked W p q k

  pub accepted-exactly : AcceptedExactly old old_masks old_page r new new_masks new_page room items text back_items back_text work
  accepted-exactly = (
    (λ e.
        let f : (number_of A ≡ 0) × ((refusal_of W ≡ 0) × (asked ≡ 0)) = all-passed e in
        let g : (number_of B ≡ 0) × (kept_in (items_of A) (texts_of A) B ≡ true) = back-passed (number_of B) (kept_in (items_of A) (texts_of A) B) f.1.1 in
        (f.0, (f.1.0, (g.0, (λ v s. one_kept (texts_of A) (texts_of B) (listed (items_of A)) s g.1))))
        ),
    (λ h. ap refusal_of (all_pass h.0 h.1.0 (back_passes (number_of B) (kept_in (items_of A) (texts_of A) B) h.1.1.0 (each-kept (texts_of A) (texts_of B) (listed (items_of A)) (listed (items_of B)) h.1.1.1))) ∙ h.1.0),
  )

  pub writers-own : WritersOwn old old_masks old_page r new new_masks new_page room items text back_items back_text work
  writers-own e =
      let f : (number_of A ≡ 0) × ((refusal_of W ≡ 0) × (asked ≡ 0)) = all-passed e in
      all_pass f.0 f.1.0 f.1.1
