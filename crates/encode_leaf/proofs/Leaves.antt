-- One scalar or Pad, judged and put into its stretch of the record.
use mathlib.Core.Path.{◌≡◌, refl, sym, ap, ap₂, ◌∙◌}
use mathlib.Core.Bool.{Bool, true, false, cond}
use mathlib.Core.List.{List, ◌++◌}
use Prim.Native.Nat.{ℕ, ◌+◌, ◌-◌, ◌<◌}
use native.Mathlib.Omega.{arith}
use native.Mathlib.Numerals.{add-one}
use lib.Dec.{eqb, leb}
use lib.ListN.{length, take, drop}
use borrow.Author.Tests.{ne_eqb, eqb-true, eqb-false}
use Rattle.lists.proofs.Part.{in_whole}
use Rattle.layout.specs.declared.Entry.{Entry}
use Rattle.items.specs.declared.Item.{Item}
use Rattle.value.specs.declared.Scalar.{Scalar}
use Rattle.encode_scalar.specs.Encode.{judged_of, bytes_of, number_judged, number_bytes, part_after}
use Rattle.encode_scalar.proofs.Parts.{whole}
use Rattle.walks.specs.Walk.{bytes}
use Rattle.walks.specs.Kinds.{mask_of, enc}
use Rattle.items.specs.Items.{text_of, scalar_in}
use Rattle.encode_leaf.specs.Laying.{refused, laid, coded, leaf}
use Rattle.encode_leaf.specs.Machine.{codec, putting, put_width, masking, mask_for, judged, outside, bytes_in}
use Rattle.encode_leaf.proofs.Widths.{by_kind, wide}

-- ---- the same at the width that is put, and without a mask that no question and no byte looks at

module _ (p q r s : ℕ) (mask : List ℕ) (page w tag : ℕ) (v : Scalar) (t : List ℕ) where
  other-judged : (kind : ℕ) → 8 < kind → judged_of kind p q r s (masking kind mask) (putting kind w) tag v t ≡ judged_of kind p q r s mask w tag v t
  unfolding judged_of number_judged
  other-judged kind k =
      rw (
        ne_eqb kind 0 (λ e. omega arith),
        ne_eqb kind 1 (λ e. omega arith),
        ne_eqb kind 2 (λ e. omega arith),
        ne_eqb kind 3 (λ e. omega arith),
        ne_eqb kind 4 (λ e. omega arith),
        ne_eqb kind 5 (λ e. omega arith),
        ne_eqb kind 6 (λ e. omega arith),
        ne_eqb kind 7 (λ e. omega arith),
        ne_eqb kind 8 (λ e. omega arith),
      ) refl

  other-bytes : (kind : ℕ) → 8 < kind → bytes_of kind p q r (masking kind mask) page (putting kind w) v t ≡ bytes_of kind p q r mask page w v t
  unfolding bytes_of number_bytes
  other-bytes kind k =
      rw (
        ne_eqb kind 0 (λ e. omega arith),
        ne_eqb kind 1 (λ e. omega arith),
        ne_eqb kind 2 (λ e. omega arith),
        ne_eqb kind 3 (λ e. omega arith),
        ne_eqb kind 4 (λ e. omega arith),
        ne_eqb kind 5 (λ e. omega arith),
        ne_eqb kind 6 (λ e. omega arith),
        ne_eqb kind 7 (λ e. omega arith),
        ne_eqb kind 8 (λ e. omega arith),
      ) refl

  same-judged : (kind : ℕ) → judged_of kind p q r s (masking kind mask) (putting kind w) tag v t ≡ judged_of kind p q r s mask w tag v t
  unfolding judged_of number_judged
  same-judged = by_kind (λ kind. judged_of kind p q r s (masking kind mask) (putting kind w) tag v t ≡ judged_of kind p q r s mask w tag v t) refl refl refl refl refl refl refl refl refl other-judged

  same_bytes : (kind : ℕ) → bytes_of kind p q r (masking kind mask) page (putting kind w) v t ≡ bytes_of kind p q r mask page w v t
  unfolding bytes_of number_bytes
  same_bytes = by_kind (λ kind. bytes_of kind p q r (masking kind mask) page (putting kind w) v t ≡ bytes_of kind p q r mask page w v t) refl refl refl refl refl refl refl refl refl other-bytes

-- ---- judging, and putting what was judged

pub bytes-long : (masks : List ℕ) (page : ℕ) (text : List ℕ) (e : Entry) (it : Item) → judged masks text e it ≡ 0 → length (bytes_in masks page text e it) ≡ put_width e
bytes-long masks page text e it j = wide e.p e.q e.r e.s (mask_of masks e) page e.width it.tag (scalar_in it) (text_of text it) e.kind j

module _ (masks text : List ℕ) (page : ℕ) (e : Entry) (it : Item) where
  -- by an entry's own words, at its width and with its mask
  pub judged_there : judged_of e.kind e.p e.q e.r e.s (mask_for masks e) (put_width e) it.tag (scalar_in it) (text_of text it) ≡ judged masks text e it
  judged_there = same-judged e.p e.q e.r e.s (mask_of masks e) 0 e.width it.tag (scalar_in it) (text_of text it) e.kind

  pub bytes_there : bytes_of e.kind e.p e.q e.r (mask_for masks e) page (put_width e) (scalar_in it) (text_of text it) ≡ bytes_in masks page text e it
  bytes_there = same_bytes e.p e.q e.r e.s (mask_of masks e) page e.width it.tag (scalar_in it) (text_of text it) e.kind

  pub put_there : (part : List ℕ) → length part ≡ put_width e
      → part_after (judged masks text e it) (bytes_in masks page text e it) part ≡ cond (eqb (judged masks text e it) 0) (bytes_in masks page text e it) part
  put_there part w = go (eqb (judged masks text e it) 0) refl
    where
      go : (z : Bool) → eqb (judged masks text e it) 0 ≡ z → part_after (judged masks text e it) (bytes_in masks page text e it) part ≡ cond z (bytes_in masks page text e it) part
      go false z = rw z refl
      go true z =
          let j : judged masks text e it ≡ 0 = eqb-true (judged masks text e it) 0 z in
          ap (λ n. part_after n (bytes_in masks page text e it) part) j ∙ sym (whole (bytes_in masks page text e it) part (bytes-long masks page text e it j ∙ sym w))

-- ---- the whole leaf

module _ (masks text : List ℕ) (page : ℕ) (e : Entry) (it : Item) (at : ℕ) (b : List ℕ) (room : ℕ) where
  pub leaf-unfit : (n : ℕ) → n ≡ judged masks text e it → (n ≡ 0 → ⊥) → leaf (codec masks page text) room e it at b ≡ refused n
  unfolding leaf enc
  leaf-unfit n j h = rw (← j, ne_eqb n 0 h) refl

  leaf-coded : judged masks text e it ≡ 0 → leaf (codec masks page text) room e it at b ≡ coded room e.width at b (bytes (bytes_in masks page text e it))
  unfolding leaf enc
  leaf-coded j = rw j refl

  module _ (width r : ℕ) (w : width ≡ put_width e) (q : r ≡ room) (t : Bool) (p : t ≡ leb (at + width) r) where
    long : judged masks text e it ≡ 0 → length (bytes_in masks page text e it) ≡ width
    long j = bytes-long masks page text e it j ∙ sym w

    test : (x : Bool) → t ≡ x → leb (at + width) room ≡ x
    test x f = ap (leb (at + width)) (sym q) ∙ sym p ∙ f

    pub leaf-out : t ≡ false → leaf (codec masks page text) room e it at b ≡ refused (outside (judged masks text e it))
    leaf-out f = go (eqb (judged masks text e it) 0) refl
      where
        go : (x : Bool) → eqb (judged masks text e it) 0 ≡ x → leaf (codec masks page text) room e it at b ≡ refused (cond x 16 (judged masks text e it))
        go true k = let j : judged masks text e it ≡ 0 = eqb-true (judged masks text e it) 0 k in leaf-coded j ∙ rw (long j, test false f) refl
        go false k = leaf-unfit (judged masks text e it) refl (eqb-false (judged masks text e it) 0 k)

    pub leaf-put : t ≡ true → 0 ≡ judged masks text e it → (ys : List ℕ) → ys ≡ bytes_in masks page text e it
        → laid (take at b ++ (ys ++ drop (at + width - at) (drop at b))) (at + width + 1) e.width ≡ leaf (codec masks page text) room e it at b
    leaf-put f j ys y = sym (leaf-coded (sym j) ∙ rw (long (sym j), test true f)
        (ap₂ (λ c k. laid c k e.width) (sym (in_whole at width b (bytes_in masks page text e it)) ∙ ap (λ l. take at b ++ (l ++ drop (at + width - at) (drop at b))) (sym y)) (sym (add-one (at + width)))))

-- the bytes of a Pad are the same for every item
pub leaf-pad : (masks text : List ℕ) (page room : ℕ) (e : Entry) (it other : Item) (at : ℕ) (b : List ℕ) → e.kind ≡ 6
    → leaf (codec masks page text) room e it at b ≡ leaf (codec masks page text) room e other at b
unfolding leaf enc judged_of bytes_of
leaf-pad masks text page room e it other at b h = rw h refl
