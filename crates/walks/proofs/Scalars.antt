-- A scalar item that fits an entry is written in as many bytes as the entry is wide, and read back; a Pad fills its width.
use mathlib.Core.Path.{◌≡◌, refl, sym, ap, ◌∙◌, subst}
use mathlib.Core.Bool.{Bool, true, false, cond, false≢true}
use mathlib.Core.List.{List, []}
use Prim.Native.Nat.{ℕ, ◌+◌, ◌%◌, ◌≤◌}
use native.Mathlib.Omega.{arith}
use lib.Dec.{eqb}
use lib.ListN.{length, take, drop, length-drop}
use lib.Seq.{length-take-le}
use borrow.Author.Tests.{le-leb, eqb-true, leb-true}
use Rattle.layout.specs.declared.Entry.{Entry}
use Rattle.items.specs.declared.Item.{Item}
use Rattle.items.specs.Items.{item_of, scalar_ok, text_of, scalar_in}
use Rattle.items.proofs.Words.{words_back}
use Rattle.value.specs.declared.Scalar.{Scalar}
use Rattle.value.specs.declared.Scalar.TheVariants.{Null, Text, Int, Decimal, Float as FloatV, FloatBits, Bool as BoolV}
use Rattle.value.specs.Scalar.{tag_of, scalar_of}
use Rattle.text.specs.Text.{padded}
use Rattle.text.proofs.Back.{padded-length}
use Rattle.decode_scalar.specs.Decode.{value, text}
use Rattle.encode_scalar.specs.Encode.{judged_of, bytes_of}
use Rattle.fits.specs.Fits.{said_of}
use Rattle.fits.proofs.Back.{Kept, field-kept}
use Rattle.fits.proofs.Length.{bytes-long}
use Rattle.walks.specs.Walk.{bytes, leaf}
use Rattle.layout.specs.Layout.{is_pad}
use Rattle.walks.specs.Kinds.{State, noted, said, mask_of, coded_of, enc, leaf_of, dec, kinds}
use Rattle.walks.specs.Fitting.{after, Good}
use Rattle.walks.proofs.Goes.{Law, PadLaw}

-- a scalar that is no Text says its value
said-value : (v : Scalar) (t : List ℕ) → eqb (tag_of v) 1 ≡ false → said_of v t ≡ value v
said-value Null t h = refl
said-value (Text a b) t h = absurd (false≢true (sym h))
said-value (Int negative size) t h = refl
said-value (Decimal negative size scale) t h = refl
said-value (FloatV x) t h = refl
said-value (FloatBits x) t h = refl
said-value (BoolV b) t h = refl

-- the scalar of tag 1
text-scalar : (it : Item) → it.tag ≡ 1 → scalar_in it ≡ Text it.a it.b
unfolding scalar_of
text-scalar it q = rw q refl

text-inside : (n : ℕ) (it : Item) → it.tag ≡ 1 → scalar_ok n it ≡ true → it.a + it.b ≤ n
unfolding scalar_ok
text-inside n it q h = leb-true (it.a + it.b) n (subst (λ (k : ℕ). scalar_ok n (record { name = it.name; tag = k; a = it.a; b = it.b }) ≡ true) q h)

module _ (masks : List ℕ) (page : ℕ) (source : List ℕ) (room₁ room : ℕ) (enough : length source ≤ room) where
  module _ (e : Entry) (it : Item) (s : State) (good : Good masks source e it s) where
    same : item_of it.name (scalar_in it) ≡ it
    same = words_back (length source) it good.lawful good.word

    same_tag : tag_of (scalar_in it) ≡ it.tag
    same_tag = ap (λ (x : Item). x.tag) same

    kept : Kept e.kind e.p e.q e.r e.s (mask_of masks e) page e.width (scalar_in it) (text_of source it)
    kept = field-kept e.p e.q e.r e.s (mask_of masks e) page e.width good.fits

    abbrev bs : List ℕ
    bs = bytes_of e.kind e.p e.q e.r (mask_of masks e) page e.width (scalar_in it) (text_of source it)

    coded : enc masks page source room₁ e it ≡ bytes bs
    unfolding enc
    coded = ap (λ (n : ℕ). coded_of (judged_of e.kind e.p e.q e.r e.s (mask_of masks e) e.width n (scalar_in it) (text_of source it)) bs) (sym same_tag)
        ∙ ap (λ (n : ℕ). coded_of n bs) kept.accepted

    text-leaf : (t : List ℕ) → length t ≡ it.b → it.a ≡ length s.text → it.a + it.b ≤ room
        → leaf_of masks page [] room e s (text t) ≡ leaf (Text it.a it.b) (said t s)
    text-leaf t long start fits = rw (le-leb (length s.text + length t) room (omega arith))
        (ap (λ (n : ℕ). leaf (Text n (length t)) (said t s)) (sym start) ∙ ap (λ (n : ℕ). leaf (Text it.a n) (said t s)) long)

    leafs : leaf_of masks page [] room e s (said_of (scalar_in it) (text_of source it)) ≡ leaf (scalar_in it) (after source e it s)
    leafs = go (eqb it.tag 1) refl
      where
        go : (b : Bool) → eqb it.tag 1 ≡ b → leaf_of masks page [] room e s (said_of (scalar_in it) (text_of source it)) ≡ leaf (scalar_in it) (after source e it s)
        go true q =
            let tag : it.tag ≡ 1 = eqb-true it.tag 1 q in
            let inside : it.a + it.b ≤ length source = text-inside (length source) it tag good.lawful in
            let start : it.a ≡ length s.text = good.packed tag in
            let long : length (take it.b (drop it.a source)) ≡ it.b = length-take-le it.b (drop it.a source) (omega (arith, length-drop it.a source)) in
            ap (λ (v : Scalar). leaf_of masks page [] room e s (said_of v (text_of source it))) (text-scalar it tag)
            ∙ text-leaf (text_of source it) (ap (λ (b : Bool). length (cond b (take it.b (drop it.a source)) [])) q ∙ long) start (omega arith)
            ∙ ap (λ (v : Scalar). leaf v (said (text_of source it) s)) (sym (text-scalar it tag))
            ∙ ap (λ (b : Bool). leaf (scalar_in it) (cond b (said (text_of source it) s) (noted e (scalar_in it) s))) (sym q)
        go false q =
            ap (leaf_of masks page [] room e s) (said-value (scalar_in it) (text_of source it) (ap (λ (n : ℕ). eqb n 1) same_tag ∙ q))
            ∙ ap (λ (b : Bool). leaf (scalar_in it) (cond b (said (text_of source it) s) (noted e (scalar_in it) s))) (sym q)

    decoded : dec masks page [] room e bs s ≡ leaf (scalar_in it) (after source e it s)
    unfolding dec
    decoded = ap (leaf_of masks page [] room e s) kept.said ∙ leafs

    pub scalar-law : Law (kinds masks page source room₁) (kinds masks page [] room) e it s (after source e it s)
    scalar-law = (bs, coded, bytes-long page good.fits, decoded, same)

  pub pad-law : PadLaw (kinds masks page source room₁)
  unfolding enc is_pad judged_of bytes_of
  pad-law e p it = (padded page (e.r % 256) e.width, rw (eqb-true e.kind 6 p) refl, padded-length page (e.r % 256) e.width)
