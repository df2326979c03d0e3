-- Writing a field changes only the bytes of its stretch.
use mathlib.Core.Path.{◌≡◌, refl, sym, ap, ◌∙◌, subst}
use mathlib.Core.List.{List, [], ◌∷◌, ◌++◌}
use Prim.Native.Nat.{ℕ, ◌+◌, ◌-◌, ◌≤◌}
use native.Mathlib.Omega.{arith}
use lib.ListN.{length, take, drop}
use lib.Seq.{take_at, drop_at, drop-drop, take-take, length-take-le}
use Rattle.layout.specs.Layout.{entry_at, part}
use Rattle.walks.specs.Writing.{Put, lay, apply, seq}
use Rattle.walks.proofs.Puts.{apply-length}
use Rattle.encode_leaf.specs.Machine.{codec}
use Rattle.encode.specs.Local.{Local}
use Rattle.encode.proofs.Spread.{Lies, In, field_in, seq_in}
use Rattle.encode.proofs.Fairly.{fair-at, fair-part}

-- a put changes nothing in front of it and nothing behind it
module _ (b : List ℕ) (at : ℕ) (bs : List ℕ) (h : at + length bs ≤ length b) where
  in-front : (lo : ℕ) → lo ≤ at → take lo (lay b at bs) ≡ take lo b
  in-front lo k =
      sym (take-take lo at (lay b at bs) k) ∙ ap (take lo) (take_at (take at b) (bs ++ drop (at + length bs) b) at (length-take-le at b (omega arith))) ∙ take-take lo at b k

  at-end : drop (at + length bs) (lay b at bs) ≡ drop (at + length bs) b
  at-end =
      sym (drop-drop (length bs) at (lay b at bs))
      ∙ ap (drop (length bs)) (drop_at (take at b) (bs ++ drop (at + length bs) b) at (length-take-le at b (omega arith)))
      ∙ drop_at bs (drop (at + length bs) b) (length bs) refl

  at_back : (hi : ℕ) → at + length bs ≤ hi → drop hi (lay b at bs) ≡ drop hi b
  at_back hi k =
      let z : hi ≡ at + length bs + (hi - (at + length bs)) = omega arith in
      ap (λ n. drop n (lay b at bs)) z ∙ sym (drop-drop (hi - (at + length bs)) (at + length bs) (lay b at bs)) ∙ ap (drop (hi - (at + length bs))) at-end
      ∙ drop-drop (hi - (at + length bs)) (at + length bs) b ∙ ap (λ n. drop n b) (sym z)

-- nor do puts that lie in a stretch
outside : (room lo hi : ℕ) (ps : List Put) (b : List ℕ) → Lies room lo hi ps → room ≤ length b → (take lo (apply ps b) ≡ take lo b) × (drop hi (apply ps b) ≡ drop hi b)
outside room lo hi [] b h k = (refl, refl)
outside room lo hi (p ∷ ps) b h k =
    let f : p.at + length p.bs ≤ length b = omega (arith, h.0.1.1) in
    let l : length (lay b p.at p.bs) ≡ length b = apply-length (p ∷ []) b (omega arith) in
    let r : (take lo (apply ps (lay b p.at p.bs)) ≡ take lo (lay b p.at p.bs)) × (drop hi (apply ps (lay b p.at p.bs)) ≡ drop hi (lay b p.at p.bs))
    = outside room lo hi ps (lay b p.at p.bs) h.1 (omega arith) in
    (r.0 ∙ in-front b p.at p.bs f lo h.0.0, r.1 ∙ at_back b p.at p.bs f hi h.0.1.0)

pub local : Local
local l masks page text h i lo hi k m room vs at ps taken e before long =
    outside room at (at + taken) ps before
    (subst (λ o. In room at o) e
    (field_in (codec masks page text) room (entry_at l i) (λ ms base. seq (codec masks page text) room (part l lo hi) ms base 0) (fair-at masks text page l h i k)
    (λ ms base. seq_in (codec masks page text) room (part l lo hi) (fair-part masks text page l h lo hi m) ms base 0) vs at)) long
