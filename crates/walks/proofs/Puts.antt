-- Puts in ascending order are all held by the buffer on which they are done.
use mathlib.Core.Path.{◌≡◌, refl, sym, ap, ◌∙◌}
use mathlib.Core.List.{List, [], ◌∷◌, ◌++◌}
use Prim.Native.Nat.{ℕ, ◌+◌, ◌≤◌, max}
use native.Mathlib.Omega.{arith}
use lib.ListN.{length, take, drop, length-append, length-take, length-drop}
use lib.Seq.{length-take-le, take_at, drop_at, take-take}
use Rattle.lists.proofs.Part.{drop-take}
use Rattle.walks.specs.Writing.{Put, reach, lay, apply}

-- ascending from a position on
abbrev pub Asc : ℕ → List Put → Type 0
Asc lo [] = Unit {0}
Asc lo (p ∷ ps) = (lo ≤ p.at) × Asc (p.at + length p.bs) ps

-- a record holds the bytes of puts
abbrev pub Held : List ℕ → List Put → Type 0
Held r [] = Unit {0}
Held r (p ∷ ps) = (p.at + length p.bs ≤ length r) × (take (length p.bs) (drop p.at r) ≡ p.bs) × Held r ps

pub asc-from : {lo lo' : ℕ} (ps : List Put) → lo' ≤ lo → Asc lo ps → Asc lo' ps
asc-from [] h a = tt
asc-from (p ∷ ps) h a = (omega (arith, a.0), a.1)

pub asc-append : (lo mid : ℕ) (ps qs : List Put) → lo ≤ mid → reach ps ≤ mid → Asc lo ps → Asc mid qs → Asc lo (ps ++ qs)
asc-append lo mid [] qs h f a b = asc-from qs h b
asc-append lo mid (p ∷ ps) qs h f a b = (a.0, asc-append (p.at + length p.bs) mid ps qs (omega arith) (omega arith) a.1 b)

pub reach-append : (ps qs : List Put) → reach (ps ++ qs) ≡ max (reach ps) (reach qs)
reach-append [] qs = omega arith
reach-append (p ∷ ps) qs = omega (arith, reach-append ps qs)

pub held-left : (r : List ℕ) (ps qs : List Put) → Held r (ps ++ qs) → Held r ps
held-left r [] qs h = tt
held-left r (p ∷ ps) qs h = (h.0, h.1, held-left r ps qs h.2)

pub held-right : (r : List ℕ) (ps qs : List Put) → Held r (ps ++ qs) → Held r qs
held-right r [] qs h = h
held-right r (p ∷ ps) qs h = held-right r ps qs h.2

fronts : (p n m : ℕ) (r s : List ℕ) → p + n ≤ m → take m r ≡ take m s → take n (drop p r) ≡ take n (drop p s)
fronts p n m r s h e =
    sym (drop-take p n r) ∙ ap (drop p) (sym (take-take (p + n) m r h) ∙ ap (take (p + n)) e ∙ take-take (p + n) m s h) ∙ drop-take p n s

-- what holds puts up to their reach is the front
pub held-front : (m : ℕ) (r s : List ℕ) (ps : List Put) → take m r ≡ take m s → m ≤ length s → reach ps ≤ m → Held r ps → Held s ps
held-front m r s [] e l f h = tt
held-front m r s (p ∷ ps) e l f h =
    (omega arith, fronts p.at (length p.bs) m s r (omega arith) (sym e) ∙ h.1, held-front m r s ps e l (omega arith) h.2)

lay-length : (buf : List ℕ) (at : ℕ) (bs : List ℕ) → at + length bs ≤ length buf → length (lay buf at bs) ≡ length buf
lay-length buf at bs h = simp (length-append, length-take, length-drop) (omega arith)

lay-front : (buf : List ℕ) (at : ℕ) (bs : List ℕ) → at + length bs ≤ length buf → take at (lay buf at bs) ≡ take at buf
lay-front buf at bs h = take_at (take at buf) (bs ++ drop (at + length bs) buf) at (length-take-le at buf (omega arith))

lay-held : (buf : List ℕ) (at : ℕ) (bs : List ℕ) → at + length bs ≤ length buf → take (length bs) (drop at (lay buf at bs)) ≡ bs
lay-held buf at bs h =
    ap (take (length bs)) (drop_at (take at buf) (bs ++ drop (at + length bs) buf) at (length-take-le at buf (omega arith)))
    ∙ take_at bs (drop (at + length bs) buf) (length bs) refl

pub apply-length : (ps : List Put) (buf : List ℕ) → reach ps ≤ length buf → length (apply ps buf) ≡ length buf
apply-length [] buf h = refl
apply-length (p ∷ ps) buf h =
    let l : length (lay buf p.at p.bs) ≡ length buf = lay-length buf p.at p.bs (omega arith) in
    apply-length ps (lay buf p.at p.bs) (omega arith) ∙ l

-- puts change nothing in front of the first
apply-front : (lo : ℕ) (ps : List Put) (buf : List ℕ) → Asc lo ps → reach ps ≤ length buf → take lo (apply ps buf) ≡ take lo buf
apply-front lo [] buf a h = refl
apply-front lo (p ∷ ps) buf a h =
    let l : length (lay buf p.at p.bs) ≡ length buf = lay-length buf p.at p.bs (omega arith) in
    apply-front lo ps (lay buf p.at p.bs) (asc-from ps (omega (arith, a.0)) a.1) (omega arith)
    ∙ sym (take-take lo p.at (lay buf p.at p.bs) a.0) ∙ ap (take lo) (lay-front buf p.at p.bs (omega arith)) ∙ take-take lo p.at buf a.0

pub apply-held : (lo : ℕ) (ps : List Put) (buf : List ℕ) → Asc lo ps → reach ps ≤ length buf → Held (apply ps buf) ps
apply-held lo [] buf a h = tt
apply-held lo (p ∷ ps) buf a h =
    let l : length (lay buf p.at p.bs) ≡ length buf = lay-length buf p.at p.bs (omega arith) in (
      omega (arith, apply-length ps (lay buf p.at p.bs) (omega arith)),
      fronts p.at (length p.bs) (p.at + length p.bs) (apply ps (lay buf p.at p.bs)) (lay buf p.at p.bs) (omega arith)
          (apply-front (p.at + length p.bs) ps (lay buf p.at p.bs) a.1 (omega arith))
          ∙ lay-held buf p.at p.bs (omega arith),
      apply-held (p.at + length p.bs) ps (lay buf p.at p.bs) a.1 (omega arith),
    )
