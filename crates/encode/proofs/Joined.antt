-- The writer of the loops does the puts of the plain one: what stops at 2^63 is past 65,536, where every byte is refused, and what is settled at once goes alike.
use mathlib.Core.Path.{◌≡◌, refl, sym, ap, ap₂, ◌∙◌, subst⁻¹}
use mathlib.Core.Bool.{Bool, true, false, ◌||◌, cond}
use mathlib.Core.List.{List, [], ◌∷◌, ◌++◌}
use mathlib.Core.Logic.{◌⊎◌, inl, inr}
use Prim.Native.Nat.{ℕ, zero, suc, ◌+◌, ◌-◌, ◌*◌, ◌<◌, ◌≤◌, max}
use native.Mathlib.Omega.{arith}
use native.Mathlib.Decide.{dec_lt}
use native.Mathlib.Nat.{zero-mul, suc-mul, add_comm, mul-zero}
use lib.Dec.{eqb, leb}
use lib.ListN.{length, take, drop, take-append-drop}
use borrow.Author.Tests.{lt-leb, eqb-true}
use Rattle.layout.specs.declared.Entry.{Entry}
use Rattle.layout.specs.Layout.{is_group, reserved_width, unrepeated}
use Rattle.spans.specs.Tree.{Tree, none, node}
use Rattle.items.specs.Items.{Values, head_of, members_of, rest_of, lookup}
use Rattle.walks.specs.Walk.{Coded, unfit, bytes, Codec}
use Rattle.walks.specs.Writing as W
use Rattle.walks.specs.Writing.{Put, reach, lay, apply, Wrote, wrote, Writer, table_length}
use Rattle.encode_leaf.specs.Laying as L
use Rattle.encode_leaf.specs.Laying.{Laid, laid, Layer, settled}
use Rattle.positions.specs.Positions.{sat}
use Rattle.encode.proofs.Spread.{Fair, AllFair, Lies, In, Keeps, one_in, seq_in}
use Rattle.encode.proofs.Alike.{Even, one-even, seq-even, repeated, bare, still}

-- ---- one more than the furthest end of puts, 0 for none

abbrev pub stretch : List Put → ℕ
stretch [] = 0
stretch (p ∷ ps) = max (suc (p.at + length p.bs)) (stretch ps)

stretch-append : (ps qs : List Put) → stretch (ps ++ qs) ≡ max (stretch ps) (stretch qs)
stretch-append [] qs = omega arith
stretch-append (p ∷ ps) qs = omega (arith, stretch-append ps qs)

pub stretch-reach : (ps : List Put) → stretch ps - 1 ≡ reach ps
stretch-reach [] = omega arith
stretch-reach (p ∷ ps) = omega (arith, stretch-reach ps)

stretch-none : (ps : List Put) → stretch ps ≡ 0 → ps ≡ []
stretch-none [] h = refl
stretch-none (p ∷ ps) h = absurd (omega (arith, h))

stretch-repeated : (n : ℕ) (ps : List Put) → stretch (ps ++ repeated n ps) ≡ stretch ps
stretch-repeated zero ps = stretch-append ps [] ∙ omega arith
stretch-repeated (suc n) ps =
    let a : stretch (ps ++ (ps ++ repeated n ps)) ≡ max (stretch ps) (stretch (ps ++ repeated n ps)) = stretch-append ps (ps ++ repeated n ps) in
    omega (arith, a, stretch-repeated n ps)

apply-append : (ps qs : List Put) (b : List ℕ) → apply (ps ++ qs) b ≡ apply qs (apply ps b)
apply-append [] qs b = refl
apply-append (p ∷ ps) qs b = apply-append ps qs (lay b p.at p.bs)

-- puts of no bytes change nothing
lay-none : (b : List ℕ) (at : ℕ) (bs : List ℕ) → length bs ≡ 0 → lay b at bs ≡ b
lay-none b at [] h = let z : at + 0 ≡ at = omega arith in ap (λ n. take at b ++ drop n b) z ∙ take-append-drop at b
lay-none b at (x ∷ bs) h = absurd (omega (arith, h))

empty-apply : (room at : ℕ) (ps : List Put) (b : List ℕ) → Lies room at (at + 0) ps → apply ps b ≡ b
empty-apply room at [] b h = refl
empty-apply room at (p ∷ ps) b h =
    ap (apply ps) (lay-none b p.at p.bs (omega (arith, h.0.0, h.0.1.0))) ∙ empty-apply room at ps b h.1

empty-repeated : (room at n : ℕ) (ps : List Put) (b : List ℕ) → Lies room at (at + 0) ps → apply (repeated n ps) b ≡ b
empty-repeated room at zero ps b h = refl
empty-repeated room at (suc n) ps b h =
    apply-append ps (repeated n ps) b ∙ ap (apply (repeated n ps)) (empty-apply room at ps b h) ∙ empty-repeated room at n ps b h

-- ---- sums and products that stop

sat-same : (x : ℕ) → x ≤ 9223372036854775808 → sat x ≡ x
sat-same x h = omega arith

sat-top : (x : ℕ) → 9223372036854775808 ≤ x → sat x ≡ 9223372036854775808
sat-top x h = omega arith

sat-far : (n x : ℕ) → n ≤ 9223372036854775808 → n ≤ x → n ≤ sat x
sat-far n x a h = omega arith

sat-sum : (x t : ℕ) → sat (sat x + sat t) ≡ sat (x + t)
sat-sum x t = omega arith

sat-most : (x y : ℕ) → max (sat x) (sat y) ≡ sat (max x y)
sat-most x y = omega arith

more : (n a x : ℕ) → n ≤ x → n ≤ a + x
more n a x h = omega arith

suc-times : (m x : ℕ) → 9223372036854775808 ≤ x → 9223372036854775808 ≤ suc m * x
suc-times m x h = rw (suc-mul m x) (more 9223372036854775808 (m * x) x h)

sat-times : (m t : ℕ) → sat (m * sat t) ≡ sat (m * t)
sat-times zero t = rw (zero-mul (sat t), zero-mul t) refl
sat-times (suc m) t = go (dec_lt 9223372036854775808 t)
  where
    go : Dec (9223372036854775808 < t) → sat (suc m * sat t) ≡ sat (suc m * t)
    go (yes h) = sat-top (suc m * sat t) (suc-times m (sat t) (omega arith)) ∙ sym (sat-top (suc m * t) (suc-times m t (omega arith)))
    go (no h) = ap (λ x. sat (suc m * x)) (sat-same t (omega arith))

-- the bytes of one element and n more
all-taken : (n t taken taken' : ℕ) → taken ≡ sat taken' → sat (taken + sat (suc n * sat t)) ≡ sat (taken' + (t + n * t))
all-taken n t taken taken' q =
    ap₂ (λ x y. sat (x + y)) q (sat-times (suc n) t ∙ ap sat (suc-mul n t ∙ add_comm (n * t) t)) ∙ sat-sum taken' (t + n * t)

-- ---- two positions: the same, or both too far

abbrev Pos : ℕ → ℕ → Type 0
Pos a a' = (a ≡ a') ⊎ ((65536 < a) × (65536 < a'))

-- a sum of a position and a number that stopped
pos_sum : (a a' t t' : ℕ) → Pos a a' → t ≡ sat t' → Pos (sat (a + t)) (a' + t')
pos_sum a a' t t' (inl p) q = go (dec_lt 9223372036854775808 (a' + t'))
  where
    far : Dec (9223372036854775808 < t') → 9223372036854775808 < a' + t' → 65536 < a + t
    far (yes h) k = let u : t ≡ 9223372036854775808 = q ∙ sat-top t' (omega arith) in omega arith
    far (no h) k = let u : t ≡ t' = q ∙ sat-same t' (omega arith) in omega arith

    go : Dec (9223372036854775808 < a' + t') → Pos (sat (a + t)) (a' + t')
    go (yes h) = inr (sat-far 65537 (a + t) (omega arith) (far (dec_lt 9223372036854775808 t') h), omega arith)
    go (no h) =
        let u : t ≡ t' = q ∙ sat-same t' (omega arith) in
        inl (ap₂ (λ x y. sat (x + y)) p u ∙ sat-same (a' + t') (omega arith))
pos_sum a a' t t' (inr p) q = inr (sat-far 65537 (a + t) (omega arith) (omega (arith, p.0)), omega (arith, p.1))

-- ---- what the loops do of what the plain walk yields

abbrev pub done : List ℕ → Wrote → Laid
done b (W.refused n) = L.refused n
done b (wrote ps t) = laid (apply ps b) (stretch ps) (sat t)

-- behind what was put, the bytes taken joined by g
abbrev did : (ℕ → ℕ) → ℕ → List ℕ → Wrote → Laid
did g past b (W.refused n) = L.refused n
did g past b (wrote ps t) = laid (apply ps b) (max past (stretch ps)) (g t)

did-done : (g : ℕ → ℕ) (b : List ℕ) (o : Wrote) → ((t : ℕ) → g t ≡ sat t) → did g 0 b o ≡ done b o
did-done g b (W.refused n) h = refl
did-done g b (wrote ps t) h = let z : max 0 (stretch ps) ≡ stretch ps = omega arith in ap₂ (laid (apply ps b)) z (h t)

done-cond : (b : List ℕ) (x : Bool) (o p : Wrote) → cond x (done b o) (done b p) ≡ done b (cond x o p)
done-cond b true o p = refl
done-cond b false o p = refl

joined : (ps qs : List Put) (past : ℕ) (b : List ℕ) (t t' : ℕ) → t ≡ t'
    → laid (apply qs (apply ps b)) (max (max past (stretch ps)) (stretch qs)) t ≡ laid (apply (ps ++ qs) b) (max past (stretch (ps ++ qs))) t'
joined ps qs past b t t' e =
    let m : max (max past (stretch ps)) (stretch qs) ≡ max past (stretch (ps ++ qs)) = omega (arith, stretch-append ps qs) in
    ap₂ (laid (apply qs (apply ps b))) m e ∙ ap (λ c. laid c (max past (stretch (ps ++ qs))) t') (sym (apply-append ps qs b))

abbrev Does : Layer → Writer → Type 0
Does f g = (vs : Values) (at at' : ℕ) (b : List ℕ) → Pos at at' → f vs at b ≡ done b (g vs at')

-- ---- one value

module _ (room : ℕ) (small : room ≤ 65536) where
  coded-same : (w at : ℕ) (b : List ℕ) (c : Coded) → w ≤ 65535 → L.coded room w at b c ≡ done b (W.coded room w at c)
  coded-same w at b (unfit n) h = refl
  coded-same w at b (bytes bs) h =
      let z : suc (at + length bs) ≡ max (suc (at + length bs)) 0 = omega arith in
      let y : w ≡ sat w = omega arith in
      ap (λ o. cond (leb (at + length bs) room) o (L.refused 16)) (ap₂ (laid (lay b at bs)) z y)
      ∙ done-cond b (leb (at + length bs) room) (wrote (record { at = at; bs = bs } ∷ []) w) (W.refused 16)

  coded-far : (w at at' : ℕ) (b : List ℕ) (c : Coded) → 65536 < at → 65536 < at' → L.coded room w at b c ≡ done b (W.coded room w at' c)
  coded-far w at at' b (unfit n) h k = refl
  coded-far w at at' b (bytes bs) h k = rw (lt-leb (at + length bs) room (omega arith), lt-leb (at' + length bs) room (omega arith)) refl

  coded-does : (w at at' : ℕ) (b : List ℕ) (c : Coded) → w ≤ 65535 → Pos at at' → L.coded room w at b c ≡ done b (W.coded room w at' c)
  coded-does w at at' b c h (inl p) = ap (λ a. L.coded room w a b c) p ∙ coded-same w at' b c h
  coded-does w at at' b c h (inr p) = coded-far w at at' b c p.0 p.1

  -- a List or Struct, or Null
  inside-does : (tag : ℕ) (f : Values → Laid) (g : Values → Wrote) (vs : Values) (b : List ℕ) → ((ms : Values) → f ms ≡ done b (g ms))
      → L.container tag f vs ≡ done b (cond (eqb (head_of vs).tag tag) (g (members_of vs)) (cond (eqb (head_of vs).tag 0) (g none) (W.refused 13)))
  unfolding L.container
  inside-does tag f g vs b h =
      rw (h (members_of vs), h none)
      (ap (λ o. cond (eqb (head_of vs).tag tag) (done b (g (members_of vs))) o) (done-cond b (eqb (head_of vs).tag 0) (g none) (W.refused 13))
      ∙ done-cond b (eqb (head_of vs).tag tag) (g (members_of vs)) (cond (eqb (head_of vs).tag 0) (g none) (W.refused 13)))

  one-does : {S : Type 0} (k : Codec S) (e : Entry) (f : Layer) (g : Writer) → e.width ≤ 65535 → Does f g → Does (L.one k room e f) (W.one k room e g)
  unfolding L.one W.one L.leaf
  one-does k e f g w h vs at at' b p =
      ap₂ (cond (is_group e)) (inside-does 7 (λ ms. f ms at b) (λ ms. g ms at') vs b (λ ms. h ms at at' b p)) (coded-does e.width at at' b (k.enc e (head_of vs)) w p)
      ∙ done-cond b (is_group e) _ (W.coded room e.width at' (k.enc e (head_of vs)))

  -- ---- the elements of a table

  module _ (f : Layer) (g : Writer) (does : Does f g) (even : Even g) (keeps : Keeps room g) where
    module _ (n : ℕ) (at at' taken taken' past : ℕ) (b : List ℕ) (p : Pos at at') (q : taken ≡ sat taken') where
      abbrev Rest : Values → Type 0
      Rest vs = (at at' taken taken' past : ℕ) (b : List ℕ) → Pos at at' → taken ≡ sat taken'
          → L.elements f n vs at taken past b ≡ did (λ t. sat (taken' + t)) past b (W.elements g n vs at')

      abbrev Whole : Values → List Put → ℕ → Laid
      Whole vs ps t = did (λ s. sat (taken' + s)) past b (W.then_element ps t (W.elements g n vs (at' + t)))

      goes : (vs : Values) (ps : List Put) (t : ℕ) → Rest vs → L.elements f n vs (sat (at + sat t)) (sat (taken + sat t)) (max past (stretch ps)) (apply ps b) ≡ Whole vs ps t
      goes vs ps t ih =
          ih (sat (at + sat t)) (at' + t) (sat (taken + sat t)) (taken' + t) (max past (stretch ps)) (apply ps b) (pos_sum at at' (sat t) t p refl)
          (ap (λ x. sat (x + sat t)) q ∙ sat-sum taken' t)
          ∙ fold (W.elements g n vs (at' + t))
        where
          fold : (o : Wrote) → did (λ s. sat (taken' + t + s)) (max past (stretch ps)) (apply ps b) o ≡ did (λ s. sat (taken' + s)) past b (W.then_element ps t o)
          fold (W.refused m) = refl
          fold (wrote qs u) = let z : sat (taken' + t + u) ≡ sat (taken' + (t + u)) = omega arith in joined ps qs past b _ _ z

      -- an element that put nothing, and all behind it
      settled-bare : (t : ℕ) → g none at' ≡ wrote [] t → laid b (max past 0) (sat (taken + sat (suc n * sat t))) ≡ Whole none [] t
      settled-bare t o =
          ap (laid b (max past 0)) (all-taken n t taken taken' q)
          ∙ ap (λ x. did (λ s. sat (taken' + s)) past b (W.then_element [] t x)) (sym (bare g even at' t o n (at' + t)))

      -- an element that took nothing, and all behind it
      settled-still : (ps : List Put) → g none at' ≡ wrote ps 0 → In room at' (wrote ps 0)
          → laid (apply ps b) (max past (stretch ps)) (sat (taken + sat (suc n * sat 0))) ≡ Whole none ps 0
      settled-still ps o lies =
          let z : at' + 0 ≡ at' = omega arith in
          let y : sat (suc n * sat 0) ≡ 0 = ap sat (mul-zero (suc n)) in
          let x : sat (taken + sat (suc n * sat 0)) ≡ sat (taken' + (0 + 0)) = ap₂ (λ a c. sat (a + c)) q y ∙ sat-sum taken' 0 in
          ap₂ (laid (apply ps b)) (ap (max past) (sym (stretch-repeated n ps))) x
          ∙ ap (λ c. laid c (max past (stretch (ps ++ repeated n ps))) (sat (taken' + (0 + 0))))
          (sym (apply-append ps (repeated n ps) b ∙ empty-repeated room at' n ps (apply ps b) lies))
          ∙ ap (λ w. did (λ s. sat (taken' + s)) past b (W.then_element ps 0 w)) (sym (ap (W.elements g n none) z ∙ still g at' ps o n))

      zero_of : (t : ℕ) → eqb (sat t) 0 ≡ true → t ≡ 0
      zero_of t h = omega (arith, eqb-true (sat t) 0 h)

      abbrev Settled : List Put → ℕ → Laid
      Settled ps t = laid (apply ps b) (max past (stretch ps)) (sat (taken + sat (suc n * sat t)))

      settles : (ps : List Put) (t : ℕ) → g none at' ≡ wrote ps t → In room at' (wrote ps t) → Rest none
          → cond (eqb (sat t) 0 || eqb (stretch ps) 0) (Settled ps t) (L.elements f n none (sat (at + sat t)) (sat (taken + sat t)) (max past (stretch ps)) (apply ps b)) ≡ Whole none ps t
      settles ps t o lies ih = go (eqb (sat t) 0) (eqb (stretch ps) 0) refl refl
        where
          go : (x y : Bool) → eqb (sat t) 0 ≡ x → eqb (stretch ps) 0 ≡ y
              → cond (x || y) (Settled ps t) (L.elements f n none (sat (at + sat t)) (sat (taken + sat t)) (max past (stretch ps)) (apply ps b)) ≡ Whole none ps t
          go true y u v =
              subst⁻¹ (λ s. g none at' ≡ wrote ps s → In room at' (wrote ps s) → Settled ps s ≡ Whole none ps s) (zero_of t u) (settled-still ps) o lies
          go false true u v =
              subst⁻¹ (λ qs. g none at' ≡ wrote qs t → Settled qs t ≡ Whole none qs t) (stretch-none ps (eqb-true (stretch ps) 0 v)) (settled-bare t) o
          go false false u v = goes none ps t ih

      element : (vs : Values) (o : Wrote) → g vs at' ≡ o → In room at' o → Rest (rest_of vs)
          → L.bind (done b o) (λ b' past' t. cond (settled vs past' t) (laid b' (max past past') (sat (taken + sat (suc n * t)))) (L.elements f n (rest_of vs) (sat (at + t)) (sat (taken + t)) (max past past') b'))
          ≡ did (λ t. sat (taken' + t)) past b (W.bind o (λ ps t. W.then_element ps t (W.elements g n (rest_of vs) (at' + t))))
      element vs (W.refused m) e lies ih = refl
      element none (wrote ps t) e lies ih = settles ps t e lies ih
      element (node it members rest) (wrote ps t) e lies ih = goes rest ps t ih

    elements-does : (n : ℕ) (vs : Values) (at at' taken taken' past : ℕ) (b : List ℕ) → Pos at at' → taken ≡ sat taken'
        → L.elements f n vs at taken past b ≡ did (λ t. sat (taken' + t)) past b (W.elements g n vs at')
    unfolding L.elements W.elements
    elements-does zero vs at at' taken taken' past b p q =
        let z : past ≡ max past 0 = omega arith in
        let y : taken' ≡ taken' + 0 = omega arith in
        ap₂ (laid b) z (q ∙ ap sat y)
    elements-does (suc n) vs at at' taken taken' past b p q =
        rw (does vs at at' b p) (element n at at' taken taken' past b p q vs (g vs at') refl (keeps vs at') (elements-does n (rest_of vs)))

    table_does : (e : Entry) → Does (L.table e f) (W.table e g)
    unfolding L.table W.table
    table_does e vs at at' b p =
        inside-does 6 (λ ms. L.elements f (table_length e ms) ms at 0 0 b) (λ ms. W.elements g (table_length e ms) ms at') vs b
        (λ ms. elements-does (table_length e ms) ms at at' 0 0 0 b p refl ∙ did-done (λ t. sat (0 + t)) b (W.elements g (table_length e ms) ms at') (λ t. omega arith))

  field-does : {S : Type 0} (k : Codec S) (e : Entry) (f : Layer) (g : Writer) → Fair k e → Does f g → Even g → Keeps room g → Does (L.field k room e f) (W.field k room e g)
  unfolding L.field W.field
  field-does k e f g fair does even keeps vs at at' b p =
      ap₂ (cond (unrepeated e)) (one-does k e f g fair.width does vs at at' b p)
      (table_does (L.one k room e f) (W.one k room e g) (one-does k e f g fair.width does) (one-even k room e g even) (one_in k room e g fair keeps) e vs at at' b p)
      ∙ done-cond b (unrepeated e) (W.one k room e g vs at') (W.table e (W.one k room e g) vs at')

-- ---- the entries of a sequence

-- the shifts are the same, or both are far and the furthest end is past where sums stop
abbrev Shifts : ℕ → ℕ → ℕ → Type 0
Shifts s s' far' = (s ≡ s') ⊎ ((65537 ≤ s) × ((65537 ≤ s') × (9223372036854775808 ≤ far')))

pos_field : (base base' off s s' far' : ℕ) → Pos base base' → Shifts s s' far' → Pos (sat (base + sat (off + s))) (base' + (off + s'))
pos_field base base' off s s' far' p (inl q) = pos_sum base base' (sat (off + s)) (off + s') p (ap (λ x. sat (off + x)) q)
pos_field base base' off s s' far' p (inr q) =
    let u : 65537 ≤ sat (off + s) = sat-far 65537 (off + s) (omega arith) (omega (arith, q.0)) in
    inr (sat-far 65537 (base + sat (off + s)) (omega arith) (more 65537 base (sat (off + s)) u), omega (arith, q.1.0))

taken_next : (off s s' t far far' : ℕ) → far ≡ sat far' → Shifts s s' far' → max far (sat (sat (off + s) + sat t)) ≡ sat (max far' (off + s' + t))
taken_next off s s' t far far' f (inl q) = ap₂ max f (sat-sum (off + s) t ∙ ap (λ x. sat (off + x + t)) q) ∙ sat-most far' (off + s' + t)
taken_next off s s' t far far' f (inr q) =
    ap (λ x. max x (sat (sat (off + s) + sat t))) (f ∙ sat-top far' q.1.1) ∙ top (sat (off + s) + sat t) ∙ sym (sat-top (max far' (off + s' + t)) (past far' (off + s' + t) q.1.1))
  where
    top : (x : ℕ) → max 9223372036854775808 (sat x) ≡ 9223372036854775808
    top x = omega arith

    past : (x y : ℕ) → 9223372036854775808 ≤ x → 9223372036854775808 ≤ max x y
    past x y h = omega arith

module _ (off s s' t res far' : ℕ) (r : res ≤ 4294836225) where
  far-out : 9223372036854775808 ≤ off + s' + t → 9223372036854775808 ≤ max far' (off + s' + t)
  far-out h = omega arith

  far-kept : 9223372036854775808 ≤ far' → 9223372036854775808 ≤ max far' (off + s' + t)
  far-kept h = omega arith

  shift-next : Shifts s s' far' → Shifts (sat (s + (sat t - res))) (s' + (t - res)) (max far' (off + s' + t))
  shift-next (inl q) = go (dec_lt 9223372036854775808 t) (dec_lt 9223372036854775808 (s' + (t - res)))
    where
      same : (x y : ℕ) → x ≡ y → 65537 ≤ s + (y - res) → 65537 ≤ s + (x - res)
      same x y e h = omega arith

      gap : (x : ℕ) → x ≡ 9223372036854775808 → 65537 ≤ s + (x - res)
      gap x e = omega arith

      go : Dec (9223372036854775808 < t) → Dec (9223372036854775808 < s' + (t - res)) → Shifts (sat (s + (sat t - res))) (s' + (t - res)) (max far' (off + s' + t))
      go (yes h) k =
          let u : sat t ≡ 9223372036854775808 = sat-top t (omega arith) in
          inr (sat-far 65537 (s + (sat t - res)) (omega arith) (gap (sat t) u), (omega arith, far-out (omega arith)))
      go (no h) (yes k) =
          let u : sat t ≡ t = sat-same t (omega arith) in
          inr (sat-far 65537 (s + (sat t - res)) (omega arith) (same (sat t) t u (omega (arith, q))), (omega arith, far-out (omega arith)))
      go (no h) (no k) = inl (ap₂ (λ x y. sat (x + (y - res))) q (sat-same t (omega arith)) ∙ sat-same (s' + (t - res)) (omega arith))
  shift-next (inr q) = inr (sat-far 65537 (s + (sat t - res)) (omega arith) (omega (arith, q.0)), (omega (arith, q.1.0), far-kept q.1.1))

module _ {S : Type 0} (k : Codec S) (room : ℕ) (small : room ≤ 65536) where
  entry : (e : Entry) (rest : Tree Entry) (all : Values) (base base' s s' taken taken' past : ℕ) (b : List ℕ) (o : Wrote) → Fair k e → Pos base base' → taken ≡ sat taken' → Shifts s s' taken'
      → ((s s' taken taken' past : ℕ) (b : List ℕ) → taken ≡ sat taken' → Shifts s s' taken' → L.seq k room rest all base s taken past b ≡ did (λ t. sat (max taken' t)) past b (W.seq k room rest all base' s'))
      → L.bind (done b o) (λ b' past' t. L.seq k room rest all base (sat (s + (t - reserved_width e))) (max taken (sat (sat (e.offset + s) + t))) (max past past') b')
      ≡ did (λ t. sat (max taken' t)) past b (W.bind o (λ ps t. W.then_entry ps (e.offset + s' + t) (W.seq k room rest all base' (s' + (t - reserved_width e)))))
  entry e rest all base base' s s' taken taken' past b (W.refused n) fair p q r ih = refl
  entry e rest all base base' s s' taken taken' past b (wrote ps t) fair p q r ih =
      ih (sat (s + (sat t - reserved_width e))) (s' + (t - reserved_width e)) (max taken (sat (sat (e.offset + s) + sat t))) (max taken' (e.offset + s' + t)) (max past (stretch ps)) (apply ps b)
      (taken_next e.offset s s' t taken taken' q r) (shift-next e.offset s s' t (reserved_width e) taken' fair.reserved r)
      ∙ fold (W.seq k room rest all base' (s' + (t - reserved_width e)))
    where
      fold : (o : Wrote) → did (λ u. sat (max (max taken' (e.offset + s' + t)) u)) (max past (stretch ps)) (apply ps b) o ≡ did (λ u. sat (max taken' u)) past b (W.then_entry ps (e.offset + s' + t) o)
      fold (W.refused n) = refl
      fold (wrote qs u) =
          let z : max (max taken' (e.offset + s' + t)) u ≡ max taken' (max (e.offset + s' + t) u) = omega arith in
          joined ps qs past b _ _ (ap sat z)

  seq-does : (t : Tree Entry) → AllFair k t → (all : Values) (base base' s s' taken taken' past : ℕ) (b : List ℕ) → Pos base base' → taken ≡ sat taken' → Shifts s s' taken'
      → L.seq k room t all base s taken past b ≡ did (λ u. sat (max taken' u)) past b (W.seq k room t all base' s')
  unfolding L.seq W.seq
  seq-does none fair all base base' s s' taken taken' past b p q r =
      let z : past ≡ max past 0 = omega arith in
      let y : taken' ≡ max taken' 0 = omega arith in
      ap₂ (laid b) z (q ∙ ap sat y)
  seq-does (node e members rest) fair all base base' s s' taken taken' past b p q r =
      rw (field-does room small k e (λ vs a c. L.seq k room members vs a 0 0 0 c) (λ vs a. W.seq k room members vs a 0) fair.0
      (λ vs at at' c h. seq-does members fair.1.0 vs at at' 0 0 0 0 0 c h refl (inl refl)
      ∙ did-done (λ u. sat (max 0 u)) c (W.seq k room members vs at' 0) (λ u. omega arith))
      (λ a a' u. seq-even k room members a a' 0 u) (λ vs at. seq_in k room members fair.1.0 vs at 0)
      (lookup e.name all) (sat (base + sat (e.offset + s))) (base' + (e.offset + s')) b (pos_field base base' e.offset s s' taken' p r))
      (entry e rest all base base' s s' taken taken' past b (W.field k room e (λ vs a. W.seq k room members vs a 0) (lookup e.name all) (base' + (e.offset + s'))) fair.0 p q r
      (λ s s' u u' h c x y. seq-does rest fair.1.1 all base base' s s' u u' h c p x y))

  -- the walk of the loops, from the beginning
  pub start-does : (t : Tree Entry) → AllFair k t → (vs : Values) (b : List ℕ) → L.start k room t vs 0 b ≡ done b (W.seq k room t vs 0 0)
  start-does t fair vs b = seq-does t fair vs 0 0 0 0 0 0 0 b (inl refl) refl (inl refl) ∙ did-done (λ u. sat (max 0 u)) b (W.seq k room t vs 0 0) (λ u. omega arith)
