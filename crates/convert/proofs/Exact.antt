-- Exact decimals by the four pairs of signs, equal bytes by induction; either way round, a lawful list and itself, and never NaN by induction on the sequences; values as sequences of one.
use mathlib.Core.Path.{◌≡◌, refl, sym, ap, ap₂, ◌∙◌}
use mathlib.Core.Bool.{Bool, true, false, ◌&&◌, ◌||◌, not, cond, true≢false, false≢true, or-false, and-true}
use mathlib.Core.List.{List, [], ◌∷◌}
use mathlib.Core.Logic.{◌↔◌}
use Prim.Native.Nat.{ℕ, zero, suc, ◌*◌, ◌^◌, ◌<◌, ◌≤◌}
use native.Mathlib.Omega.{arith}
use native.Mathlib.Nat.{mul-le-mul_right, one-mul}
use lib.Dec.{eqb}
use lib.IntN.{pos, neg_ℤ, nat_abs, ◌*ℤ◌, pos-ne-negsuc}
use lib.ListN.{length, take, drop}
use lib.Ieee.{binary64, nan_bits}
use borrow.Author.Tests.{eq-eqb, ne_eqb, eqb-true, leb-true}
use Rattle.codes.specs.Codes.{tag_null, tag_text, tag_int, tag_decimal, tag_float, tag_bool, tag_list, tag_struct}
use Rattle.spans.specs.Tree.{none, node, size}
use Rattle.lists.proofs.Logic.{and_left, and_right, and, and-swap, eqb_swap}
use Rattle.value.proofs.Digits.{pow-pos10}
use Rattle.value.specs.Word.{minus_in, size_in}
use Rattle.items.specs.declared.Item.{Item}
use Rattle.items.specs.Items.{text_ok, list_ok, item_ok, scalar_ok, holder_ok, name_ok, count}
use Rattle.walks.specs.Decide.{same}
use Rattle.walks.proofs.Decided.{same-is, same_self}
use Rattle.convert.specs.Same.{Exact, exact_in, same_bool, same_decimal, is_number, same_text, same_float, same_kind, same_item, same_all, same_value}
use Rattle.convert.specs.Exact.{DecimalsExact, BytesExact, Symmetric, is_nan, no_nan, Reflexive, NeverNan, ValueAlone, ValueSymmetric, ValueReflexive, ValueNeverNan}

-- ---- exact decimals

abs_neg : (x : ℕ) → nat_abs (neg_ℤ (pos x)) ≡ x
abs_neg zero = refl
abs_neg (suc x) = refl

neg_same : (x y : ℕ) → neg_ℤ (pos x) ≡ neg_ℤ (pos y) → x ≡ y
neg_same x y e = sym (abs_neg x) ∙ ap nat_abs e ∙ abs_neg y

neg-times : (s p : ℕ) → 0 < s → neg_ℤ (pos s) *ℤ pos p ≡ neg_ℤ (pos (s * p))
neg-times zero p h = absurd (omega arith)
neg-times (suc s) p h = refl

neg-not : (x y : ℕ) → 0 < x → neg_ℤ (pos x) ≡ pos y → ⊥
neg-not zero y h e = absurd (omega arith)
neg-not (suc x) y h e = pos-ne-negsuc y x (sym e)

over : (s p : ℕ) → 0 < s → 0 < p → 0 < s * p
over s p h k = let q : 1 * p ≤ s * p = mul-le-mul_right p h in omega (arith, one-mul p)

minus-size : (a : ℕ) → a < 2 ^ 64 → minus_in a ≡ true → 0 < size_in a
minus-size a h e = rw e (omega (arith, leb-true (2 ^ 63) a e))

module _ (s p t q : ℕ) where
  by-signs : (m n : Bool) → (m ≡ true → 0 < s) → (n ≡ true → 0 < t) → 0 < p → 0 < q
      → ((same_bool m n && eqb (s * p) (t * q)) ≡ true) ↔ (cond m (neg_ℤ (pos s)) (pos s) *ℤ pos p ≡ cond n (neg_ℤ (pos t)) (pos t) *ℤ pos q)
  by-signs false false hs ht hp hq = ((λ e. ap pos (eqb-true (s * p) (t * q) e)), (λ e. eq-eqb (s * p) (t * q) (ap nat_abs e)))
  by-signs true true hs ht hp hq = (
    (λ e. neg-times s p (hs refl) ∙ ap (λ n. neg_ℤ (pos n)) (eqb-true (s * p) (t * q) e) ∙ sym (neg-times t q (ht refl))),
    (λ e. eq-eqb (s * p) (t * q) (neg_same (s * p) (t * q) (sym (neg-times s p (hs refl)) ∙ e ∙ neg-times t q (ht refl)))),
  )
  by-signs true false hs ht hp hq = ((λ e. absurd (false≢true e)), (λ e. absurd (neg-not (s * p) (t * q) (over s p (hs refl) hp) (sym (neg-times s p (hs refl)) ∙ e))))
  by-signs false true hs ht hp hq = ((λ e. absurd (false≢true e)), (λ e. absurd (neg-not (t * q) (s * p) (over t q (ht refl) hq) (sym (neg-times t q (ht refl)) ∙ sym e))))

pub decimals-exact : DecimalsExact
unfolding same_decimal exact_in
decimals-exact x y hx hy =
    by-signs (size_in x.a) (10 ^ (exact_in y).scale) (size_in y.a) (10 ^ (exact_in x).scale) (minus_in x.a) (minus_in y.a) (minus-size x.a hx) (minus-size y.a hy)
    (pow-pos10 (exact_in y).scale) (pow-pos10 (exact_in x).scale)

-- ---- bytes

pub bytes-exact : BytesExact
bytes-exact xs ys = (same-is xs ys, (λ e. ap (same xs) (sym e) ∙ same_self xs))

bytes-sym : (xs ys : List ℕ) → same xs ys ≡ same ys xs
bytes-sym [] [] = refl
bytes-sym [] (y ∷ ys) = refl
bytes-sym (x ∷ xs) [] = refl
bytes-sym (x ∷ xs) (y ∷ ys) = ap₂ (λ a b. a && b) (eqb_swap x y) (bytes-sym xs ys)

-- ---- either way round

bool-sym : (a b : Bool) → same_bool a b ≡ same_bool b a
bool-sym true true = refl
bool-sym true false = refl
bool-sym false true = refl
bool-sym false false = refl

decimal-sym : (x y : Exact) → same_decimal x y ≡ same_decimal y x
unfolding same_decimal
decimal-sym x y = ap₂ (λ a b. a && b) (bool-sym x.minus y.minus) (eqb_swap (x.size * 10 ^ y.scale) (y.size * 10 ^ x.scale))

text-sym : (t : List ℕ) (a n : ℕ) (u : List ℕ) (b m : ℕ) → same_text t a n u b m ≡ same_text u b m t a n
unfolding same_text
text-sym t a n u b m = ap₂ (λ x y. x && y) (and-swap (text_ok (length t) a n) (text_ok (length u) b m)) (bytes-sym (take n (drop a t)) (take m (drop b u)))

float-sym : (a b : ℕ) → same_float a b ≡ same_float b a
unfolding same_float
float-sym a b = go (eqb a b) refl
  where
    go : (e : Bool) → eqb a b ≡ e → (eqb a b && not (nan_bits binary64 a)) ≡ (eqb b a && not (nan_bits binary64 b))
    go true e = ap₂ (λ x n. x && not (nan_bits binary64 n)) (eqb_swap a b) (eqb-true a b e)
    go false e = rw (e, sym (eqb_swap a b) ∙ e)

module _ (t u : List ℕ) (x y : Item) where
  kind-sym : x.tag ≡ y.tag → same_kind t u x y ≡ same_kind u t y x
  unfolding same_kind
  kind-sym h = rw (h, text-sym t x.a x.b u y.a y.b, float-sym x.a y.a, eqb_swap x.a y.a)

  tags-sym : (eqb x.tag y.tag && same_kind t u x y) ≡ (eqb y.tag x.tag && same_kind u t y x)
  tags-sym = go (eqb x.tag y.tag) refl
    where
      go : (e : Bool) → eqb x.tag y.tag ≡ e → (eqb x.tag y.tag && same_kind t u x y) ≡ (eqb y.tag x.tag && same_kind u t y x)
      go true e = ap₂ (λ a b. a && b) (eqb_swap x.tag y.tag) (kind-sym (eqb-true x.tag y.tag e))
      go false e = rw (e, sym (eqb_swap x.tag y.tag) ∙ e)

  item-sym : same_item t u x y ≡ same_item u t y x
  unfolding same_item
  item-sym = λ i. cond (and-swap (is_number x.tag) (is_number y.tag) i) (decimal-sym (exact_in x) (exact_in y) i) (tags-sym i)

pub symmetric : Symmetric
unfolding same_all
symmetric t u none none = refl
symmetric t u none (node y ns s) = refl
symmetric t u (node x ms r) none = refl
symmetric t u (node x ms r) (node y ns s) = λ i. eqb_swap x.name y.name i && item-sym t u x y i && symmetric t u ms ns i && symmetric t u r s i

-- ---- a lawful list and itself

bool-self : (b : Bool) → same_bool b b ≡ true
bool-self true = refl
bool-self false = refl

decimal-self : (x : Exact) → same_decimal x x ≡ true
unfolding same_decimal
decimal-self x = rw (bool-self x.minus, eq-eqb (x.size * 10 ^ x.scale) (x.size * 10 ^ x.scale) refl)

text-self : (t : List ℕ) (a n : ℕ) → text_ok (length t) a n ≡ true → same_text t a n t a n ≡ true
unfolding same_text
text-self t a n h = rw (h, same_self (take n (drop a t)))

float-self : (a : ℕ) → not (nan_bits binary64 a) ≡ true → same_float a a ≡ true
unfolding same_float
float-self a h = rw (eq-eqb a a refl) h

module _ (t : List ℕ) (x : Item) (members below : ℕ) where
  by-tag : (n : ℕ) → x.tag ≡ n → is_number x.tag ≡ false → (scalar_ok (length t) x || holder_ok x members below) ≡ true → not (is_nan x) ≡ true → same_kind t t x x ≡ true
  unfolding same_kind scalar_ok holder_ok
  by-tag zero e num ok nan = rw e
  by-tag (suc zero) e num ok nan = rw e (text-self t x.a x.b (sym (or-false (text_ok (length t) x.a x.b)) ∙ (rw e at ok)))
  by-tag (suc (suc zero)) e num ok nan = absurd (true≢false (rw e at num))
  by-tag (suc (suc (suc zero))) e num ok nan = absurd (true≢false (rw e at num))
  by-tag (suc (suc (suc (suc zero)))) e num ok nan = rw e (float-self x.a (rw e at nan))
  by-tag (suc (suc (suc (suc (suc zero))))) e num ok nan = rw (e, eq-eqb x.a x.a refl)
  by-tag (suc (suc (suc (suc (suc (suc zero)))))) e num ok nan = rw (e, eq-eqb x.a x.a refl)
  by-tag (suc (suc (suc (suc (suc (suc (suc zero))))))) e num ok nan = rw (e, eq-eqb x.a x.a refl)
  by-tag (suc (suc (suc (suc (suc (suc (suc (suc n)))))))) e num ok nan =
      absurd (false≢true (rw (
        ne_eqb x.tag tag_null (λ k. omega arith),
        ne_eqb x.tag tag_text (λ k. omega arith),
        ne_eqb x.tag tag_int (λ k. omega arith),
        ne_eqb x.tag tag_decimal (λ k. omega arith),
        ne_eqb x.tag tag_float (λ k. omega arith),
        ne_eqb x.tag tag_bool (λ k. omega arith),
        ne_eqb x.tag tag_list (λ k. omega arith),
        ne_eqb x.tag tag_struct (λ k. omega arith),
      ) at ok))

  item-self : (scalar_ok (length t) x || holder_ok x members below) ≡ true → not (is_nan x) ≡ true → same_item t t x x ≡ true
  unfolding same_item
  item-self ok nan = go (is_number x.tag) refl
    where
      go : (b : Bool) → is_number x.tag ≡ b
          → cond (is_number x.tag && is_number x.tag) (same_decimal (exact_in x) (exact_in x)) (eqb x.tag x.tag && same_kind t t x x) ≡ true
      go true e = rw e (decimal-self (exact_in x))
      go false e = rw (e, eq-eqb x.tag x.tag refl) (by-tag x.tag refl e ok nan)

pub reflexive : Reflexive
unfolding same_all list_ok no_nan item_ok
reflexive t in_list levels none ok nan = refl
reflexive t in_list zero (node x ms r) ok nan = absurd (false≢true ok)
reflexive t in_list (suc levels) (node x ms r) ok nan =
    let one = item_ok (length t) in_list x (count ms) (size ms) in
    let below = list_ok (length t) (eqb x.tag tag_list) levels ms in
    let behind = list_ok (length t) in_list (suc levels) r in
    let front : (one && below) ≡ true = and_left (one && below) behind ok in
    let lawful : (scalar_ok (length t) x || holder_ok x (count ms) (size ms)) ≡ true = and_right (name_ok in_list x.name) (scalar_ok (length t) x || holder_ok x (count ms) (size ms)) (and_left one below front) in
    let numbers : (not (is_nan x) && no_nan ms) ≡ true = and_left (not (is_nan x) && no_nan ms) (no_nan r) nan in
    rw (
      eq-eqb x.name x.name refl,
      item-self t x (count ms) (size ms) lawful (and_left (not (is_nan x)) (no_nan ms) numbers),
      reflexive t (eqb x.tag tag_list) levels ms (and_right one below front) (and_right (not (is_nan x)) (no_nan ms) numbers),
    )
    (reflexive t in_list (suc levels) r (and_right (one && below) behind ok) (and_right (not (is_nan x) && no_nan ms) (no_nan r) nan))

-- ---- never NaN

float-never : (a b : ℕ) → same_float a b ≡ true → not (nan_bits binary64 a) ≡ true
unfolding same_float
float-never a b h = and_right (eqb a b) (not (nan_bits binary64 a)) h

item-never : (t u : List ℕ) (x y : Item) → same_item t u x y ≡ true → not (is_nan x) ≡ true
unfolding same_item same_kind
item-never t u x y h = go (eqb x.tag tag_float) refl
  where
    go : (b : Bool) → eqb x.tag tag_float ≡ b → not (is_nan x) ≡ true
    go true e = rw e (float-never x.a y.a (and_right (eqb tag_float y.tag) (same_float x.a y.a) (rw (eqb-true x.tag tag_float e) at h)))
    go false e = rw e

pub never-nan : NeverNan
unfolding same_all no_nan
never-nan t u none ws h = refl
never-nan t u (node x ms r) none h = absurd (false≢true h)
never-nan t u (node x ms r) (node y ns s) h =
    let named = eqb x.name y.name in
    let first = named && same_item t u x y in
    let members = first && same_all t u ms ns in
    let f : members ≡ true = and_left members (same_all t u r s) h in
    let g : first ≡ true = and_left first (same_all t u ms ns) f in
    and (and (item-never t u x y (and_right named (same_item t u x y) g)) (never-nan t u ms ns (and_right first (same_all t u ms ns) f))) (never-nan t u r s (and_right members (same_all t u r s) h))

-- ---- values

pub value-alone : ValueAlone
unfolding same_value same_all
value-alone t u x y ms ns r s = sym (and-true (eqb x.name y.name && same_item t u x y && same_all t u ms ns))

pub value-symmetric : ValueSymmetric
unfolding same_value
value-symmetric t u none none = refl
value-symmetric t u none (node y ns s) = refl
value-symmetric t u (node x ms r) none = refl
value-symmetric t u (node x ms r) (node y ns s) = value-alone t u x y ms ns r s ∙ symmetric t u (node x ms none) (node y ns none) ∙ sym (value-alone u t y x ns ms s r)

pub value-reflexive : ValueReflexive
value-reflexive t in_list levels x ms r s ok nan = value-alone t t x x ms ms r s ∙ reflexive t in_list levels (node x ms none) ok nan

pub value-never-nan : ValueNeverNan
unfolding same_value
value-never-nan t u x ms r none h = absurd (false≢true h)
value-never-nan t u x ms r (node y ns s) h = never-nan t u (node x ms none) (node y ns none) (sym (value-alone t u x y ms ns r s) ∙ h)
