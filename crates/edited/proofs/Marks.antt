-- The bytes of a lawful mask one by one, and what holds of every byte that is edited.
use mathlib.Core.Path.{◌≡◌, refl, sym, ap, subst}
use mathlib.Core.Bool.{Bool, true, false, ◌&&◌, ◌||◌, cond, false≢true}
use mathlib.Core.List.{List, [], ◌∷◌}
use Prim.Native.Nat.{ℕ, zero, suc, ◌<◌}
use native.Mathlib.Nat.{not-suc-le-zero, le_of_suc-le-suc}
use native.Mathlib.Omega.{arith}
use lib.Dec.{eqb, ltb, lit<}
use lib.ListN.{length, get_or}
use borrow.Author.Tests.{eqb-true}
use Rattle.lists.proofs.Logic.{both}
use Rattle.value.proofs.Digits.{digit-below}
use Rattle.edited.specs.Edited.{is_in, positions, is_mark, follows, lawful_from, is_lawful, digit_byte, edit_byte, sup_after, edit_from, pad_of, edited, count_of}

-- ---- every element

pub data All (P : ℕ → Type 0) : List ℕ → Type 0 where
  end : All P []
  one : {x : ℕ} {s : List ℕ} → P x → All P s → All P (x ∷ s)

module _ (P : ℕ → Type 0) where
  pub all-at : {s : List ℕ} → All P s → (k : ℕ) → k < length s → P (get_or s k 0)
  all-at end k h = absurd (not-suc-le-zero h)
  all-at (one p a) zero h = p
  all-at (one p a) (suc k) h = all-at a k (le_of_suc-le-suc h)

  in_one : (c x : ℕ) (t r : Bool) → eqb c x ≡ t → P x → (r ≡ true → P c) → (t || r) ≡ true → P c
  in_one c x true r q p f e = subst P (sym (eqb-true c x q)) p
  in_one c x false r q p f e = f e

  in_all : {xs : List ℕ} → All P xs → (c : ℕ) → is_in xs c ≡ true → P c
  in_all end c e = absurd (false≢true e)
  in_all (one {x = x} {s = s} p a) c e = in_one c x (eqb c x) (is_in s c) refl p (in_all a c) e

-- ---- the bytes of a lawful mask

pub data Mark : ℕ → Type 0 where
  nine : Mark 57
  zed : Mark 90
  star : Mark 42
  comma : Mark 44
  point : Mark 46
  slash : Mark 47
  blank : Mark 66
  nought : Mark 48
  dollar : Mark 36
  plus : Mark 43
  minus : Mark 45
  cee : Mark 67
  arr : Mark 82
  dee : Mark 68

mark_of : (c : ℕ) → is_mark c ≡ true → Mark c
mark_of c e =
    in_all Mark (one nine (one zed (one star (one comma (one point (one slash (one blank (one nought (one dollar (one plus (one minus (one cee (one dee end))))))))))))) c e

follower : (prev c : ℕ) → follows prev c ≡ true → Mark c
follower prev c e = by (eqb prev 67) (eqb prev 68) e
  where
    by : (s t : Bool) → cond s (eqb c 82) (cond t (eqb c 66) (is_mark c)) ≡ true → Mark c
    by true t q = subst Mark (sym (eqb-true c 82 q)) arr
    by false true q = subst Mark (sym (eqb-true c 66 q)) blank
    by false false q = mark_of c q

marks-from : (prev : ℕ) (mask : List ℕ) → lawful_from prev mask ≡ true → All Mark mask
unfolding lawful_from
marks-from prev [] e = end
marks-from prev (c ∷ m) e =
    let b = both (follows prev c) (lawful_from c m) e in
    one (follower prev c b.0) (marks-from c m b.1)

pub marks-of : (mask : List ℕ) → is_lawful mask ≡ true → All Mark mask
marks-of mask e = marks-from 0 mask e

-- ---- what is edited is as long as the mask, and ASCII

pub edit-length : (negative : Bool) (pad size prev : ℕ) (mask : List ℕ) (sup : Bool) → length (edit_from negative pad size prev mask sup) ≡ length mask
unfolding edit_from
edit-length negative pad size prev [] sup = refl
edit-length negative pad size prev (c ∷ m) sup = ap suc (edit-length negative pad size c m (sup_after c (digit_byte size (positions m)) sup))

abbrev pub Low : ℕ → Type 0
Low b = b < 128

low-cond : (t : Bool) (a b : ℕ) → Low a → Low b → Low (cond t a b)
low-cond true a b p q = p
low-cond false a b p q = q

low_digit : (size place : ℕ) → Low (digit_byte size place)
low_digit size place = let h = digit-below place size in omega arith

module _ (negative : Bool) (pad : ℕ) (hp : Low pad) where
  low_byte : {c : ℕ} → Mark c → (prev d : ℕ) (sup : Bool) → Low d → Low (edit_byte negative pad prev c d sup)
  unfolding edit_byte
  low_byte nine prev d sup h = h
  low_byte zed prev d sup h = low-cond (sup && eqb d 48) 32 d (lit< tt) h
  low_byte star prev d sup h = low-cond (sup && eqb d 48) 42 d (lit< tt) h
  low_byte comma prev d sup h = low-cond sup pad 44 hp (lit< tt)
  low_byte point prev d sup h = lit< tt
  low_byte slash prev d sup h = lit< tt
  low_byte blank prev d sup h = low-cond (negative && eqb prev 68) 66 32 (lit< tt) (lit< tt)
  low_byte nought prev d sup h = lit< tt
  low_byte dollar prev d sup h = lit< tt
  low_byte plus prev d sup h = low-cond negative 45 43 (lit< tt) (lit< tt)
  low_byte minus prev d sup h = low-cond negative 45 32 (lit< tt) (lit< tt)
  low_byte cee prev d sup h = low-cond negative 67 32 (lit< tt) (lit< tt)
  low_byte arr prev d sup h = low-cond negative 82 32 (lit< tt) (lit< tt)
  low_byte dee prev d sup h = low-cond negative 68 32 (lit< tt) (lit< tt)

  low-all : (size prev : ℕ) {mask : List ℕ} → All Mark mask → (sup : Bool) → All Low (edit_from negative pad size prev mask sup)
  unfolding edit_from
  low-all size prev end sup = end
  low-all size prev (one {x = c} {s = m} k l) sup =
      let d = digit_byte size (positions m) in
      one (low_byte k prev d sup (low_digit size (positions m))) (low-all size c l (sup_after c d sup))

pub edited-low : (negative : Bool) (size : ℕ) {mask : List ℕ} → All Mark mask → All Low (edited negative size mask)
edited-low negative size {mask} l = low-all negative (pad_of mask) (low-cond (ltb 0 (count_of 42 mask)) 42 32 (lit< tt) (lit< tt)) size 0 l true
