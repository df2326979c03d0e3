-- Same numbers, bytes and items as the code asks them: each law says what one way out of a function answers.
use mathlib.Core.Path.{◌≡◌, refl, sym, ap, ◌∙◌}
use mathlib.Core.Bool.{Bool, true, false, ◌&&◌, not, true≢false}
use mathlib.Core.List.{List, [], ◌∷◌}
use Prim.Native.Nat.{ℕ, suc, ◌+◌, ◌-◌, ◌*◌, ◌/◌, ◌%◌, ◌^◌, ◌<◌, ◌≤◌}
use native.Mathlib.Omega.{arith}
use native.Mathlib.Nat.{mul_assoc, eq_of_mul-eq-mul_right, mul-mod_left, mul-div_cancel, div-add-mod', pow-le-pow_right, mul-le-mul_right, one-mul}
use lib.Pow.{pow-add}
use lib.Dec.{eqb}
use lib.ListN.{length}
use lib.Ieee.{binary64, nan_bits}
use borrow.Author.Tests.{eq-eqb, ne_eqb}
use Rattle.items.specs.declared.Item.{Item}
use Rattle.codes.specs.Codes.{tag_decimal}
use Rattle.lists.proofs.Logic.{alike, eqb_swap}
use Rattle.value.proofs.Digits.{pow-pos10}
use Rattle.walks.specs.Decide.{same}
use Rattle.convert.specs.Same.{exact_in, same_size, same_float}

-- ---- sizes

times-both : (c a b : ℕ) → 0 < c → eqb a b ≡ eqb (a * c) (b * c)
times-both c a b h = alike a b (a * c) (b * c) (ap (λ n. n * c)) (eq_of_mul-eq-mul_right c h a b)

power-split : (k m : ℕ) → k ≤ m → 10 ^ m ≡ 10 ^ (m - k) * 10 ^ k
power-split k m h = let e : m ≡ m - k + k = omega arith in ap (λ n. 10 ^ n) e ∙ pow-add 10 (m - k) k

pub size_low : (x k y m : ℕ) → k ≤ m → eqb (x * 10 ^ (m - k)) y ≡ same_size x k y m
size_low x k y m h =
    times-both (10 ^ k) (x * 10 ^ (m - k)) y (pow-pos10 k) ∙ ap (λ n. eqb n (y * 10 ^ k)) (mul_assoc x (10 ^ (m - k)) (10 ^ k) ∙ ap (λ n. x * n) (sym (power-split k m h)))

pub size-high : (x k y m : ℕ) → m ≤ k → eqb (y * 10 ^ (k - m)) x ≡ same_size x k y m
size-high x k y m h = size_low y m x k h ∙ eqb_swap (y * 10 ^ k) (x * 10 ^ m)

pub scaled-far : (big little d : ℕ) → big < 2 ^ 64 → 19 < d → (little ≡ 0 → ⊥) → false ≡ eqb (little * 10 ^ d) big
scaled-far big little d b h z =
    let p : 10 ^ 20 ≤ 10 ^ d = pow-le-pow_right {n = 10} (omega arith) {i = 20} {j = d} (omega arith) in
    let q : 1 * 10 ^ d ≤ little * 10 ^ d = mul-le-mul_right (10 ^ d) (omega arith) in
    sym (ne_eqb (little * 10 ^ d) big (λ e. omega (arith, one-mul (10 ^ d))))

module _ (big little d p : ℕ) (e : p ≡ 10 ^ d) where
  pub scaled-part : (big % p ≡ 0 → ⊥) → false ≡ eqb (little * 10 ^ d) big
  scaled-part h = sym (ne_eqb (little * 10 ^ d) big (λ k. h (ap (λ n. n % p) (sym k) ∙ ap (λ n. little * n % p) (sym e) ∙ mul-mod_left little p)))

  pub scaled-whole : big % p ≡ 0 → eqb little (big / p) ≡ eqb (little * 10 ^ d) big
  scaled-whole h =
      let z : big / p * p ≡ big = omega (arith, div-add-mod' big p) in
      let o : 0 < p = omega (arith, pow-pos10 d) in
      alike little (big / p) (little * 10 ^ d) big
      (λ k. ap (λ n. little * n) (sym e) ∙ ap (λ n. n * p) k ∙ z)
      (λ k. sym (mul-div_cancel little o) ∙ ap (λ n. n / p) (ap (λ n. little * n) e ∙ k))

-- ---- decimals

pub scale-none : (x : Item) → (x.tag ≡ tag_decimal → ⊥) → 0 ≡ (exact_in x).scale
unfolding exact_in
scale-none x h = rw (ne_eqb x.tag tag_decimal h)

-- ---- bytes

pub bytes-length : (xs ys : List ℕ) → (length xs ≡ length ys → ⊥) → false ≡ same xs ys
bytes-length [] [] h = absurd (h refl)
bytes-length [] (y ∷ ys) h = refl
bytes-length (x ∷ xs) [] h = refl
bytes-length (x ∷ xs) (y ∷ ys) h = go (eqb x y) (bytes-length xs ys (λ e. h (ap suc e)))
  where
    go : (t : Bool) → false ≡ same xs ys → false ≡ (t && same xs ys)
    go true rest = rest
    go false rest = refl

-- ---- floats

pub float-nan : (a b : ℕ) (n : Bool) → a ≡ b → n ≡ nan_bits binary64 a → not n ≡ same_float a b
unfolding same_float
float-nan a b n h e = rw (eq-eqb a b h) (ap not e)
