-- One turn of each loop over a mask, and its ends; digits by their place.
use mathlib.Core.Path.{◌≡◌, refl, sym, ap, ◌∙◌}
use mathlib.Core.Bool.{Bool, true, false, ◌||◌, not, cond}
use mathlib.Core.List.{List, ◌∷◌, ◌++◌, map, append-nil, append_assoc}
use Prim.Native.Nat.{ℕ, suc, ◌+◌, ◌-◌, ◌^◌, ◌≤◌, ◌<◌}
use native.Mathlib.Nat.{lt_of_lt_of_le, pow-le-pow_right, div-eq_of_lt}
use native.Mathlib.Numerals.{add-one}
use native.Mathlib.Omega.{arith}
use lib.Dec.{eqb, lit<, lit≤}
use lib.ListN.{length, get_or, set, take, drop, drop_of_length-le}
use lib.Seq.{drop-cons, take-suc-set, take_all}
use borrow.Author.Tests.{lt-ltb}
use Rattle.value.specs.Word.{power_ten}
use Rattle.std.specs.List.{count_by as std_count_by}
use Rattle.std.proofs.lemmas.List.Recursion.{is_count_by}
use Rattle.edited.specs.Edited.{count_by, is_digit_pos, positions, follows, lawful_from, digit_byte, edit_byte, sup_after, edit_from}

-- ---- counting, as std counts

pub count-is : (f : ℕ → Bool) (mask : List ℕ) → std_count_by f mask ≡ count_by f mask
unfolding count_by
count-is f mask = sym (is_count_by (count_by f) f refl one mask)
  where
    one : (c : ℕ) (m : List ℕ) → count_by f (c ∷ m) ≡ cond (f c) (1 + count_by f m) (count_by f m)
    one c m = let e : count_by f m + 1 ≡ 1 + count_by f m = omega arith in ap (λ (n : ℕ). cond (f c) n (count_by f m)) e

-- ---- judging a mask, from the left

module _ (mask : List ℕ) (prev i : ℕ) where
  pub lawful-go : i < length mask → follows prev (get_or mask i 0) ≡ true → lawful_from prev (drop i mask) ≡ lawful_from (get_or mask i 0) (drop (i + 1) mask)
  unfolding lawful_from
  lawful-go h e = rw (add-one, drop-cons mask i 0, e)

  pub lawful-stop : i < length mask → follows prev (get_or mask i 0) ≡ false → lawful_from prev (drop i mask) ≡ false
  unfolding lawful_from
  lawful-stop h e = rw (drop-cons mask i 0, e)

  pub lawful-end : length mask ≤ i → lawful_from prev (drop i mask) ≡ not (eqb prev 67 || eqb prev 68)
  unfolding lawful_from
  lawful-end h = rw (drop_of_length-le mask h)

-- ---- digits by their place

pub ten-is : (k p : ℕ) → k < 20 → p ≡ power_ten k → p ≡ 10 ^ k
ten-is k p h e = e ∙ rw (lt-ltb k 20 h)

pub digit-past : (size place : ℕ) → size < 2 ^ 64 → 20 ≤ place → 48 ≡ digit_byte size place
digit-past size place f h =
    let b : size < 10 ^ place = lt_of_lt_of_le (lt_of_lt_of_le f (lit≤ tt)) (pow-le-pow_right {n = 10} (lit< tt) {i = 20} h) in
    rw (div-eq_of_lt b)

-- ---- editing, from the left

-- the positions behind a byte
pub left-go : (mask : List ℕ) (i left next : ℕ) → i < length mask → left ≡ positions (drop i mask) → next ≡ cond (is_digit_pos (get_or mask i 0)) (left - 1) left
    → next ≡ positions (drop (i + 1) mask)
unfolding count_by
left-go mask i left next h e q =
    let n : i + 1 ≡ suc i = omega arith in
    let p : left ≡ cond (is_digit_pos (get_or mask i 0)) (positions (drop (i + 1) mask) + 1) (positions (drop (i + 1) mask)) = e ∙ rw (n, drop-cons mask i 0) in
    q ∙ by (is_digit_pos (get_or mask i 0)) (positions (drop (i + 1) mask)) p
  where
    by : (t : Bool) (n : ℕ) → left ≡ cond t (n + 1) n → cond t (left - 1) left ≡ n
    by true n p = omega arith
    by false n p = p

module _ (f : ℕ → ℕ) (negative : Bool) (pad size : ℕ) (mask : List ℕ) where
  pub edit-go : (prev d : ℕ) (sup : Bool) (i : ℕ) (out : List ℕ) → i < length mask → i < length out → d ≡ digit_byte size (positions (drop (i + 1) mask))
      → take i out ++ map f (edit_from negative pad size prev (drop i mask) sup)
      ≡ take (i + 1) (set out i (f (edit_byte negative pad prev (get_or mask i 0) d sup))) ++ map f (edit_from negative pad size (get_or mask i 0) (drop (i + 1) mask) (sup_after (get_or mask i 0) d sup))
  unfolding edit_from
  edit-go prev d sup i out h k e =
      rw (e, add-one, drop-cons mask i 0, take-suc-set out i (f (edit_byte negative pad prev (get_or mask i 0) (digit_byte size (positions (drop (suc i) mask))) sup)) k, append_assoc)

  pub edit-end : (prev : ℕ) (sup : Bool) (i : ℕ) (out whole : List ℕ) → length mask ≤ i → length out ≤ i → whole ≡ take i out ++ map f (edit_from negative pad size prev (drop i mask) sup) → out ≡ whole
  unfolding edit_from
  edit-end prev sup i out whole h k e = sym (e ∙ rw (drop_of_length-le mask h, append-nil) (take_all i out k))
