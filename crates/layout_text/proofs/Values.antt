-- How long the value of a lawful line may be.
use mathlib.Core.Path.{◌≡◌, refl}
use mathlib.Core.Bool.{Bool, true, false, ◌&&◌, not, cond, false≢true}
use mathlib.Core.List.{List, [], ◌∷◌, map}
use Prim.Native.Nat.{ℕ, ◌+◌, ◌*◌, ◌≤◌, ◌<◌}
use native.Mathlib.Omega.{arith}
use lib.Dec.{eqb, leb, ltb}
use lib.ListN.{length}
use borrow.Author.Tests.{eqb-false, leb-true, ltb-true}
use Rattle.lists.specs.Scan.{every_by}
use Rattle.lists.proofs.Scan.{every-head}
use Rattle.value.specs.Digits.{value_from, is_digit, digit_in}
use Rattle.lists.proofs.Logic.{and_left, and_right}
use Rattle.layout.specs.Layout.{absent}
use Rattle.value.specs.Answer.{refused, given}
use Rattle.lines.specs.Lines.{leads, number_of, in_name, name_ok}
use Rattle.lines.proofs.Laws.{grows}
use Rattle.layout_text.specs.Form.{is_value, is_number}

-- ---- lengths

-- ten digits behind another that is not 0 make a number of 10^10 or more
ten-more : (v : ℕ) (s : List ℕ) → 1 ≤ v → value_from v (map digit_in s) < 10000000000 → length s ≤ 9
ten-more v [] h k = omega arith
ten-more v (a ∷ []) h k = omega arith
ten-more v (a ∷ b ∷ []) h k = omega arith
ten-more v (a ∷ b ∷ c ∷ []) h k = omega arith
ten-more v (a ∷ b ∷ c ∷ d ∷ []) h k = omega arith
ten-more v (a ∷ b ∷ c ∷ d ∷ e ∷ []) h k = omega arith
ten-more v (a ∷ b ∷ c ∷ d ∷ e ∷ f ∷ []) h k = omega arith
ten-more v (a ∷ b ∷ c ∷ d ∷ e ∷ f ∷ g ∷ []) h k = omega arith
ten-more v (a ∷ b ∷ c ∷ d ∷ e ∷ f ∷ g ∷ i ∷ []) h k = omega arith
ten-more v (a ∷ b ∷ c ∷ d ∷ e ∷ f ∷ g ∷ i ∷ j ∷ []) h k = omega arith
ten-more v (a ∷ b ∷ c ∷ d ∷ e ∷ f ∷ g ∷ i ∷ j ∷ l ∷ s) h k =
    let n = ((((((((((v * 10 + digit_in a) * 10 + digit_in b) * 10 + digit_in c) * 10 + digit_in d) * 10 + digit_in e) * 10 + digit_in f) * 10 + digit_in g) * 10 + digit_in i) * 10 + digit_in j) * 10 + digit_in l) in
    absurd (omega (arith, grows n s))

lead-digit : (x : ℕ) → is_digit x ≡ true → not (eqb x 0x30) ≡ true → 1 ≤ digit_in x
lead-digit x d e = by (eqb x 0x30) refl e
  where
    by : (t : Bool) → eqb x 0x30 ≡ t → not t ≡ true → 1 ≤ digit_in x
    by true q r = absurd (false≢true r)
    by false q r =
        let l : 0x30 ≤ x = leb-true 0x30 x (and_left (leb 0x30 x) (leb x 0x39) d) in
        let n : x ≡ 0x30 → ⊥ = eqb-false x 0x30 q in
        omega arith

-- "Numbers are below 4294967295", and have no leading zero: so they have at most ten digits
pub number_short : (s : List ℕ) → is_number s ≡ true → length s ≤ 10
unfolding number_of
number_short s e = by (leads s && (every_by is_digit s && ltb (value_from 0 (map digit_in s)) absent)) refl e
  where
    by : (t : Bool) → (leads s && (every_by is_digit s && ltb (value_from 0 (map digit_in s)) absent)) ≡ t → is_value (cond t (given (value_from 0 (map digit_in s))) (refused 17)) ≡ true → length s ≤ 10
    by false q r = absurd (false≢true r)
    by true q r = go s (and_left (leads s) (every_by is_digit s && ltb (value_from 0 (map digit_in s)) absent) q) (and_right (leads s) (every_by is_digit s && ltb (value_from 0 (map digit_in s)) absent) q)
      where
        go : (s : List ℕ) → leads s ≡ true → (every_by is_digit s && ltb (value_from 0 (map digit_in s)) absent) ≡ true → length s ≤ 10
        go [] l m = omega arith
        go (x ∷ []) l m = omega arith
        go (x ∷ y ∷ s) l m =
            let d : every_by is_digit (x ∷ y ∷ s) ≡ true = and_left (every_by is_digit (x ∷ y ∷ s)) (ltb (value_from 0 (map digit_in (x ∷ y ∷ s))) absent) m in
            let b : value_from 0 (map digit_in (x ∷ y ∷ s)) < absent =
            ltb-true (value_from 0 (map digit_in (x ∷ y ∷ s))) absent (and_right (every_by is_digit (x ∷ y ∷ s)) (ltb (value_from 0 (map digit_in (x ∷ y ∷ s))) absent) m) in
            let f : 1 ≤ digit_in x = lead-digit x (every-head is_digit x (y ∷ s) d) l in
            let t : length (y ∷ s) ≤ 9 = ten-more (0 * 10 + digit_in x) (y ∷ s) (omega arith) (omega arith) in
            omega arith

pub name-short : (s : List ℕ) → name_ok s ≡ true → length s ≤ 30
name-short s e = leb-true (length s) 30 (and_right (leb 1 (length s)) (leb (length s) 30) (and_left (leb 1 (length s) && leb (length s) 30) (every_by in_name s) e))
