-- What a reader finds out of a sign, separate or leading; and how an Int and a Display field are read by their parts.
use mathlib.Core.Path.{◌≡◌, refl, sym, ◌∙◌, ap}
use mathlib.Core.List.{List, [], ◌∷◌, map}
use mathlib.Core.Bool.{Bool, true, false, cond, ◌||◌, beq}
use Rattle.std.proofs.Common.{Option, Some, None}
use Rattle.std.specs.Option.{unwrap_or, option_eq}
use Prim.Native.Nat.{ℕ, ◌+◌, ◌-◌, ◌^◌, ◌<◌}
use native.Mathlib.Omega.{arith}
use lib.Dec.{eqb}
use lib.ListN.{length, get_or, take, drop, length-map}
use borrow.Author.Tests.{eq-eqb, ne_eqb}
use Rattle.lists.proofs.Lists.{get_d_map, map-take, map-drop}
use Rattle.lists.proofs.Scan.{tail-part}
use Rattle.value.specs.Digits.{limit}
use Rattle.value.specs.Number.{some, read_in, unlawful, with_sign}
use Rattle.numerals.specs.Numerals.{trimmed, kept_by, is_sign}
use Rattle.numerals.proofs.Reading.{kept-signed}
use Rattle.display.specs.Display.{sign_at, rest_of, digits_in, whole_of, int_in, int_of, decimal_of}

none-at : (sign : ℕ) → sign_at sign [] ≡ 0
unfolding sign_at
none-at sign = by (eqb sign 2) (eqb sign 3)
  where
    by : (a b : Bool) → ◌≡◌ {A = ℕ} (cond a 0 (cond b 0 0)) 0
    by true b = refl
    by false true = refl
    by false false = refl

module _ (g : ℕ → ℕ) (s : List ℕ) (sign : ℕ) where
  pub sign_none : length s ≡ 0 → sign_at sign (map g s) ≡ 0
  sign_none h = by s h
    where
      by : (l : List ℕ) → length l ≡ 0 → sign_at sign (map g l) ≡ 0
      by [] e = none-at sign
      by (x ∷ l) e = absurd (omega arith)

  pub sign-first : sign ≡ 2 → 0 < length s → sign_at sign (map g s) ≡ g (get_or s 0 0)
  unfolding sign_at
  sign-first e h = rw (eq-eqb sign 2 e) (get_d_map g s 0 h)

  pub sign-last : sign ≡ 3 → 0 < length s → sign_at sign (map g s) ≡ g (get_or s (length s - 1) 0)
  unfolding sign_at
  sign-last e h = rw (ne_eqb sign 2 (omega arith), eq-eqb sign 3 e, length-map s g) (get_d_map g s (length s - 1) (omega arith))

  pub sign_nowhere : ¬ (sign ≡ 2) → ¬ (sign ≡ 3) → sign_at sign (map g s) ≡ 0
  unfolding sign_at
  sign_nowhere a b = rw (ne_eqb sign 2 a, ne_eqb sign 3 b)

  pub rest-first : sign ≡ 2 → is_sign (sign_at sign (map g s)) ≡ true → map g (take (length s - 1) (drop 1 s)) ≡ rest_of sign (map g s)
  unfolding rest_of
  rest-first e h = rw (h, eq-eqb sign 2 e) (ap (map g) (tail-part s 1) ∙ map-drop g 1 s)

  pub rest-last : ¬ (sign ≡ 2) → is_sign (sign_at sign (map g s)) ≡ true → map g (take (length s - 1) s) ≡ rest_of sign (map g s)
  unfolding rest_of
  rest-last e h = rw (h, ne_eqb sign 2 e, length-map s g) (map-take g (length s - 1) s)

  pub rest_all : is_sign (sign_at sign (map g s)) ≡ false → map g s ≡ rest_of sign (map g s)
  unfolding rest_of
  rest_all h = rw h

  -- what is found: whether a sign is a minus, and the text without the sign
  pub record Stripped (minus : Option Bool) (rest : List ℕ) : Type 0 where
    pub told : minus ≡ cond (is_sign (sign_at sign (map g s))) (Some (eqb (sign_at sign (map g s)) 45)) None
    pub left : rest ≡ rest_of sign (map g s)

  pub stripped-nothing : sign_at sign (map g s) ≡ 0 → Stripped None (map g s)
  stripped-nothing e = record { told = rw e; left = rest_all (rw e) }

  -- the byte where a sign may stand, and the others
  pub record Ends (b : ℕ) (rest : List ℕ) : Type 0 where
    pub byte : sign_at sign (map g s) ≡ g b
    pub behind : is_sign (sign_at sign (map g s)) ≡ true → map g rest ≡ rest_of sign (map g s)

  pub ends-first : sign ≡ 2 → 0 < length s → Ends (get_or s 0 0) (take (length s - 1) (drop 1 s))
  ends-first e h = record { byte = sign-first e h; behind = rest-first e }

  pub ends-last : sign ≡ 3 → 0 < length s → Ends (get_or s (length s - 1) 0) (take (length s - 1) s)
  ends-last e h = record { byte = sign-last e h; behind = rest-last (omega arith) }

  module _ (b : ℕ) (rest : List ℕ) (ends : Ends b rest) (x : ℕ) (e : x ≡ g b) where
    at : sign_at sign (map g s) ≡ x
    at = ends.byte ∙ sym e

    pub stripped-minus : x ≡ 45 → Stripped (Some true) (map g rest)
    stripped-minus h = let m : sign_at sign (map g s) ≡ 45 = at ∙ h in record { told = rw m; left = ends.behind (rw m) }

    pub stripped-plus : x ≡ 43 → Stripped (Some false) (map g rest)
    stripped-plus h = let m : sign_at sign (map g s) ≡ 43 = at ∙ h in record { told = rw m; left = ends.behind (rw m) }

    pub stripped-other : ¬ (x ≡ 45) → ¬ (x ≡ 43) → Stripped None (map g s)
    stripped-other a c =
        let n : is_sign (sign_at sign (map g s)) ≡ false = rw (at, ne_eqb x 45 a, ne_eqb x 43 c) in
        record { told = rw n; left = rest_all n }

-- what is found of a byte where a sign may stand
abbrev Told : ℕ → Option Bool → Type 0
Told x minus = minus ≡ cond (is_sign x) (Some (eqb x 45)) None

pub told-some : (x : ℕ) (m : Bool) → Told x (Some m) → (is_sign x ≡ true) × (m ≡ eqb x 45)
told-some x m e = go (is_sign x) refl e
  where
    go : (b : Bool) → is_sign x ≡ b → Some m ≡ cond b (Some (eqb x 45)) None → (is_sign x ≡ true) × (m ≡ eqb x 45)
    go true s e = (s, cc)
    go false s e = cc

pub told-none : (x : ℕ) → Told x None → is_sign x ≡ false
told-none x e = go (is_sign x) refl e
  where
    go : (b : Bool) → is_sign x ≡ b → None ≡ cond b (Some (eqb x 45)) None → is_sign x ≡ false
    go true s e = cc
    go false s e = s

pub told-minus : (x : ℕ) (minus : Option Bool) → Told x minus → unwrap_or minus false ≡ eqb x 45
told-minus x minus e = rw e (go (eqb x 45) (eqb x 43))
  where
    go : (a b : Bool) → unwrap_or (cond (a || b) (Some a) None) false ≡ a
    go true b = refl
    go false true = refl
    go false false = refl

-- no sign is no minus
true-or : (minus : Option Bool) → option_eq beq minus (Some true) ≡ unwrap_or minus false
true-or None = refl
true-or (Some true) = refl
true-or (Some false) = refl

pub told-true : (x : ℕ) (minus : Option Bool) → Told x minus → option_eq beq minus (Some true) ≡ eqb x 45
told-true x minus e = true-or minus ∙ told-minus x minus e

-- ---- one leading sign or none

pub whole-none : (g : ℕ → ℕ) (s : List ℕ) → length s ≡ 0 → whole_of (map g s) ≡ unlawful
unfolding whole_of digits_in
whole-none g [] h = refl
whole-none g (x ∷ s) h = absurd (omega arith)

module _ (g : ℕ → ℕ) (s rest : List ℕ) (x : ℕ) (e : s ≡ x ∷ rest) where
  pub whole-minus : g x ≡ 45 → digits_in (2 ^ 63 + 1) true (map g rest) ≡ whole_of (map g s)
  unfolding whole_of
  whole-minus h = rw (e, eq-eqb (g x) 45 h)

  pub whole-plus : g x ≡ 43 → digits_in (2 ^ 63) false (map g rest) ≡ whole_of (map g s)
  unfolding whole_of
  whole-plus h = rw (e, ne_eqb (g x) 45 (omega arith), eq-eqb (g x) 43 h)

  pub whole_plain : ¬ (g x ≡ 45) → ¬ (g x ≡ 43) → digits_in (2 ^ 63) false (map g s) ≡ whole_of (map g s)
  unfolding whole_of
  whole_plain a b = rw (e, ne_eqb (g x) 45 a, ne_eqb (g x) 43 b)

-- ---- a field by its parts: t the trimmed text, rest without its separate sign, u that trimmed again

module _ (g : ℕ → ℕ) (sign : ℕ) (s t rest : List ℕ) (et : map g t ≡ trimmed (map g s)) (er : map g rest ≡ rest_of sign (map g t)) where
  pub decimal-is : with_sign (eqb (sign_at sign (map g t)) 45) (kept_by (read_in limit false) unlawful (map g rest)) ≡ decimal_of sign (map g s)
  unfolding decimal_of
  decimal-is = kept-signed limit (eqb (sign_at sign (map g t)) 45) (map g rest) ∙ rw (er, et)

  module _ (u : List ℕ) (eu : map g u ≡ trimmed (map g rest)) where
    int_is : int_in sign (map g t) (map g u) ≡ int_of sign (map g s)
    unfolding int_of
    int_is = rw (eu, er, et)

    pub int-empty : length u ≡ 0 → some false 0 ≡ int_of sign (map g s)
    unfolding int_in
    int-empty h = sym (rw (length-map u g, eq-eqb (length u) 0 h)) ∙ int_is

    pub int-taken : ¬ (length u ≡ 0) → is_sign (sign_at sign (map g t)) ≡ true
        → digits_in (2 ^ 63) (eqb (sign_at sign (map g t)) 45) (map g u) ≡ int_of sign (map g s)
    unfolding int_in
    int-taken h k = sym (rw (length-map u g, ne_eqb (length u) 0 h, k)) ∙ int_is

    pub int-plain : ¬ (length u ≡ 0) → is_sign (sign_at sign (map g t)) ≡ false → whole_of (map g u) ≡ int_of sign (map g s)
    unfolding int_in
    int-plain h k = sym (rw (length-map u g, ne_eqb (length u) 0 h, k)) ∙ int_is
