-- A trimmed text whose last byte is overpunched: zoned reading refuses it by 8 unless digits stand before that byte, and so does reading it as any other Int.
use mathlib.Core.Path.{◌≡◌, refl, sym, ap, ◌∙◌}
use mathlib.Core.List.{List, [], ◌∷◌, ◌++◌, map}
use mathlib.Core.Bool.{Bool, true, false, ◌&&◌, ◌||◌, cond, and-false}
use Prim.Native.Nat.{ℕ, suc, ◌+◌, ◌-◌, ◌^◌, ◌<◌}
use native.Mathlib.Decide.{dec_lt}
use native.Mathlib.Omega.{arith}
use lib.Dec.{eqb, leb, ltb}
use lib.ListN.{length, get_or, take, length-append, length-map}
use lib.Seq.{take-length, take-suc}
use borrow.Author.Tests.{lt-ltb, le-ltb, lt-leb, le-leb, ne_eqb, eqb-true, leb-true}
use Rattle.lists.specs.Scan.{left_by, every_by}
use Rattle.lists.proofs.Lists.{get_d_map}
use Rattle.lists.proofs.Logic.{and_left}
use Rattle.lists.proofs.Scan.{right_kept}
use Rattle.value.specs.Answer.{Answer}
use Rattle.value.specs.Digits.{is_digit, digits_ok, spread}
use Rattle.value.specs.Field.{last_of, field_of}
use Rattle.value.specs.declared.Whole.{Whole}
use Rattle.value.specs.Number.{read_in, unlawful}
use Rattle.value.proofs.Digits.{past, ok-append}
use Rattle.value.proofs.Field as Field
use Rattle.value.proofs.Field.{last_snoc}
use Rattle.numerals.specs.Numerals.{is_blank, trimmed}
use Rattle.numerals.proofs.Text.{no-blank}
use Rattle.display.specs.Display as Display
use Rattle.zoned.specs.Zoned.{zone, digit_of, last_digit, any_sign, minus, zoned_by}
use Rattle.decode_scalar.specs.Decode.{is_overpunched, is_zoned, embedded_of}

-- { } A to R stand above the digits, the signs and the blanks
pub over-high : (b : ℕ) → is_overpunched b ≡ true → 64 < b
over-high b e = by (leb 0x41 b && leb b 0x52) (eqb b 0x7B) refl refl e
  where
    by : (x y : Bool) → (leb 0x41 b && leb b 0x52) ≡ x → eqb b 0x7B ≡ y → (x || (y || eqb b 0x7D)) ≡ true → 64 < b
    by true y p q e = leb-true 0x41 b (and_left (leb 0x41 b) (leb b 0x52) p)
    by false true p q e = let k = eqb-true b 0x7B q in omega arith
    by false false p q e = let k = eqb-true b 0x7D e in omega arith

pub ends_some : (t : List ℕ) → is_overpunched (last_of t) ≡ true → 0 < length t
ends_some [] e = let h = over-high 0 e in absurd (omega arith)
ends_some (x ∷ t) e = omega arith

-- ---- the last byte, as it is found on a page

pub last_none : (g : ℕ → ℕ) (s : List ℕ) → length s ≡ 0 → is_overpunched (last_of (map g s)) ≡ false
last_none g [] h = refl
last_none g (x ∷ s) h = absurd (omega arith)

pub last_some : (g : ℕ → ℕ) (s : List ℕ) → 0 < length s → last_of (map g s) ≡ g (get_or s (length s - 1) 0)
last_some g s h = rw (length-map s g) (get_d_map g s (length s - 1) (omega arith))

-- ---- as a zoned number

zone-digit : (x : ℕ) → ltb (digit_of x) 10 ≡ is_digit x
zone-digit x = go (dec_lt x 48) (dec_lt 57 x)
  where
    go : Dec (x < 48) → Dec (57 < x) → ltb (digit_of x) 10 ≡ is_digit x
    go (yes h) d = rw (lt-ltb x 48 h, lt-leb 48 x h)
    go (no h) (yes k) = rw (le-ltb x 48 (omega arith), le-ltb (x - 48) 10 (omega arith), past 48 57 x k)
    go (no h) (no k) = rw (le-ltb x 48 (omega arith), lt-ltb (x - 48) 10 (omega arith), le-leb 48 x (omega arith), le-leb x 57 (omega arith))

zone-digits : (s : List ℕ) → digits_ok (spread zone s) ≡ every_by is_digit s
unfolding every_by
zone-digits [] = refl
zone-digits (x ∷ s) = rw (zone-digit x, zone-digits s)

zoned-bad : (t : List ℕ) → every_by is_digit (take (length t - 1) t) ≡ false → zoned_by (read_in (2 ^ 63)) unlawful t ≡ unlawful
unfolding field_of
zoned-bad t e =
    let f = take (length t - 1) t in
    rw (ok-append (spread zone f) (last_digit (last_of t) ∷ []), zone-digits f, e, and-false (ltb 0 (length t)))

-- ---- as any other Int

split : (t : List ℕ) → 0 < length t → t ≡ take (length t - 1) t ++ (last_of t ∷ [])
split t h =
    let n : length t ≡ suc (length t - 1) = omega arith in
    sym (take-length t) ∙ ap (λ (k : ℕ). take k t) n ∙ take-suc t (length t - 1) 0 (omega arith)

left-snoc : (f : ℕ → Bool) (s : List ℕ) (b : ℕ) → f b ≡ false → left_by f (s ++ (b ∷ [])) ≡ left_by f s ++ (b ∷ [])
unfolding left_by
left-snoc f [] b e = rw e
left-snoc f (x ∷ s) b e = by (f x) (left-snoc f s b e)
  where
    by : (t : Bool) → left_by f (s ++ (b ∷ [])) ≡ left_by f s ++ (b ∷ []) → cond t (left_by f (s ++ (b ∷ []))) (x ∷ (s ++ (b ∷ []))) ≡ cond t (left_by f s) (x ∷ s) ++ (b ∷ [])
    by true q = q
    by false q = refl

every-snoc : (f : ℕ → Bool) (s : List ℕ) (b : ℕ) → f b ≡ false → every_by f (s ++ (b ∷ [])) ≡ false
unfolding every_by
every-snoc f [] b e = rw e
every-snoc f (x ∷ s) b e = rw (every-snoc f s b e) (and-false (f x))

module _ (b : ℕ) (high : 64 < b) where
  digits-bad : (bound : ℕ) (negative : Bool) (s : List ℕ) → Display.digits_in bound negative (s ++ (b ∷ [])) ≡ unlawful
  unfolding Display.digits_in
  digits-bad bound negative s = rw (every-snoc is_digit s b (past 48 57 b (omega arith)), and-false (ltb 0 (length (s ++ (b ∷ [])))))

  whole-bad : (s : List ℕ) → Display.whole_of (s ++ (b ∷ [])) ≡ unlawful
  unfolding Display.whole_of
  whole-bad [] = rw (ne_eqb b 45 (omega arith), ne_eqb b 43 (omega arith)) (digits-bad (2 ^ 63) false [])
  whole-bad (x ∷ s) = by (eqb x 45) (eqb x 43)
    where
      by : (m p : Bool) → cond m (Display.digits_in (2 ^ 63 + 1) true (s ++ (b ∷ [])))
          (cond p (Display.digits_in (2 ^ 63) false (s ++ (b ∷ []))) (Display.digits_in (2 ^ 63) false (x ∷ (s ++ (b ∷ []))))) ≡ unlawful
      by true p = digits-bad (2 ^ 63 + 1) true s
      by false true = digits-bad (2 ^ 63) false s
      by false false = digits-bad (2 ^ 63) false (x ∷ s)

  trimmed-snoc : (s : List ℕ) → trimmed (s ++ (b ∷ [])) ≡ left_by is_blank s ++ (b ∷ [])
  trimmed-snoc s =
      let n = no-blank b (omega arith) in
      let t = left_by is_blank s ++ (b ∷ []) in
      rw (left-snoc is_blank s b n) (right_kept is_blank t (λ _. rw (last_snoc (left_by is_blank s) b) n))

  text-bad : (s : List ℕ) → Display.int_in 1 (s ++ (b ∷ [])) (trimmed (s ++ (b ∷ []))) ≡ unlawful
  unfolding Display.int_in Display.sign_at
  text-bad s =
      let l = length-append (left_by is_blank s) (b ∷ []) in
      rw (trimmed-snoc s, ne_eqb (length (left_by is_blank s ++ (b ∷ []))) 0 (omega arith)) (whole-bad (left_by is_blank s))

int-bad : (s : List ℕ) → is_overpunched (last_of (trimmed s)) ≡ true → Display.int_of 1 s ≡ unlawful
unfolding Display.int_of Display.rest_of Display.sign_at
int-bad s e =
    let t = trimmed s in
    ap (λ (u : List ℕ). Display.int_in 1 u (trimmed u)) (split t (ends_some t e)) ∙ text-bad (last_of t) (over-high (last_of t) e) (take (length t - 1) t)

-- ---- so the last byte alone tells how the text is read

pub zoned-said : (s : List ℕ) → is_overpunched (last_of (trimmed s)) ≡ true → zoned_by (read_in (2 ^ 63)) unlawful (trimmed s) ≡ embedded_of s
unfolding embedded_of
zoned-said s e = by (every_by is_digit (take (length (trimmed s) - 1) (trimmed s))) refl
  where
    by : (d : Bool) → every_by is_digit (take (length (trimmed s) - 1) (trimmed s)) ≡ d
        → zoned_by (read_in (2 ^ 63)) unlawful (trimmed s) ≡ cond (d && is_overpunched (last_of (trimmed s))) (zoned_by (read_in (2 ^ 63)) unlawful (trimmed s)) (Display.int_of 1 s)
    by true q = rw e
    by false q = zoned-bad (trimmed s) q ∙ sym (int-bad s e)

pub text-said : (s : List ℕ) → is_overpunched (last_of (trimmed s)) ≡ false → Display.int_of 1 s ≡ embedded_of s
unfolding embedded_of
text-said s e = rw (e, and-false (every_by is_digit (take (length (trimmed s) - 1) (trimmed s))))

-- what holds of every number below 2^63, of what refuses by 8, and of the field as it was read before, holds of a signed Embedded Int
pub embedded-all : (P : Answer Whole → Type 0) (s : List ℕ) → ((negative : Bool) (v : ℕ) → P (read_in (2 ^ 63) negative v)) → P unlawful → P (Display.int_of 1 s) → P (embedded_of s)
unfolding embedded_of
embedded-all P s a b c = by (is_zoned (trimmed s))
  where
    by : (z : Bool) → P (cond z (zoned_by (read_in (2 ^ 63)) unlawful (trimmed s)) (Display.int_of 1 s))
    by true = Field.field-all zone last_digit any_sign (λ x v. read_in (2 ^ 63) (minus x) v) unlawful (trimmed s) P (λ v. a (minus (last_of (trimmed s))) v) b
    by false = c
