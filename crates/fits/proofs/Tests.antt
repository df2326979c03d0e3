-- Tests and what they decide, part by part.
use mathlib.Core.Path.{◌≡◌, refl, sym, ap, ◌∙◌, subst}
use mathlib.Core.List.{List, [], ◌∷◌, ◌++◌}
use mathlib.Core.Bool.{Bool, true, false, not, ◌&&◌, ◌||◌, cond, false≢true}
use Prim.Native.Nat.{ℕ, zero, suc, ◌+◌, ◌-◌, ◌*◌, ◌^◌, ◌<◌, ◌≤◌}
use native.Mathlib.Nat.{zero-lt-suc, le_of_suc-le-suc, le_of_eq}
use native.Mathlib.Omega.{arith}
use lib.Dec.{eqb, leb, ltb, T}
use lib.ListN.{length, get_or, length-append}
use lib.Seq.{get_or_at, get_or-append-add}
use lib.Ieee.{Float, binary64, fits, is_nan, of_bits, to_bits, nan_bits}
use lib.Ieee.Bits.{of_bits-to_bits, of_bits-fits, nan_bits_is, is_true}
use borrow.Author.Tests.{lt-ltb, le-leb, eq-eqb, ne_eqb, eqb-true, ltb-true, leb-true, not-true}
use Rattle.lists.specs.Scan.{every_by}
use Rattle.lists.proofs.Scan.{every_true, every-head, every-tail}
use Rattle.lists.proofs.Logic.{both, and, or_right, or_else}
use Rattle.value.specs.declared.Scalar.TheVariants.{Float as FloatV}
use Rattle.value.specs.Digits.{limit}
use Rattle.value.specs.Field.{last_of}
use Rattle.value.specs.Scalar.{float_of}
use Rattle.text.specs.Text as Text
use Rattle.value.proofs.Field.{last_snoc}
use Rattle.numerals.specs.Numerals.{is_sign}
use Rattle.display.specs.Display.{is_separate}
use Rattle.hex_field.specs.Hex as Hex
use Rattle.edited.specs.Edited.{is_lawful, is_floating, count_of, positions}
use Rattle.edited.specs.Fits as Edited
use Rattle.edited.specs.Fits.Tells.{first-plus, first-minus, last-plus, last-minus, credit, debit}
use Rattle.decode_scalar.specs.Decode.{flag}
use Rattle.fits.specs.Fits.{Minus, Digits, plain, separate, InRange, unsigned, plus, minus, Signed}
use Rattle.fits.specs.Decide.{byte_ok, is_text_byte, cut_end_ok, text_fits, hex_fits, minus_ok, digits_fit, in_range, sign_ok, last_two, tells, edited_minus_ok, mask_fits}

-- ---- Text

every-at : (f : ℕ → Bool) (t : List ℕ) → every_by f t ≡ true → (k : ℕ) → k < length t → f (get_or t k 0) ≡ true
every-at f [] e k h = absurd (omega arith)
every-at f (x ∷ t) e zero h = every-head f x t e
every-at f (x ∷ t) e (suc k) h = every-at f t (every-tail f x t e) k (le_of_suc-le-suc h)

pub text-sound : (right trim : Bool) (pad w : ℕ) (t : List ℕ) → text_fits right trim pad w t ≡ true → Text.Fits right trim pad w t
unfolding text_fits
text-sound right true pad w t e =
    let a = both (leb (length t) w) (every_by is_text_byte t && cut_end_ok right pad t) e in
    let b = both (every_by is_text_byte t) (cut_end_ok right pad t) a.1 in
    let at : (k : ℕ) → k < length t → (ltb 0 (get_or t k 0) ≡ true) × (byte_ok (get_or t k 0) ≡ true) = λ k h. both (ltb 0 (get_or t k 0)) (byte_ok (get_or t k 0)) (every-at is_text_byte t b.0 k h) in
    let end = get_or t (cond right 0 (length t - 1)) 0 in
    record {
      bytes = λ k h. ltb-true (get_or t k 0) 256 (at k h).1;
      room = leb-true (length t) w a.0;
      no_zero = λ _ k h z. let p = ltb-true 0 (get_or t k 0) (at k h).0 in omega arith;
      no_pad = λ _ h z. absurd (false≢true (sym (ap not (eq-eqb end pad z)) ∙ or_else (eqb (length t) 0) (not (eqb end pad)) (ne_eqb (length t) 0 (λ q. omega arith)) b.1));
      whole = λ f. absurd (false≢true (sym f));
    }
text-sound right false pad w t e =
    let a = both (eqb (length t) w) (every_by byte_ok t) e in
    let long = eqb-true (length t) w a.0 in
    record {
      bytes = λ k h. ltb-true (get_or t k 0) 256 (every-at byte_ok t a.1 k h);
      room = le_of_eq long;
      no_zero = λ f. absurd (false≢true f);
      no_pad = λ f. absurd (false≢true f);
      whole = λ _. long;
    }

pub text-complete : (right trim : Bool) (pad w : ℕ) (t : List ℕ) → Text.Fits right trim pad w t → text_fits right trim pad w t ≡ true
unfolding text_fits
text-complete right true pad w t f =
    and (le-leb (length t) w f.room)
    (and (every_true is_text_byte t (λ k h. and (lt-ltb 0 (get_or t k 0) (some k h)) (lt-ltb (get_or t k 0) 256 (f.bytes k h))))
    (end (length t) refl))
  where
    some : (k : ℕ) → k < length t → 0 < get_or t k 0
    some k h = let n = f.no_zero refl k h in omega arith

    end : (n : ℕ) → length t ≡ n → cut_end_ok right pad t ≡ true
    end zero e = rw e
    end (suc n) e = or_right (eqb (length t) 0) (not (eqb (get_or t (cond right 0 (length t - 1)) 0) pad)) (ap not (ne_eqb (get_or t (cond right 0 (length t - 1)) 0) pad (f.no_pad refl (omega arith))))
text-complete right false pad w t f = and (eq-eqb (length t) w (f.whole refl)) (every_true byte_ok t (λ k h. lt-ltb (get_or t k 0) 256 (f.bytes k h)))

pub hex-sound : (w : ℕ) (t : List ℕ) → hex_fits w t ≡ true → Hex.Fits w t
unfolding hex_fits
hex-sound w t e =
    let a = both (eqb (length t) (2 * w)) (every_by Hex.is_lower t) e in
    record { lower = a.1; long = eqb-true (length t) (2 * w) a.0 }

pub hex-complete : (w : ℕ) (t : List ℕ) → Hex.Fits w t → hex_fits w t ≡ true
unfolding hex_fits
hex-complete w t f = and (eq-eqb (length t) (2 * w) f.long) f.lower

-- ---- signs and digits

pub minus-sound : (negative : Bool) (size : ℕ) → minus_ok negative size ≡ true → Minus negative size
minus-sound true size e n = ltb-true 0 size e
minus-sound false size e n = absurd (false≢true n)

pub minus-complete : (negative : Bool) (size : ℕ) → Minus negative size → minus_ok negative size ≡ true
minus-complete true size m = lt-ltb 0 size (m refl)
minus-complete false size m = refl

pub sign-sound : (sign : ℕ) (negative : Bool) (size : ℕ) → sign_ok sign negative size ≡ true → Signed sign negative size
sign-sound sign true size e = let a = both (flag sign) (ltb 0 size) e in (λ n. a.0, λ n. ltb-true 0 size a.1)
sign-sound sign false size e = (λ n. absurd (false≢true n), λ n. absurd (false≢true n))

pub sign-complete : (sign : ℕ) (negative : Bool) (size : ℕ) → Signed sign negative size → sign_ok sign negative size ≡ true
sign-complete sign true size (f, m) = and (f refl) (lt-ltb 0 size (m refl))
sign-complete sign false size f = refl

pub digits-sound : (w sign : ℕ) (negative : Bool) (size : ℕ) → digits_fit w sign negative size ≡ true → Digits w sign negative size
unfolding digits_fit
digits-sound w sign negative size e = by (is_separate sign) refl e
  where
    by : (b : Bool) → is_separate sign ≡ b → cond b (leb 2 w && (ltb size (10 ^ (w - 1)) && minus_ok negative size)) (ltb 0 w && (ltb size (10 ^ w) && not negative)) ≡ true → Digits w sign negative size
    by true s e =
        let a = both (leb 2 w) (ltb size (10 ^ (w - 1)) && minus_ok negative size) e in
        let b = both (ltb size (10 ^ (w - 1))) (minus_ok negative size) a.1 in
        separate negative size s (leb-true 2 w a.0) (ltb-true size (10 ^ (w - 1)) b.0) (minus-sound negative size b.1)
    by false s e =
        let a = both (ltb 0 w) (ltb size (10 ^ w) && not negative) e in
        let b = both (ltb size (10 ^ w)) (not negative) a.1 in
        rw (not-true negative b.1) (plain size s (ltb-true 0 w a.0) (ltb-true size (10 ^ w) b.0))

pub digits-complete : {w sign : ℕ} {negative : Bool} {size : ℕ} → Digits w sign negative size → digits_fit w sign negative size ≡ true
unfolding digits_fit
digits-complete {w} {sign} (plain size s h k) = rw (s, lt-ltb 0 w h, lt-ltb size (10 ^ w) k)
digits-complete {w} {sign} (separate negative size s h k m) = rw (s, le-leb 2 w h, lt-ltb size (10 ^ (w - 1)) k) (minus-complete negative size m)

-- ---- Binary

pub range-sound : (w : ℕ) (signed negative : Bool) (size : ℕ) → in_range w signed negative size ≡ true → InRange w signed negative size
range-sound w false true size e = absurd (false≢true e)
range-sound w false false size e =
    let a = both (ltb size (256 ^ w)) (ltb size (2 ^ 63)) e in
    unsigned size (ltb-true size (256 ^ w) a.0) (ltb-true size (2 ^ 63) a.1)
range-sound w true false size e = plus size (ltb-true (2 * size) (256 ^ w) e)
range-sound w true true size e =
    let a = both (ltb 0 size) (leb (2 * size) (256 ^ w)) e in
    minus size (ltb-true 0 size a.0) (leb-true (2 * size) (256 ^ w) a.1)

pub range-complete : {w : ℕ} {signed negative : Bool} {size : ℕ} → InRange w signed negative size → in_range w signed negative size ≡ true
range-complete {w} (unsigned size h k) = and (lt-ltb size (256 ^ w) h) (lt-ltb size (2 ^ 63) k)
range-complete {w} (plus size h) = lt-ltb (2 * size) (256 ^ w) h
range-complete {w} (minus size z h) = and (lt-ltb 0 size z) (le-leb (2 * size) (256 ^ w) h)

-- ---- Float: a scalar that a word's float is

truth : (b : Bool) → b ≡ true → T b
truth b e = subst T (sym e) tt

pub plain_float : (x : Float) → (fits binary64 x && not (is_nan x)) ≡ true → float_of (to_bits binary64 x) ≡ FloatV x
plain_float x e =
    let a = both (fits binary64 x) (not (is_nan x)) e in
    let s = of_bits-to_bits binary64 x (truth (fits binary64 x) a.0) in
    let n : nan_bits binary64 (to_bits binary64 x) ≡ false = nan_bits_is binary64 (to_bits binary64 x) ∙ ap is_nan s ∙ not-true (is_nan x) a.1 in
    rw (n, s)

pub float_plain : (x : ℕ) → nan_bits binary64 x ≡ false → (fits binary64 (of_bits binary64 x) && not (is_nan (of_bits binary64 x))) ≡ true
float_plain x e = and (is_true (fits binary64 (of_bits binary64 x)) (of_bits-fits binary64 x)) (ap not (sym (nan_bits_is binary64 x) ∙ e))

-- ---- Edited

pub data Ends (mask n : List ℕ) : Type 0 where
  ends : (m : List ℕ) → mask ≡ m ++ n → Ends mask n

-- one element more in front
more : (x : ℕ) {m n : List ℕ} → Ends m n → Ends (x ∷ m) n
more x (ends k e) = ends (x ∷ k) (ap (λ (l : List ℕ). x ∷ l) e)

last-at : (m : List ℕ) (n : ℕ) → length m ≡ suc n → Ends m (get_or m n 0 ∷ [])
last-at [] n h = absurd (omega arith)
last-at (x ∷ []) zero h = ends [] refl
last-at (x ∷ y ∷ m) zero h = absurd (omega arith)
last-at (x ∷ m) (suc n) h = more x (last-at m n (omega arith))

two_at : (m : List ℕ) (n : ℕ) → length m ≡ n + 2 → Ends m (get_or m n 0 ∷ get_or m (suc n) 0 ∷ [])
two_at [] n h = absurd (omega arith)
two_at (x ∷ []) n h = absurd (omega arith)
two_at (x ∷ y ∷ []) zero h = ends [] refl
two_at (x ∷ y ∷ z ∷ m) zero h = absurd (omega arith)
two_at (x ∷ y ∷ m) (suc n) h = more x (two_at (y ∷ m) n (omega arith))

last-ends : (m : List ℕ) → 0 < length m → Ends m (last_of m ∷ [])
last-ends m h = last-at m (length m - 1) (omega arith)

two_ends : (m : List ℕ) → 2 ≤ length m → Ends m (get_or m (length m - 2) 0 ∷ last_of m ∷ [])
two_ends m h =
    let e : suc (length m - 2) ≡ length m - 1 = omega arith in
    subst (λ (k : ℕ). Ends m (get_or m (length m - 2) 0 ∷ get_or m k 0 ∷ [])) e (two_at m (length m - 2) (omega arith))

first-tells : (mask : List ℕ) → is_sign (get_or mask 0 0) ≡ true → Edited.Tells mask
first-tells [] e = absurd (false≢true e)
first-tells (x ∷ m) e = by (eqb x 45) refl e
  where
    by : (b : Bool) → eqb x 45 ≡ b → (b || eqb x 43) ≡ true → Edited.Tells (x ∷ m)
    by true p q = rw (eqb-true x 45 p) (first-minus m)
    by false p q = rw (eqb-true x 43 q) (first-plus m)

last-tells : (mask : List ℕ) → is_sign (last_of mask) ≡ true → Edited.Tells mask
last-tells [] e = absurd (false≢true e)
last-tells (x ∷ m) e = by (last_of (x ∷ m)) (last-ends (x ∷ m) (zero-lt-suc (length m))) e
  where
    by : (y : ℕ) → Ends (x ∷ m) (y ∷ []) → is_sign y ≡ true → Edited.Tells (x ∷ m)
    by y (ends k f) e = go (eqb y 45) refl e
      where
        go : (b : Bool) → eqb y 45 ≡ b → (b || eqb y 43) ≡ true → Edited.Tells (x ∷ m)
        go true p q = rw (f, eqb-true y 45 p) (last-minus k)
        go false p q = rw (f, eqb-true y 43 q) (last-plus k)

two-tells : (a b : ℕ) (mask : List ℕ) → last_two a b mask ≡ true → Ends mask (a ∷ b ∷ [])
two-tells a b mask e =
    let p = both (leb 2 (length mask)) (eqb (get_or mask (length mask - 2) 0) a && eqb (last_of mask) b) e in
    let q = both (eqb (get_or mask (length mask - 2) 0) a) (eqb (last_of mask) b) p.1 in
    let f = eqb-true (get_or mask (length mask - 2) 0) a q.0 in
    let g = eqb-true (last_of mask) b q.1 in
    subst (λ (y : ℕ). Ends mask (a ∷ y ∷ [])) g (subst (λ (y : ℕ). Ends mask (y ∷ last_of mask ∷ [])) f (two_ends mask (leb-true 2 (length mask) p.0)))

pub tells-sound : (mask : List ℕ) → tells mask ≡ true → Edited.Tells mask
unfolding tells
tells-sound mask e = by (is_sign (get_or mask 0 0)) (is_sign (last_of mask)) (last_two 67 82 mask) refl refl refl e
  where
    cr : Ends mask (67 ∷ 82 ∷ []) → Edited.Tells mask
    cr (ends m f) = rw f (credit m)

    db : Ends mask (68 ∷ 66 ∷ []) → Edited.Tells mask
    db (ends m f) = rw f (debit m)

    by : (a b c : Bool) → is_sign (get_or mask 0 0) ≡ a → is_sign (last_of mask) ≡ b → last_two 67 82 mask ≡ c → (a || (b || (c || last_two 68 66 mask))) ≡ true → Edited.Tells mask
    by true b c p q r e = first-tells mask p
    by false true c p q r e = last-tells mask q
    by false false true p q r e = cr (two-tells 67 82 mask r)
    by false false false p q r e = db (two-tells 68 66 mask e)

two-last : (a b : ℕ) (m : List ℕ) → last_two a b (m ++ (a ∷ b ∷ [])) ≡ true
two-last a b m =
    let t = m ++ (a ∷ b ∷ []) in
    let n : length t ≡ length m + 2 = length-append m (a ∷ b ∷ []) in
    let g : get_or t (length t - 2) 0 ≡ a = get_or_at m a (b ∷ []) 0 (length t - 2) (omega arith) in
    let q : length t - 1 ≡ length m + 1 = omega arith in
    let h : last_of t ≡ b = ap (λ (k : ℕ). get_or t k 0) q ∙ get_or-append-add m (a ∷ b ∷ []) 1 0 in
    and (le-leb 2 (length t) (omega arith)) (and (eq-eqb (get_or t (length t - 2) 0) a g) (eq-eqb (last_of t) b h))

pub tells-complete : {mask : List ℕ} → Edited.Tells mask → tells mask ≡ true
unfolding tells
tells-complete (first-plus m) = refl
tells-complete (first-minus m) = refl
tells-complete (last-plus m) = or_right (is_sign (get_or (m ++ (43 ∷ [])) 0 0)) _ (rw (last_snoc m 43))
tells-complete (last-minus m) = or_right (is_sign (get_or (m ++ (45 ∷ [])) 0 0)) _ (rw (last_snoc m 45))
tells-complete (credit m) =
    let t = m ++ (67 ∷ 82 ∷ []) in
    or_right (is_sign (get_or t 0 0)) _ (or_right (is_sign (last_of t)) _ (rw (two-last 67 82 m)))
tells-complete (debit m) =
    let t = m ++ (68 ∷ 66 ∷ []) in
    or_right (is_sign (get_or t 0 0)) _ (or_right (is_sign (last_of t)) _ (or_right (last_two 67 82 t) _ (two-last 68 66 m)))

pub edited-sound : (signed negative : Bool) (size : ℕ) (mask : List ℕ) → mask_fits size mask ≡ true → edited_minus_ok signed negative size mask ≡ true
    → Edited.Fits signed negative size mask × ((size < limit) × Minus negative size)
edited-sound signed negative size mask e f =
    let a = both (is_lawful mask) (not (is_floating mask) && (eqb (count_of 48 mask) 0 && (ltb 0 (positions mask) && (ltb size (10 ^ positions mask) && ltb size limit)))) e in
    let b = both (not (is_floating mask)) (eqb (count_of 48 mask) 0 && (ltb 0 (positions mask) && (ltb size (10 ^ positions mask) && ltb size limit))) a.1 in
    let c = both (eqb (count_of 48 mask) 0) (ltb 0 (positions mask) && (ltb size (10 ^ positions mask) && ltb size limit)) b.1 in
    let d = both (ltb 0 (positions mask)) (ltb size (10 ^ positions mask) && ltb size limit) c.1 in
    let g = both (ltb size (10 ^ positions mask)) (ltb size limit) d.1 in
    let m = sign negative f in (
      record {
        lawful = a.0;
        fixed = not-true (is_floating mask) b.0;
        no_zero = eqb-true (count_of 48 mask) 0 c.0;
        some = ltb-true 0 (positions mask) d.0;
        enough = ltb-true size (10 ^ positions mask) g.0;
        has-sign = λ n. (m n).1.0;
        tells = λ n. (m n).1.1;
      },
      (ltb-true size limit g.1, λ n. (m n).0),
    )
  where
    sign : (n : Bool) → edited_minus_ok signed n size mask ≡ true → n ≡ true → (0 < size) × ((signed ≡ true) × Edited.Tells mask)
    sign true f e =
        let p = both (ltb 0 size) (signed && tells mask) f in
        let q = both signed (tells mask) p.1 in
        (ltb-true 0 size p.0, (q.0, tells-sound mask q.1))
    sign false f e = absurd (false≢true e)

pub edited-complete : (signed negative : Bool) (size : ℕ) (mask : List ℕ) → Edited.Fits signed negative size mask → size < limit → Minus negative size
    → (mask_fits size mask ≡ true) × (edited_minus_ok signed negative size mask ≡ true)
edited-complete signed negative size mask f l m = (
  rw (f.lawful, f.fixed, f.no_zero, lt-ltb 0 (positions mask) f.some, lt-ltb size (10 ^ positions mask) f.enough, lt-ltb size limit l),
  sign negative f.has-sign f.tells m,
)
  where
    sign : (n : Bool) → (n ≡ true → signed ≡ true) → (n ≡ true → Edited.Tells mask) → Minus n size → edited_minus_ok signed n size mask ≡ true
    sign true s t m = and (lt-ltb 0 size (m refl)) (and (s refl) (tells-complete (t refl)))
    sign false s t m = refl
