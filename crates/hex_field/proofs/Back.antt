-- A text of lower-case digits that was written into a Hex field is read back.
use mathlib.Core.Path.{◌≡◌, refl, ap, ◌∙◌}
use mathlib.Core.Bool.{Bool, true, false, cond}
use mathlib.Core.List.{List, [], ◌∷◌, append-nil}
use Prim.Native.Nat.{ℕ, ◌+◌, ◌-◌, ◌*◌, ◌/◌, ◌%◌, ◌<◌}
use native.Mathlib.Omega.{arith}
use lib.Dec.{eqb}
use native.Mathlib.Decide.{dec_lt}
use lib.ListN.{length, replicate, length-append, length-replicate}
use borrow.Author.Tests.{eqb-true, ltb-true, eq-eqb, ne_eqb, le-leb, lt-leb}
use Rattle.lists.specs.Scan.{every_by}
use Rattle.lists.proofs.Scan.{keep-every, every-weaker, every-head, every-tail}
use Rattle.lists.proofs.Logic.{and_left, and_right}
use Rattle.value.proofs.Digits.{high_digit, low_digit}
use Rattle.hex_field.specs.Hex.{hex_digit, hex_pair, hex_of, nibble_in, is_hex, is_ink, digits_in, pair_of, pair_up, judged_of, bytes_of, is_lower, Fits}
use Rattle.hex_field.proofs.Laws.{fine}

-- a digit is no blank
ink : (x : ℕ) → is_lower x ≡ true → is_ink x ≡ true
ink x e = go (dec_lt x 48)
  where
    go : Dec (x < 48) → is_ink x ≡ true
    go (yes h) =
        let n : nibble_in x ≡ 16 = rw (lt-leb 48 x h, lt-leb 65 x (omega arith), lt-leb 97 x (omega arith)) in
        let l : nibble_in x < 16 = ltb-true (nibble_in x) 16 (and_left (is_hex x) (eqb (hex_digit (nibble_in x)) x) e) in
        absurd (omega arith)
    go (no h) = rw (ne_eqb x 32 (omega arith), le-leb 9 x (omega arith), lt-leb x 13 (omega arith))

all-ink : (t : List ℕ) → every_by is_lower t ≡ true → digits_in t ≡ t
unfolding digits_in
all-ink t h = keep-every is_ink t (every-weaker is_lower is_ink ink t h)

small : (x : ℕ) → is_lower x ≡ true → nibble_in x < 16
small x e = ltb-true (nibble_in x) 16 (and_left (is_hex x) (eqb (hex_digit (nibble_in x)) x) e)

same : (x : ℕ) → is_lower x ≡ true → hex_digit (nibble_in x) ≡ x
same x e = eqb-true (hex_digit (nibble_in x)) x (and_right (is_hex x) (eqb (hex_digit (nibble_in x)) x) e)

pair-back : (order a b : ℕ) → is_lower a ≡ true → is_lower b ≡ true → hex_pair order (pair_of order a b) ≡ a ∷ b ∷ []
pair-back order a b p q = by (eqb order 0)
  where
    by : (t : Bool) → cond t (hex_digit (cond t (nibble_in a * 16 + nibble_in b) (nibble_in b * 16 + nibble_in a) / 16) ∷ hex_digit (cond t (nibble_in a * 16 + nibble_in b) (nibble_in b * 16 + nibble_in a) % 16) ∷ [])
        (hex_digit (cond t (nibble_in a * 16 + nibble_in b) (nibble_in b * 16 + nibble_in a) % 16) ∷ hex_digit (cond t (nibble_in a * 16 + nibble_in b) (nibble_in b * 16 + nibble_in a) / 16) ∷ []) ≡ a ∷ b ∷ []
    by true = ap (λ (n : ℕ). hex_digit n ∷ hex_digit ((nibble_in a * 16 + nibble_in b) % 16) ∷ []) (high_digit (nibble_in a) (nibble_in b) (small b q))
        ∙ ap (λ (n : ℕ). hex_digit (nibble_in a) ∷ hex_digit n ∷ []) (low_digit (nibble_in a) (nibble_in b) (small b q))
        ∙ ap (λ (n : ℕ). n ∷ hex_digit (nibble_in b) ∷ []) (same a p) ∙ ap (λ (n : ℕ). a ∷ n ∷ []) (same b q)
    by false = ap (λ (n : ℕ). hex_digit n ∷ hex_digit ((nibble_in b * 16 + nibble_in a) / 16) ∷ []) (low_digit (nibble_in b) (nibble_in a) (small a p))
        ∙ ap (λ (n : ℕ). hex_digit (nibble_in a) ∷ hex_digit n ∷ []) (high_digit (nibble_in b) (nibble_in a) (small a p))
        ∙ ap (λ (n : ℕ). n ∷ hex_digit (nibble_in b) ∷ []) (same a p) ∙ ap (λ (n : ℕ). a ∷ n ∷ []) (same b q)

pairs-back : (order w : ℕ) (t : List ℕ) → length t ≡ 2 * w → every_by is_lower t ≡ true → hex_of order (pair_up order t) ≡ t
unfolding hex_of
pairs-back order w [] e h = refl
pairs-back order w (a ∷ []) e h = absurd (omega arith)
pairs-back order w (a ∷ b ∷ t) e h =
    let p = every-head is_lower a (b ∷ t) h in
    let r = every-tail is_lower a (b ∷ t) h in
    let q = every-head is_lower b t r in
    rw (pair-back order a b p q) (ap (λ (l : List ℕ). a ∷ b ∷ l) (pairs-back order (w - 1) t (omega arith) (every-tail is_lower b t r)))

pub hex-back : (order w : ℕ) (t : List ℕ) → Fits w t → hex_of order (bytes_of order w t) ≡ t
unfolding bytes_of
hex-back order w t f =
    let l = f.long in
    let z : w - length t / 2 ≡ 0 = omega arith in
    rw (all-ink t f.lower, z, append-nil) (pairs-back order w t l f.lower)

-- such a text is not refused, and its bytes are as many as the field has
pub hex-fits : (w : ℕ) (t : List ℕ) → Fits w t → judged_of w t ≡ 0
unfolding judged_of
hex-fits w t f =
    let l = f.long in
    let e : length t % 2 ≡ 0 = omega arith in
    rw (all-ink t f.lower, every-weaker is_lower is_hex (λ x q. and_left (is_hex x) (eqb (hex_digit (nibble_in x)) x) q) t f.lower, eq-eqb (length t % 2) 0 e, le-leb (length t) (2 * w) (omega arith))

pairs-length : (order : ℕ) (t : List ℕ) → length (pair_up order t) ≡ length t / 2
pairs-length order [] = refl
pairs-length order (a ∷ []) = refl
pairs-length order (a ∷ b ∷ t) = let h = pairs-length order t in omega arith

pub bytes-length : (order w : ℕ) (t : List ℕ) → judged_of w t ≡ 0 → length (bytes_of order w t) ≡ w
unfolding bytes_of
bytes-length order w t z =
    let p = pairs-length order (digits_in t) in
    let f = (fine w t z).1.1 in
    length-append (pair_up order (digits_in t)) (replicate (w - length (digits_in t) / 2) 0) ∙ rw (p, length-replicate) (omega arith)
