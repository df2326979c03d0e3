-- The numbers that Int, Binary and Decimal fields say: one that is not negative is below 2^63.
use mathlib.Core.Path.{◌≡◌, refl}
use mathlib.Core.Bool.{Bool, true, false, ◌&&◌, cond, true≢false}
use mathlib.Core.List.{List, map}
use Prim.Native.Nat.{ℕ, zero, suc, ◌+◌, ◌-◌, ◌/◌, ◌%◌, ◌^◌, ◌<◌, ◌≤◌}
use native.Mathlib.Omega.{arith}
use lib.Dec.{eqb, ltb, leb}
use lib.ListN.{length, get_or, drop}
use borrow.Author.Tests.{ltb-true, ltb-false, leb-false}
use Rattle.value.specs.Answer.{Answer, refused, given}
use Rattle.value.specs.declared.Whole.{Whole}
use Rattle.value.specs.Number.{some, read_in, unlawful}
use Rattle.value.specs.Digits.{value_of, is_digit, digit_in, limit}
use Rattle.value.proofs.Field.{field-all}
use Rattle.value.specs.Field.{last_of}
use Rattle.lists.specs.Scan.{keep_by, every_by}
use Rattle.ebcdic.specs.Ebcdic.{from_page}
use Rattle.numerals.specs.Numerals.{is_sign, is_ascii, trimmed, kept_by}
use Rattle.display.specs.Display as Display
use Rattle.display.specs.Display.{digits_in, whole_of, int_in, int_of, sign_at, rest_of}
use Rattle.binary.specs.Binary.{width_ok, signed_word, unsigned_word, integer_of}
use Rattle.binary.specs.Bytes.{word_in}
use Rattle.binary.proofs.Integers.{width-high}
use Rattle.packed.specs.Packed as Packed
use Rattle.zoned.specs.Zoned as Zoned
use Rattle.decode_scalar.specs.Decode as Decode
use Rattle.decode_scalar.specs.Decode.{is_embedded, embedded_of, decimal_in}
use Rattle.decode_scalar.proofs.Embedded.{embedded-all}

-- a number that is not negative is below 2^63
abbrev pub Small : Answer Whole → Type 0
Small (given n) = (n.negative && ltb 0 n.size) ≡ false → n.size < 2 ^ 63
Small (refused question) = Unit {0}

by : (b : Bool) (x y : Answer Whole) → (b ≡ true → Small x) → (b ≡ false → Small y) → Small (cond b x y)
by true x y f g = f refl
by false x y f g = g refl

number_small : (bound : ℕ) (negative : Bool) (v : ℕ) → bound ≤ 2 ^ 63 → Small (read_in bound negative v)
number_small bound negative v h = by (ltb v bound) (some negative v) (refused 9) (λ e _. omega (arith, ltb-true v bound e, h)) (λ _. tt)

minus-some : (v : ℕ) → Small (some true v)
minus-some v = go (ltb 0 v) refl
  where
    go : (b : Bool) → ltb 0 v ≡ b → ((b && true) && b) ≡ false → v < 2 ^ 63
    go true e f = absurd (true≢false f)
    go false e f = omega (arith, ltb-false 0 v e)

minus-small : (bound v : ℕ) → Small (read_in bound true v)
minus-small bound v = by (ltb v bound) (some true v) (refused 9) (λ e. minus-some v) (λ _. tt)

digits-small : (bound : ℕ) (negative : Bool) (t : List ℕ) → bound ≤ 2 ^ 63 → Small (digits_in bound negative t)
unfolding digits_in
digits-small bound negative t h = by (ltb 0 (length t) && every_by is_digit t) (read_in bound negative (value_of (map digit_in t))) unlawful (λ _. number_small bound negative (value_of (map digit_in t)) h) (λ _. tt)

digits-minus : (bound : ℕ) (t : List ℕ) → Small (digits_in bound true t)
unfolding digits_in
digits-minus bound t = by (ltb 0 (length t) && every_by is_digit t) (read_in bound true (value_of (map digit_in t))) unlawful (λ _. minus-small bound (value_of (map digit_in t))) (λ _. tt)

whole-small : (t : List ℕ) → Small (whole_of t)
unfolding whole_of
whole-small t =
    by (eqb (get_or t 0 0) 45) (digits_in (2 ^ 63 + 1) true (drop 1 t)) _ (λ _. digits-minus (2 ^ 63 + 1) (drop 1 t)) (λ _.
    by (eqb (get_or t 0 0) 43) (digits_in (2 ^ 63) false (drop 1 t)) (digits_in (2 ^ 63) false t) (λ _. digits-small (2 ^ 63) false (drop 1 t) (omega arith)) (λ _. digits-small (2 ^ 63) false t (omega arith)))

text-small : (sign : ℕ) (s : List ℕ) → Small (int_of sign s)
unfolding int_of int_in
text-small sign s =
    by (eqb (length (trimmed (rest_of sign (trimmed s)))) 0) (some false 0) _ (λ _ _. omega arith) (λ _.
    by (is_sign (sign_at sign (trimmed s))) (digits_in (2 ^ 63) (eqb (sign_at sign (trimmed s)) 45) (trimmed (rest_of sign (trimmed s)))) (whole_of (trimmed (rest_of sign (trimmed s))))
    (λ _. digits-small (2 ^ 63) (eqb (sign_at sign (trimmed s)) 45) (trimmed (rest_of sign (trimmed s))) (omega arith)) (λ _. whole-small (trimmed (rest_of sign (trimmed s)))))

pub int_small : (p q page : ℕ) (part : List ℕ) → Small (Decode.int_in p q page part)
int_small p q page part =
    let s = map (from_page page) part in
    by (is_embedded p q) (embedded_of s) (int_of q s) (λ _. embedded-all Small s (λ negative v. number_small (2 ^ 63) negative v (omega arith)) tt (text-small 1 s)) (λ _. text-small q s)

half-small : (n : ℕ) → n ≤ 8 → 256 ^ n / 2 ≤ 2 ^ 63
half-small zero h = omega arith
half-small (suc zero) h = omega arith
half-small (suc (suc zero)) h = omega arith
half-small (suc (suc (suc zero))) h = omega arith
half-small (suc (suc (suc (suc zero)))) h = omega arith
half-small (suc (suc (suc (suc (suc zero))))) h = omega arith
half-small (suc (suc (suc (suc (suc (suc zero)))))) h = omega arith
half-small (suc (suc (suc (suc (suc (suc (suc zero))))))) h = omega arith
half-small (suc (suc (suc (suc (suc (suc (suc (suc zero)))))))) h = omega arith
half-small (suc (suc (suc (suc (suc (suc (suc (suc (suc n))))))))) h = absurd (omega arith)

pub binary-small : (order : ℕ) (signed : Bool) (s : List ℕ) → Small (integer_of order signed s)
unfolding integer_of
binary-small order signed s = by (width_ok (length s)) (cond signed (signed_word (length s) (word_in order s)) (unsigned_word (word_in order s))) unlawful
    (λ w. by signed (signed_word (length s) (word_in order s)) (unsigned_word (word_in order s)) (λ _. sign w) (λ _. plain)) (λ _. tt)
  where
    sign : width_ok (length s) ≡ true → Small (signed_word (length s) (word_in order s))
    sign w = by (leb (256 ^ length s / 2) (word_in order s)) (some true (256 ^ length s - word_in order s)) (some false (word_in order s))
        (λ _. minus-some (256 ^ length s - word_in order s)) (λ e _. omega (arith, leb-false (256 ^ length s / 2) (word_in order s) e, half-small (length s) (width-high (length s) w)))

    plain : Small (unsigned_word (word_in order s))
    plain = number_small (2 ^ 63) false (word_in order s) (omega arith)

-- ---- a Decimal's size is below the limit, in all three forms

in-limit : (negative : Bool) (v : ℕ) → Small (read_in limit negative v)
in-limit negative v = number_small limit negative v (omega arith)

kept_small : (negative : Bool) (s : List ℕ) → Small (kept_by (read_in limit negative) unlawful s)
unfolding kept_by
kept_small negative s = by (every_by is_ascii s) (read_in limit negative size) unlawful (λ _. in-limit negative size) (λ _. tt)
  where
    size : ℕ
    size = value_of (map digit_in (keep_by is_digit s))

pub decimal-small : (p q page : ℕ) (s : List ℕ) → Small (decimal_in p q page s)
unfolding Display.decimal_of Packed.decode_of Zoned.decode_of
decimal-small p q page s =
    by (eqb p 0) (Display.decimal_of q t) _ (λ _. kept_small (eqb (sign_at q (trimmed t)) 45) (rest_of q (trimmed t))) (λ _.
    by (eqb p 1) (Packed.decode_of s) (Zoned.decode_of t)
    (λ _. field-all Packed.nibbles Packed.high_of Packed.signed (λ b v. read_in limit (Packed.is_negative (b % 16)) v) unlawful s Small (λ v. in-limit (Packed.is_negative (last_of s % 16)) v) tt)
    (λ _. field-all Zoned.zone Zoned.last_digit Zoned.any_sign (λ b v. read_in limit (Zoned.minus b) v) unlawful t Small (λ v. in-limit (Zoned.minus (last_of t)) v) tt))
  where
    t : List ℕ
    t = map (from_page page) s
