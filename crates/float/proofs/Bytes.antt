-- A Float field's bits and width, and the pattern that stands in its bytes.
use Rattle.std.proofs.Common.{◌≡◌, ℕ, ◌/◌, ◌%◌, ◌^◌, ◌<◌, Bool, true, false, ◌&&◌, ◌||◌, eqb, List, length, get_or, refl, ◌∙◌, arith, eqb-true}
use mathlib.Core.Bool.{false≢true}
use Rattle.value.specs.declared.Scalar.{Scalar}
use Rattle.value.specs.Scalar.{float_of}
use Rattle.binary.specs.Bytes.{word_in}
use Rattle.binary.proofs.Words.{word_below}
use Rattle.value.specs.Answer.{refused, given}
use Rattle.float.specs.Field.{field_ok, word_for, float_in}

pub data Lawful : ℕ → ℕ → Type 0 where
  half : Lawful 16 2
  single : Lawful 32 4
  double : Lawful 64 8

at : (bits n b : ℕ) → bits ≡ b → eqb n (bits / 8) ≡ true → Lawful b (b / 8) → Lawful bits n
at bits n b e t l = rw (e, eqb-true n (bits / 8) t, e) l

pub lawful : (bits n : ℕ) → field_ok bits n ≡ true → Lawful bits n
lawful bits n e = go (eqb bits 16) (eqb bits 32) (eqb bits 64) refl refl refl e
  where
    go : (a b c : Bool) → eqb bits 16 ≡ a → eqb bits 32 ≡ b → eqb bits 64 ≡ c → ((a || b || c) && eqb n (bits / 8)) ≡ true → Lawful bits n
    go true b c p q r e = at bits n 16 (eqb-true bits 16 p) e half
    go false true c p q r e = at bits n 32 (eqb-true bits 32 q) e single
    go false false true p q r e = at bits n 64 (eqb-true bits 64 r) e double
    go false false false p q r e = absurd (false≢true e)

-- a pattern of the field's bytes has its bits, and a word holds it
pub pattern-fits : {bits n : ℕ} → Lawful bits n → (v : ℕ) → v < 256 ^ n → v < 2 ^ bits
pattern-fits half v h = h
pattern-fits single v h = h
pattern-fits double v h = h

whole : {bits n : ℕ} → Lawful bits n → (v : ℕ) → v < 256 ^ n → v % 2 ^ 64 ≡ v
whole half v h = omega arith
whole single v h = omega arith
whole double v h = omega arith

-- what a reader finds
module _ (order bits : ℕ) (s : List ℕ) (bytes : (k : ℕ) → k < length s → get_or s k 0 < 256) (ok : field_ok bits (length s) ≡ true) (v : ℕ) (e : v ≡ word_in order s % 2 ^ 64) where
  word-is : v ≡ word_in order s
  word-is = e ∙ whole (lawful bits (length s) ok) (word_in order s) (word_below order s bytes)

  pub word_small : v < 2 ^ bits
  word_small = rw word-is (pattern-fits (lawful bits (length s) ok) (word_in order s) (word_below order s bytes))

  pub read-value : (w : ℕ) (x : Scalar) → w ≡ word_for bits v → x ≡ float_of w → given x ≡ float_in order bits s
  unfolding float_in
  read-value w x p q = rw (ok, q, p, word-is)

pub read-bad : (order bits : ℕ) (s : List ℕ) → field_ok bits (length s) ≡ false → refused 8 ≡ float_in order bits s
unfolding float_in
read-bad order bits s e = rw e
