-- The answers for each kind are those of `says`.
use mathlib.Core.Path.{◌≡◌, refl}
use mathlib.Core.List.{List, map}
use Prim.Native.Nat.{ℕ, ◌*◌, ◌^◌}
use native.Mathlib.Omega.{arith}
use lib.Dec.{eqb}
use lib.ListN.{length}
use Rattle.value.specs.declared.Scalar.{Scalar}
use Rattle.value.specs.Answer.{Answer, refused, given}
use Rattle.value.specs.declared.Whole.{Whole}
use Rattle.value.proofs.Answers.{Numbered, numbered-cond, numbered-in}
use Rattle.ebcdic.specs.Ebcdic.{from_page}
use Rattle.hex_field.specs.Hex.{hex_of}
use Rattle.hex_field.proofs.Laws.{hex-length}
use Rattle.display.specs.Display as Display
use Rattle.display.proofs.Numbered as DisplayNumbered
use Rattle.packed.specs.Packed as Packed
use Rattle.packed.proofs.Reading as PackedReading
use Rattle.zoned.specs.Zoned as Zoned
use Rattle.zoned.proofs.Reading as ZonedReading
use Rattle.decode_scalar.specs.Decode.{int_says, decimal_says, float_says, is_embedded, embedded_of, int_in, decimal_in, answer_of, text_after}
use Rattle.decode_scalar.proofs.Embedded.{embedded-all}

-- what is no text does not depend on the buffer, and leaves it

pub int_same : (n : Answer Whole) (room : ℕ) → answer_of (int_says n) room ≡ answer_of (int_says n) 0
int_same (refused question) room = refl
int_same (given n) room = refl

pub int_kept : (n : Answer Whole) (buffer : List ℕ) → text_after (int_says n) buffer ≡ buffer
int_kept (refused question) buffer = refl
int_kept (given n) buffer = refl

pub decimal_same : (scale : ℕ) (n : Answer Whole) (room : ℕ) → answer_of (decimal_says scale n) room ≡ answer_of (decimal_says scale n) 0
decimal_same scale (refused question) room = refl
decimal_same scale (given n) room = refl

pub decimal_kept : (scale : ℕ) (n : Answer Whole) (buffer : List ℕ) → text_after (decimal_says scale n) buffer ≡ buffer
decimal_kept scale (refused question) buffer = refl
decimal_kept scale (given n) buffer = refl

pub float_same : (f : Answer Scalar) (room : ℕ) → answer_of (float_says f) room ≡ f
float_same (refused question) room = refl
float_same (given v) room = refl

pub float_kept : (f : Answer Scalar) (buffer : List ℕ) → text_after (float_says f) buffer ≡ buffer
float_kept (refused question) buffer = refl
float_kept (given v) buffer = refl

-- two digits for each byte
pub hex_long : (order : ℕ) (part : List ℕ) → length (hex_of order part) ≡ length part * 2
hex_long order part = hex-length order part

-- what refuses an Int field, and a Decimal field of either form, is a question
pub int-numbered : (p q page : ℕ) (part : List ℕ) → Numbered (int_in p q page part)
int-numbered p q page part =
    let s = map (from_page page) part in
    numbered-cond (is_embedded p q) (embedded_of s) (Display.int_of q s)
    (embedded-all Numbered s (λ negative v. numbered-in 9 (2 ^ 63) negative v (λ e. omega arith)) (λ e. omega arith) (DisplayNumbered.int-numbered 1 s))
    (DisplayNumbered.int-numbered q s)

pub decimal-numbered : (p q page : ℕ) (part : List ℕ) → Numbered (decimal_in p q page part)
decimal-numbered p q page part =
    numbered-cond (eqb p 0) (Display.decimal_of q (map (from_page page) part)) _ (DisplayNumbered.decimal-numbered q (map (from_page page) part))
    (numbered-cond (eqb p 1) (Packed.decode_of part) (Zoned.decode_of (map (from_page page) part)) (PackedReading.decode-numbered part) (ZonedReading.decode-numbered (map (from_page page) part)))
