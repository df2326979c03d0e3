-- How a reader from the left finds out what a packed field answers, whatever the answer and its limit: the laws of a field, at packed bytes.
use mathlib.Core.Path.{◌≡◌}
use mathlib.Core.List.{List}
use mathlib.Core.Bool.{Bool, and-false}
use Prim.Native.Nat.{ℕ, ◌+◌, ◌-◌, ◌*◌, ◌/◌, ◌%◌, ◌<◌, ◌≤◌, min}
use native.Mathlib.Omega.{arith}
use lib.Dec.{ltb}
use lib.ListN.{length, get_or}
use borrow.Author.Tests.{le-ltb, le-leb, lt-leb}
use Rattle.value.specs.Answer.{Answer, given}
use Rattle.value.specs.Digits.{limit}
use Rattle.value.specs.declared.Whole.{Whole}
use Rattle.value.specs.Number.{number, read_in, unlawful}
use Rattle.value.specs.Field.{last_of}
use Rattle.value.proofs.Answers.{number_in-small, Numbered, numbered-in}
use Rattle.value.proofs.Field as Field
use Rattle.value.proofs.Field.{Read}
use Rattle.packed.specs.Packed.{nibbles, high_of, signed, is_negative, packed_by, decode_of}

module _ {X : Type 0} (answer : Bool → ℕ → X) (bad : X) (part : List ℕ) where
  -- what a lawful field answers, from its last byte and its size
  abbrev lawful : ℕ → ℕ → X
  lawful b size = answer (is_negative (b % 16)) size

  pub bad-empty : length part ≡ 0 → packed_by answer bad part ≡ bad
  bad-empty h = Field.bad-empty nibbles high_of signed lawful bad part h

  pub bad-high : (i : ℕ) → i < length part - 1 → 10 ≤ get_or part i 0 / 16 → packed_by answer bad part ≡ bad
  bad-high i below h = Field.bad-body nibbles high_of signed lawful bad part i below (rw (le-ltb (get_or part i 0 / 16) 10 h))

  pub bad-low : (i : ℕ) → i < length part - 1 → 10 ≤ get_or part i 0 % 16 → packed_by answer bad part ≡ bad
  bad-low i below h = Field.bad-body nibbles high_of signed lawful bad part i below (rw (le-ltb (get_or part i 0 % 16) 10 h) (and-false (ltb (get_or part i 0 / 16) 10)))

  pub bad_last : 10 ≤ last_of part / 16 → packed_by answer bad part ≡ bad
  bad_last h = Field.bad_last nibbles high_of signed lawful bad part h

  pub bad-sign : last_of part % 16 < 10 → packed_by answer bad part ≡ bad
  bad-sign h = Field.bad-sign nibbles high_of signed lawful bad part (lt-leb 10 (last_of part % 16) h)

  -- an answer that does not tell sizes past the cap apart
  pub read_all : (cap : ℕ) → ((negative : Bool) (v : ℕ) → answer negative (min v cap) ≡ answer negative v) → (size total : ℕ) → 0 < length part → Read cap nibbles part (length part - 1) size
      → last_of part / 16 < 10 → 10 ≤ last_of part % 16 → total ≡ min (size * 10 + last_of part / 16) cap → answer (is_negative (last_of part % 16)) total ≡ packed_by answer bad part
  read_all cap same size total some r h s e =
      Field.read_all nibbles high_of signed lawful bad part cap (λ b v. same (is_negative (b % 16)) v) size total some r h (le-leb 10 (last_of part % 16) s) e

  -- what holds of every answer, and of the refusal, holds of the field
  pub packed_all : (P : X → Type 0) → ((negative : Bool) (v : ℕ) → P (answer negative v)) → P bad → P (packed_by answer bad part)
  packed_all P a b = Field.field-all nibbles high_of signed lawful bad part P (λ v. a (is_negative (last_of part % 16)) v) b

-- ---- the answer below the limit

abbrev Small : Answer Whole → Type 0
Small r = (n : Bool) (w : ℕ) → r ≡ given (number n w) → w < limit

pub decode-small : (part : List ℕ) → Small (decode_of part)
unfolding decode_of
decode-small part =
    packed_all (read_in limit) unlawful part Small
    (λ negative v n w e. number_in-small 9 limit negative v n w e)
    (λ n w e. let z : ◌≡◌ {A = ℕ} 0 1 = cc in absurd (omega arith))

pub decode-numbered : (part : List ℕ) → Numbered (decode_of part)
unfolding decode_of
decode-numbered part = packed_all (read_in limit) unlawful part Numbered (λ negative v. numbered-in 9 limit negative v (λ e. omega arith)) (λ e. omega arith)
