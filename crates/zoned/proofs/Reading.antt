-- How a reader of bytes on a page finds out from the left what a zoned field answers, whatever the answer and its limit: the laws of a field, at zoned bytes.
use mathlib.Core.Path.{◌≡◌, refl, sym, ap, ◌∙◌}
use mathlib.Core.List.{List, [], ◌∷◌, map}
use mathlib.Core.Bool.{Bool, true, false, cond}
use lib.Dec.{ltb}
use Prim.Native.Nat.{ℕ, ◌+◌, ◌-◌, ◌*◌, ◌<◌, ◌≤◌, min}
use native.Mathlib.Omega.{arith}
use lib.ListN.{length, get_or, length-map}
use borrow.Author.Tests.{le-ltb, ltb-true, ltb-false}
use Rattle.lists.proofs.Lists.{get_d_map}
use Rattle.ebcdic.specs.Ebcdic.{from_page}
use Rattle.value.specs.Answer.{Answer, refused, given}
use Rattle.value.specs.Number.{read_in, unlawful}
use Rattle.value.specs.Digits.{limit}
use Rattle.value.specs.Field.{last_of}
use Rattle.value.proofs.Answers.{Numbered, numbered-in}
use Rattle.value.proofs.Field as Field
use Rattle.value.proofs.Field.{Read, read_one}
use Rattle.zoned.specs.Zoned.{zone, digit_of, last_digit, minus, any_sign, zoned_by, decode_of}

-- what the digit of a byte answers: itself, below 10, or 8
abbrev Told : ℕ → Answer ℕ → Type 0
Told d a = a ≡ cond (ltb d 10) (given d) (refused 8)

pub told-digit : (d x : ℕ) → Told d (given x) → (x ≡ d) × (x < 10)
told-digit d x e = go (ltb d 10) refl e
  where
    go : (b : Bool) → ltb d 10 ≡ b → given x ≡ cond b (given d) (refused 8) → (x ≡ d) × (x < 10)
    go true t e = let same : x ≡ d = cc in (same, rw same (ltb-true d 10 t))
    go false t e = cc

pub told-none : (d n : ℕ) → Told d (refused n) → (n ≡ 8) × (10 ≤ d)
told-none d n e = go (ltb d 10) refl e
  where
    go : (b : Bool) → ltb d 10 ≡ b → refused n ≡ cond b (given d) (refused 8) → (n ≡ 8) × (10 ≤ d)
    go true t e = cc
    go false t e = (cc, ltb-false d 10 t)

module _ (page : ℕ) (part : List ℕ) where
  abbrev ascii : List ℕ
  ascii = map (from_page page) part

  long : length ascii ≡ length part
  long = length-map part (from_page page)

  byte : (i x : ℕ) → i < length part → x ≡ from_page page (get_or part i 0) → get_or ascii i 0 ≡ x
  byte i x h e = get_d_map (from_page page) part i h ∙ sym e

  last : (x : ℕ) → 0 < length part → x ≡ from_page page (get_or part (length part - 1) 0) → last_of ascii ≡ x
  last x h e = ap (λ (n : ℕ). get_or ascii (n - 1) 0) long ∙ byte (length part - 1) x (omega arith) e

  -- a byte more, for any cap of the size
  pub more : (cap i size x d next : ℕ) → i < length part - 1 → Read cap zone ascii i size → x ≡ from_page page (get_or part i 0) → d ≡ digit_of x → d < 10
      → next ≡ min (size * 10 + d) cap → Read cap zone ascii (i + 1) next
  more cap i size x d next h r e f k n =
      let l = long in
      read_one cap zone ascii i size (omega arith) r d next (ap zone (byte i x (omega arith) e) ∙ ap (λ (y : ℕ). y ∷ []) (sym f)) k n

  module _ {X : Type 0} (answer : Bool → ℕ → X) (bad : X) where
    abbrev says : X
    says = zoned_by answer bad ascii

    -- what a lawful field answers, from its last byte and its size
    abbrev lawful : ℕ → ℕ → X
    lawful b size = answer (minus b) size

    pub bad-empty : length part ≡ 0 → bad ≡ says
    bad-empty h = sym (Field.bad-empty zone last_digit any_sign lawful bad ascii (long ∙ h))

    pub bad-body : (i x d : ℕ) → i < length part - 1 → x ≡ from_page page (get_or part i 0) → d ≡ digit_of x → 10 ≤ d → bad ≡ says
    bad-body i x d h e f k =
        let l = long in
        let b : 10 ≤ digit_of (get_or ascii i 0) = rw (byte i x (omega arith) e, ← f) k in
        sym (Field.bad-body zone last_digit any_sign lawful bad ascii i (omega arith) (rw (le-ltb (digit_of (get_or ascii i 0)) 10 b)))

    pub bad_last : (x d : ℕ) → 0 < length part → x ≡ from_page page (get_or part (length part - 1) 0) → d ≡ last_digit x → 10 ≤ d → bad ≡ says
    bad_last x d h e f k = sym (Field.bad_last zone last_digit any_sign lawful bad ascii (rw (last x h e, ← f) k))

    -- an answer that does not tell sizes past the cap apart
    pub read_all : (cap : ℕ) → ((negative : Bool) (v : ℕ) → answer negative (min v cap) ≡ answer negative v) → (i size x d total : ℕ) (negative : Bool) → 0 < length part → i ≡ length part - 1
        → Read cap zone ascii i size → x ≡ from_page page (get_or part (length part - 1) 0) → d ≡ last_digit x → d < 10 → total ≡ min (size * 10 + d) cap → negative ≡ minus x
        → answer negative total ≡ says
    read_all cap same i size x d total negative h q r e f k t m =
        let l = long in
        let y = last x h e in
        let p : i ≡ length ascii - 1 = omega arith in
        rw (m, ← y)
        (Field.read_all zone last_digit any_sign lawful bad ascii cap (λ b v. same (minus b) v) size total (omega arith) (rw p at r) (rw (y, ← f) k) refl (rw (y, ← f) t))

pub decode-numbered : (part : List ℕ) → Numbered (decode_of part)
unfolding decode_of
decode-numbered part =
    Field.field-all zone last_digit any_sign (λ b size. read_in limit (minus b) size) unlawful part Numbered (λ v. numbered-in 9 limit (minus (last_of part)) v (λ e. omega arith)) (λ e. omega arith)
