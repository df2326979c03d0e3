-- How a writer from the right makes a packed field.
use mathlib.Core.Path.{◌≡◌, ◌∙◌}
use mathlib.Core.List.{List}
use mathlib.Core.Bool.{Bool, true, false}
use Prim.Native.Nat.{ℕ, suc, ◌+◌, ◌-◌, ◌*◌, ◌/◌, ◌%◌, ◌^◌, ◌<◌, ◌≤◌}
use native.Mathlib.Nat.{div-one}
use native.Mathlib.Omega.{arith}
use native.Mathlib.Decide.{dec_lt}
use lib.ListN.{length, get_or, set}
use lib.Seq.{get_or-set_same, get_or-set_other}
use Rattle.value.specs.Digits.{digit_at}
use Rattle.value.proofs.Digits.{next_place}
use Rattle.value.proofs.Room.{room-ample, room_fits, room-some}
use Rattle.packed.specs.Packed.{sign_of, fits_of, written_of, two_at, ByPlace}
use Rattle.packed.proofs.Round.{by-place-encoded}

-- the digits that stand from place i of w on
abbrev pub places : ℕ → ℕ → ℕ
places w i = 2 * (w - i) - 1

-- from i on the bytes of a field of w bytes hold their digits by place; rest is what is left of the size
pub record Written (l : List ℕ) (w size sign i rest : ℕ) : Type 0 where
  pub two : (k : ℕ) → i ≤ k → k < w - 1 → get_or l k 0 ≡ two_at w k size
  pub last : get_or l (w - 1) 0 ≡ digit_at 0 size * 16 + sign
  pub left : rest ≡ size / 10 ^ places w i

-- the last byte, and what is left of the size
pub written_last : (l : List ℕ) (size sign d b rest : ℕ) → 0 < length l → d ≡ size % 10 → b ≡ d * 16 + sign → rest ≡ size / 10
    → Written (set l (length l - 1) b) (length l) size sign (length l - 1) rest
written_last l size sign d b rest h ed eb er =
    let e : places (length l) (length l - 1) ≡ 1 = omega arith in
    record {
      two = λ k from to. absurd (omega arith);
      last = rw (get_or-set_same l (length l - 1) b 0 (omega arith), eb, ed, div-one size);
      left = rw e er;
    }

-- the two low digits, one by one
pair-high : (n : ℕ) → n % 100 / 10 ≡ n / 10 % 10
pair-high n = omega arith

pair-low : (n : ℕ) → n % 100 % 10 ≡ n % 10
pair-low n = omega arith

-- the two low digits of what is left stand at the places of the byte in front
pair_place : (w size i rest pair b : ℕ) → 0 < i → i < w → rest ≡ size / 10 ^ places w i → pair ≡ rest % 100 → b ≡ pair / 10 * 16 + pair % 10 → b ≡ two_at w (i - 1) size
pair_place w size i rest pair b h m er ep eb =
    let e : 2 * (w - 1 - (i - 1)) ≡ suc (places w i) = omega arith in
    let f : 2 * (w - 1 - (i - 1)) - 1 ≡ places w i = omega arith in
    rw (f, e, ← next_place, ← er, eb, ep, pair-high, pair-low)

-- one byte more
pub written-more : (l : List ℕ) (w size sign i rest pair b next : ℕ) → 0 < i → i < w → length l ≡ w → Written l w size sign i rest
    → pair ≡ rest % 100 → b ≡ pair / 10 * 16 + pair % 10 → next ≡ rest / 100 → Written (set l (i - 1) b) w size sign (i - 1) next
written-more l w size sign i rest pair b next h m k r ep eb en =
    let e : places w (i - 1) ≡ suc (suc (places w i)) = omega arith in
    let n : next ≡ rest / 10 / 10 = omega arith in
    record {
      two = λ j from to. at j from to (dec_lt (i - 1) j);
      last = get_or-set_other l (i - 1) (w - 1) b 0 (λ z. omega (arith, z)) ∙ r.last;
      left = rw (e, n, r.left, next_place, next_place);
    }
  where
    at : (j : ℕ) → i - 1 ≤ j → j < w - 1 → Dec (i - 1 < j) → get_or (set l (i - 1) b) j 0 ≡ two_at w j size
    at j from to (yes z) = get_or-set_other l (i - 1) j b 0 (λ s. omega (arith, s)) ∙ r.two j (omega arith) to
    at j from to (no z) =
        let s : j ≡ i - 1 = omega arith in
        rw s (get_or-set_same l (i - 1) b 0 (omega arith) ∙ pair_place w size i rest pair b h m r.left ep eb)

pub written_all : (l : List ℕ) (w size sign rest : ℕ) → length l ≡ w → Written l w size sign 0 rest → ByPlace l size sign
written_all l w size sign rest e r = record { two = λ i to. rw e (r.two i (omega arith) (omega arith)); last = rw e r.last }

-- ---- whether a size fits

pub fits-ample : (w size : ℕ) → 11 ≤ w → size < 2 ^ 64 → fits_of w size ≡ true
fits-ample w size h l = room-ample (2 * w - 1) size (omega arith) l

pub fits_below : (w size : ℕ) → 0 < w → size < 10 ^ (2 * w - 1) → fits_of w size ≡ true
fits_below w size h k = room_fits (2 * w - 1) size (omega arith) k

pub fits-some : (w size : ℕ) → fits_of w size ≡ true → 0 < w
fits-some w size h = let k = room-some (2 * w - 1) size h in omega arith

-- ---- what encode leaves

pub written-fits : (part after : List ℕ) (negative : Bool) (size : ℕ) (signed : Bool) → fits_of (length part) size ≡ true → length after ≡ length part
    → ByPlace after size (sign_of signed negative) → after ≡ written_of part negative size signed
unfolding written_of
written-fits part after negative size signed h e p = rw (h, ← e) (by-place-encoded after negative size signed (rw (← e) at (fits-some (length part) size h)) p)

pub written-not : (part : List ℕ) (negative : Bool) (size : ℕ) (signed : Bool) → fits_of (length part) size ≡ false
    → part ≡ written_of part negative size signed
unfolding written_of
written-not part negative size signed h = rw h
