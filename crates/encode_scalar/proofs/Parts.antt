-- What each kind's writer leaves is the bytes of `bytes_of` at the front of the part, or the part as it was.
use mathlib.Core.Path.{◌≡◌, refl, sym, ap, ◌∙◌}
use mathlib.Core.List.{List, [], ◌∷◌, map, append-nil}
use mathlib.Core.Bool.{Bool, true, false, cond, false≢true}
use Prim.Native.Nat.{ℕ, ◌^◌, ◌≤◌, ◌<◌}
use native.Mathlib.Nat.{le_refl}
use native.Mathlib.Omega.{arith}
use lib.Dec.{eqb, leb, ltb}
use lib.ListN.{length, drop, set, length-map}
use lib.Seq.{drop-length}
use borrow.Author.Tests.{le-leb, eqb-true}
use Rattle.lists.proofs.Logic.{and_right}
use Rattle.value.specs.Answer.{Answer, refused, given}
use Rattle.value.specs.declared.Whole.{Whole}
use Rattle.value.proofs.Room.{room-some}
use Rattle.ebcdic.specs.Ebcdic.{onto_page}
use Rattle.display.specs.Display.{int_fits, int_bytes, decimal_fits, has_sign}
use Rattle.display.proofs.Back.{length-bytes, decimal-fits}
use Rattle.binary.specs.Binary.{integer_bytes}
use Rattle.binary.proofs.Words.{bytes-length}
use Rattle.float.specs.Field.{float_bytes}
use Rattle.packed.specs.Packed as Packed
use Rattle.packed.proofs.Writing as PackedWriting
use Rattle.packed.proofs.Round as PackedRound
use Rattle.zoned.specs.Zoned as Zoned
use Rattle.zoned.proofs.Back as ZonedBack
use Rattle.edited.specs.Edited as Edited
use Rattle.edited.proofs.Round as EditedRound
use Rattle.encode_scalar.specs.Encode.{embedded_fit, int_fit, int_text, decimal_fit, decimal_bytes, edited_written, part_after}
use Rattle.decode_scalar.specs.Decode.{flag, is_embedded}

-- bytes that fill the part
pub whole : (bytes part : List ℕ) → length bytes ≡ length part → bytes ≡ part_after 0 bytes part
whole bytes part e =
    let d : drop (length bytes) part ≡ [] = ap (λ (n : ℕ). drop n part) e ∙ drop-length part in
    rw (le-leb (length bytes) (length part) (rw e (le_refl (length part))), d) (sym (append-nil bytes))

-- no bytes, whatever the number
pub nothing : (n : ℕ) (part : List ℕ) → part ≡ part_after n [] part
nothing n part = by (eqb n 0)
  where
    by : (b : Bool) → part ≡ cond b (cond (leb 0 (length part)) part part) part
    by true = rw (le-leb 0 (length part) (omega arith))
    by false = refl

-- bytes where they fit, else the part as it was
pub fitted : (b : Bool) (bytes part last : List ℕ) → last ≡ cond b bytes part → (b ≡ true → length bytes ≡ length part) → last ≡ part_after (cond b 0 14) bytes part
fitted true bytes part last e l = e ∙ whole bytes part (l refl)
fitted false bytes part last e l = e

-- the same by a number
pub numbered : (n : ℕ) (bytes part last : List ℕ) → last ≡ cond (eqb n 0) bytes part → (eqb n 0 ≡ true → length bytes ≡ length part) → last ≡ part_after n bytes part
numbered n bytes part last e l = by (eqb n 0) refl
  where
    by : (b : Bool) → eqb n 0 ≡ b → last ≡ part_after n bytes part
    by true q = e ∙ rw q (whole bytes part (l q))
    by false q = e ∙ rw q

-- ---- each kind

display-length : (page w : ℕ) (negative : Bool) (size : ℕ) (signed : Bool) (sign : ℕ) → int_fits w negative size signed sign ≡ true → length (map (onto_page page) (int_bytes w negative size sign)) ≡ w
display-length page w negative size signed sign f = length-map (int_bytes w negative size sign) (onto_page page) ∙ length-bytes w negative size signed sign f

zoned-length : (page w : ℕ) (negative : Bool) (size : ℕ) (signed : Bool) → Zoned.fits_of w size ≡ true → length (map (onto_page page) (Zoned.encoded_of w negative size signed)) ≡ w
zoned-length page w negative size signed f = length-map (Zoned.encoded_of w negative size signed) (onto_page page) ∙ ZonedBack.encoded-length w negative size signed (room-some w size f)

pub int-length : (p q page w : ℕ) (negative : Bool) (size : ℕ) → int_fit p q w negative size ≡ true → length (map (onto_page page) (int_text p q w negative size)) ≡ w
int-length p q page w negative size f = by (is_embedded p q) f
  where
    by : (e : Bool) → cond e (embedded_fit w size) (int_fits w negative size (flag p) q) ≡ true
        → length (map (onto_page page) (cond e (Zoned.encoded_of w negative size true) (int_bytes w negative size q))) ≡ w
    by true f = zoned-length page w negative size true (and_right (ltb size (2 ^ 63)) (Zoned.fits_of w size) f)
    by false f = display-length page w negative size (flag p) q f

pub binary-length : (order w : ℕ) (negative : Bool) (size : ℕ) → length (integer_bytes order w negative size) ≡ w
unfolding integer_bytes
binary-length order w negative size = bytes-length order w _

pub float-length : (order bits w x : ℕ) → length (float_bytes order bits w x) ≡ w
unfolding float_bytes
float-length order bits w x = bytes-length order w _

pub decimal-length : (p q s page w : ℕ) (negative : Bool) (size : ℕ) → decimal_fit p q s w negative size ≡ true → length (decimal_bytes p q page w negative size) ≡ w
decimal-length p q s page w negative size f = by (eqb p 0) (eqb p 1) f
  where
    by : (a b : Bool) → cond a (decimal_fits w s negative size q) (cond b (Packed.fits_of w size) (Zoned.fits_of w size)) ≡ true
        → length (cond a (map (onto_page page) (int_bytes w negative size q)) (cond b (Packed.encoded_of w negative size (flag q)) (map (onto_page page) (Zoned.encoded_of w negative size (flag q))))) ≡ w
    by true b e = display-length page w negative size (has_sign q) q (decimal-fits w s negative size q e)
    by false true e = PackedRound.encoded-length w negative size (flag q) (PackedWriting.fits-some w size e)
    by false false e = zoned-length page w negative size (flag q) e

-- ---- a Bool's byte

pub bool-some : (b : ℕ) (part : List ℕ) → 1 ≤ length part → set part 0 b ≡ part_after 0 (b ∷ []) part
bool-some b part h = rw (le-leb 1 (length part) h) (go part h)
  where
    go : (l : List ℕ) → 1 ≤ length l → set l 0 b ≡ b ∷ drop 1 l
    go [] k = absurd (omega arith)
    go (x ∷ l) k = refl

-- ---- an Edited's bytes

edited-same : (width : ℕ) (mask : List ℕ) (n : Answer Whole) → eqb (Edited.answer_of width mask n) 0 ≡ true → length mask ≡ width
edited-same width mask n e = by (eqb (Edited.judged mask n) 0) (eqb width (length mask)) refl refl e
  where
    by : (a b : Bool) → eqb (Edited.judged mask n) 0 ≡ a → eqb width (length mask) ≡ b → eqb (cond a (cond b 0 14) (Edited.judged mask n)) 0 ≡ true → length mask ≡ width
    by true true p q r = sym (eqb-true width (length mask) q)
    by true false p q r = absurd (false≢true r)
    by false b p q r = absurd (false≢true (sym p ∙ r))

pub edited_part : (page : ℕ) (mask : List ℕ) (n : Answer Whole) (part last : List ℕ) → last ≡ Edited.written_of page mask n part
    → last ≡ part_after (Edited.answer_of (length part) mask n) (edited_written page mask n) part
unfolding Edited.written_of Edited.judged
edited_part page mask (given n) part last e =
    numbered (Edited.answer_of (length part) mask (given n)) (map (onto_page page) (Edited.edited n.negative n.size mask)) part last e
    (λ q. EditedRound.page-length page n.negative n.size mask ∙ edited-same (length part) mask (given n) q)
edited_part page mask (refused question) part last e = e ∙ nothing (Edited.answer_of (length part) mask (refused question)) part
