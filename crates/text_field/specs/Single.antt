-- "The single-field call and the translating one take one unrepeated Text entry at its offset and ask 1, 2 (also for any other entry),
-- 4 (record above 65,536 only), 7, 16 (scratch shorter than the field on page 1; the translating call on either page)."
use Rattle.std.specs.Prelude.{◌≡◌, Result, Ok, Err, Bool, true, false, ◌&&◌, ◌||◌, cond, List, [], ◌++◌, map, ℕ, ◌+◌, ◌-◌, eqb, leb, length, take, drop, replicate}
use Rattle.std.specs.Borrow.{Bor}
use Rattle.codes.specs.Codes.{kind_text, most}
use Rattle.codes.specs.declared.Refusal.{Refusal}
use Rattle.ebcdic.specs.Ebcdic.{from_page}
use Rattle.lists.specs.Part.{place_in}
use Rattle.text.specs.Text.{cut, cut_from}
use Rattle.layout.specs.declared.Entry.{Entry}
use Rattle.layout.specs.Layout.{absent, entry_at, entry_ok}
use Rattle.decode_scalar.specs.Decode.{flag, Says, text, says}
use Rattle.text_field.specs.declared.TextPlace.{TextPlace}

-- ---- the questions

-- the layout's one entry, and the bytes of its field, "at its offset"
abbrev pub entry_of : List ℕ → Entry
entry_of l = entry_at l 0

abbrev pub field_of : Entry → List ℕ → List ℕ
field_of e s = take e.width (drop e.offset s)

-- 1: twelve words, and a page
abbrev pub one_entry : List ℕ → ℕ → Bool
one_entry l page = eqb (length l) 12 && leb page 1

-- 2: words in range, where no masks are lent and the span is not asked; a Text; unrepeated
unfoldable pub text_entry : Entry → Bool
text_entry e = entry_ok e 0 && eqb e.kind kind_text && eqb e.occurs absent && eqb e.depending absent

-- 16: the scratch bytes that are needed
abbrev pub room_of : Bool → ℕ → Entry → ℕ
room_of translating page e = cond (translating || eqb page 1) e.width 0

-- 0, or the number of the first question that fails; the record and the scratch are of so many bytes
unfoldable pub asked_of : Bool → List ℕ → ℕ → ℕ → ℕ → ℕ
asked_of translating l page size scratch =
    cond (one_entry l page)
    (cond (text_entry (entry_of l))
    (cond (leb size most)
    (cond (leb ((entry_of l).offset + (entry_of l).width) size)
    (cond (leb (room_of translating page (entry_of l)) scratch) 0 16) 7) 4) 2) 1

abbrev pub translate_asks : List ℕ → ℕ → List ℕ → ℕ → ℕ
translate_asks l page s room = asked_of true l page (length s) room

abbrev pub text_asks : List ℕ → ℕ → List ℕ → List ℕ → ℕ
text_asks l page s scratch = asked_of false l page (length s) (length scratch)

-- ---- "One call puts a translated field at the front of scratch, zeros behind it."
-- "A call that refuses returns its number and length 0; all output buffers hold zeros."

-- how many bytes are translated
unfoldable pub translated_bytes : List ℕ → ℕ → List ℕ → ℕ → ℕ
translated_bytes l page s room = cond (eqb (translate_asks l page s room) 0) (entry_of l).width 0

-- a scratch of so many bytes after it
unfoldable pub scratch_of : List ℕ → ℕ → List ℕ → ℕ → List ℕ
scratch_of l page s room =
    cond (eqb (translate_asks l page s room) 0)
    (map (from_page page) (field_of (entry_of l) s) ++ replicate (room - (entry_of l).width) 0)
    (replicate room 0)

-- All that the call leaves: its number, how many bytes it translated, and the scratch as it was lent and as it is left.
pub record FieldTranslated (l : List ℕ) (page : ℕ) (s : List ℕ) (number bytes : ℕ) (scratch scratch' : List ℕ) : Type 0 where
  pub numbered : number ≡ translate_asks l page s (length scratch)
  pub field_bytes : bytes ≡ translated_bytes l page s (length scratch)
  pub scratch_left : scratch' ≡ scratch_of l page s (length scratch)

-- ---- "the text handed out is a part of the record on page 0 and of the lent scratch on page 1, there cut from the scratch bytes as they are;
-- a refusal hands out an empty part"

-- the bytes that the text is cut from
abbrev pub source_of : Entry → ℕ → List ℕ → List ℕ → List ℕ
source_of e page s scratch = cond (eqb page 1) (take e.width scratch) (field_of e s)

unfoldable pub field_text : List ℕ → ℕ → List ℕ → List ℕ → List ℕ
field_text l page s scratch =
    cond (eqb (text_asks l page s scratch) 0)
    (cut (flag (entry_of l).p) (flag (entry_of l).q) (entry_of l).r (source_of (entry_of l) page s scratch)) []

-- where the text starts in the record or the scratch; the empty part of a refusal stands at the front
unfoldable pub start_of : List ℕ → ℕ → List ℕ → List ℕ → ℕ
start_of l page s scratch =
    cond (eqb (text_asks l page s scratch) 0)
    (cond (eqb page 1) 0 (entry_of l).offset
    + cut_from (flag (entry_of l).p) (flag (entry_of l).q) (entry_of l).r (source_of (entry_of l) page s scratch)) 0

-- its place: in the scratch on page 1, in the record on page 0, and on a page that is refused
unfoldable pub place_of : List ℕ → ℕ → Bor (List ℕ) → Bor (List ℕ) → ℕ × ℕ
place_of l page s scratch = place_in (cond (eqb page 1) scratch s) (start_of l page s.now scratch.now)

-- All that the call leaves: its number, and the part with its bytes and its place.
pub record TextFound (l : List ℕ) (page : ℕ) (s scratch : Bor (List ℕ)) (number : ℕ) (part : Bor (List ℕ)) : Type 0 where
  pub numbered : number ≡ text_asks l page s.now scratch.now
  pub bytes : part.now ≡ field_text l page s.now scratch.now
  pub place : part.ref_ptr ≡ place_of l page s scratch

-- The same with the part given by numbers: the text's start and its length.
pub record TextPlaced (l : List ℕ) (page : ℕ) (s scratch : List ℕ) (number start bytes : ℕ) : Type 0 where
  pub numbered : number ≡ text_asks l page s scratch
  pub starts : start ≡ start_of l page s scratch
  pub text_bytes : bytes ≡ length (field_text l page s scratch)

-- ---- what a call's answer counts: 0 where it refuses

abbrev pub bytes_in : Result ℕ Refusal → ℕ
bytes_in (Ok n) = n
bytes_in (Err e) = 0

abbrev pub start_in : Result TextPlace Refusal → ℕ
start_in (Ok p) = p.start
start_in (Err e) = 0

abbrev pub length_in : Result TextPlace Refusal → ℕ
length_in (Ok p) = p.length
length_in (Err e) = 0

-- ---- the text is the one that the record's reader says: after the translating call, and on page 0 with any scratch

abbrev pub say_of : List ℕ → ℕ → List ℕ → Says
say_of l page s = says (entry_of l).kind (entry_of l).p (entry_of l).q (entry_of l).r page (field_of (entry_of l) s)

abbrev pub ReadAlike : Type 0
ReadAlike = (l s : List ℕ) (page room : ℕ) → translate_asks l page s room ≡ 0
    → (text_asks l page s (scratch_of l page s room) ≡ 0) × (text (field_text l page s (scratch_of l page s room)) ≡ say_of l page s)

abbrev pub ReadPlain : Type 0
ReadPlain = (l s scratch : List ℕ) → text_asks l 0 s scratch ≡ 0 → text (field_text l 0 s scratch) ≡ say_of l 0 s
