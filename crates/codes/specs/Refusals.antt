-- 01, "Questions, in order", and 02: "A call that refuses returns its number". "Where an answer is an enum, the promises use a definition that gives this paper's number .. for each of its cases."
use Rattle.std.specs.Prelude.{ℕ, Result, Ok, Err}
use Rattle.codes.specs.declared.Refusal.{Refusal}
use Rattle.codes.specs.declared.Refusal.TheVariants.{LayoutWords, EntryWords, Nesting, RecordLength, NoController, CountRange, OutsideRecord, UnlawfulBytes, OutOfRange, EmptyElement}
use Rattle.codes.specs.declared.Refusal.TheVariants.{IllFormedList, MissingName, WrongKind, Misfit, Mask, NoRoom, LayoutText, PairOrDisplay, LargeValue, NotKept, WindowWords}

abbrev pub number_of : Refusal → ℕ
-- "Word count and page lawful? Else 1. Every entry's words in range? Else 2. Spans, levels, members only in groups? Else 3."
number_of LayoutWords = 1
number_of EntryWords = 2
number_of Nesting = 3
-- "record at most 65,536 bytes and long enough? 4. Controller known? 5. Count from 0 to the given maximum? 6. Field inside the record? 7."
number_of RecordLength = 4
number_of NoController = 5
number_of CountRange = 6
number_of OutsideRecord = 7
-- "Bytes lawful ..? 8. Value in range? 9. Repeated element took a byte? 10."
number_of UnlawfulBytes = 8
number_of OutOfRange = 9
number_of EmptyElement = 10
-- "list well formed? 11. Every top-level name but Pads supplied? 12." "value of a kind Rust takes there ..? 13."
number_of IllFormedList = 11
number_of MissingName = 12
number_of WrongKind = 13
-- "Value fits, and width is one the Rust takes? 14." Masks: 15. Places: 16. "Layout text lawful? Else 17"
number_of Misfit = 14
number_of Mask = 15
number_of NoRoom = 16
number_of LayoutText = 17
-- 02: S-2's window and S-7's display scale 18, a value too large for the window 19, S-8's conversion 20, S-7's lent words 24
number_of PairOrDisplay = 18
number_of LargeValue = 19
number_of NotKept = 20
number_of WindowWords = 24

-- the number that a call answers: 0 where nothing refuses
abbrev pub number_in : {A : Type 0} → Result A Refusal → ℕ
number_in (Ok x) = 0
number_in (Err e) = number_of e
