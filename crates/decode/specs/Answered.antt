-- What a call of the reader comes to, by its own answer: the item words and text bytes that were read stand at the front of the buffers.
use Rattle.std.specs.Prelude.{◌≡◌, Result, Ok, Err, List, ℕ, ◌≤◌, length, take}
use Rattle.codes.specs.declared.Refusal.{Refusal}
use Rattle.codes.specs.Refusals.{number_of}
use Rattle.walks.specs.Records as Records
use Rattle.walks.specs.Records.{decoded}
use Rattle.decode.specs.declared.Reading.{Reading}

-- the item words used, and the text bytes: none after a refusal
abbrev pub words_used : Result Reading Refusal → ℕ
words_used (Ok r) = r.items
words_used (Err e) = 0

abbrev pub bytes_used : Result Reading Refusal → ℕ
bytes_used (Ok r) = r.text
bytes_used (Err e) = 0

pub record Front (d : Records.Decoded) (r : Reading) (items text : List ℕ) : Type 0 where
  pub is : d ≡ decoded (take r.items items) (take r.text text)
  pub words : r.items ≤ length items
  pub bytes : r.text ≤ length text

abbrev pub ReadFront : Records.Decoded → Result Reading Refusal → List ℕ → List ℕ → Type 0
ReadFront d (Ok r) items text = Front d r items text
ReadFront d (Err e) items text = d ≡ Records.refused (number_of e)
