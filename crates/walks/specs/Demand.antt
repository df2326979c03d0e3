-- Demand 3: "For every plain layout and fitting list: writing accepts, and reading the written record returns the same list, whatever stands behind it."
use Rattle.std.specs.Prelude.{◌≡◌, true, List, ◌++◌, ℕ, ◌+◌, ◌≤◌, length}
use Rattle.layout.specs.Layout.{work_for}
use Rattle.walks.specs.Records.{most, decode_record, decoded, encode_record, encoded}
use Rattle.walks.specs.Plain.{plain}
use Rattle.walks.specs.Fitting.{Fitting}
use Rattle.walks.specs.Needs.{needed}

-- "Enough room: for each call the work space that the questions ask for, a record buffer of at least the bytes needed, place for the list's items and text bytes."
-- "The same list: as many items, all words equal, and as many bytes of packed text, all equal."
pub record Kept (l masks : List ℕ) (page : ℕ) (items text : List ℕ) : Type 0 where
  pub bytes : List ℕ
  pub long : length bytes ≡ needed l items
  pub written : (room work : ℕ) → needed l items ≤ room → work_for l ≤ work → encode_record l masks page items text room work ≡ encoded bytes
  pub read_back : (more : List ℕ) (item_room text_room work : ℕ) → length bytes + length more ≤ most
      → length items ≤ item_room → length text ≤ text_room → work_for l ≤ work
      → decode_record l masks page (bytes ++ more) item_room text_room work ≡ decoded items text

-- "for every plain layout, either page, every fitting list that needs at most 65,536 bytes"
abbrev pub Demand3 : Type 0
Demand3 = (l masks : List ℕ) (page : ℕ) (items text : List ℕ) → plain l masks page ≡ true → Fitting l masks items text → needed l items ≤ most → Kept l masks page items text
