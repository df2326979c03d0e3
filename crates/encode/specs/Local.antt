-- Writing a field changes only the bytes of its stretch: from where it lies on, as many as it takes.
use Rattle.std.specs.Prelude.{◌≡◌, List, ℕ, ◌+◌, ◌≤◌, ◌<◌, length, take, drop}
use Rattle.layout.specs.Layout.{entry_at, entry_count, part, checked_of}
use Rattle.items.specs.Items.{Values}
use Rattle.walks.specs.Kinds.{kinds}
use Rattle.walks.specs.Writing.{Put, apply, wrote, field, seq}

-- a record before and after, the same in front of a stretch and behind it
abbrev pub Outside : ℕ → ℕ → List ℕ → List ℕ → Type 0
Outside at taken before after = (take at after ≡ take at before) × (drop (at + taken) after ≡ drop (at + taken) before)

-- any entry of a lawful layout, with any entries as its members: a scalar or Pad, a table of them, a group
abbrev pub Local : Type 0
Local = (l masks : List ℕ) (page : ℕ) (text : List ℕ) → checked_of l masks page ≡ 0
    → (i lo hi : ℕ) → i < entry_count l → hi ≤ entry_count l
    → (room : ℕ) (vs : Values) (at : ℕ) (ps : List Put) (taken : ℕ)
    → field (kinds masks page text 0) room (entry_at l i) (λ ms base. seq (kinds masks page text 0) room (part l lo hi) ms base 0) vs at ≡ wrote ps taken
    → (before : List ℕ) → room ≤ length before → Outside at taken before (apply ps before)
