-- What 02's S-5 changed: the rule before it, and the fields whose text is another now.
use Rattle.std.specs.Prelude.{ℕ, ◌<◌, ◌≡◌, Bool, true, false, cond, List, ◌∷◌, ◌++◌, length, get_or}
use Rattle.lists.specs.Scan.{left_by, right_by, before_by}
use Rattle.text.specs.Text.{is_byte, cut}

-- the rule before, in either justification: "pad cut at the unjustified end, then all from the first 0 byte on; neither without trim". Only what follows names it.
unfoldable pub pad_first : Bool → Bool → ℕ → List ℕ → List ℕ
pad_first right trim pad s = cond trim (before_by (is_byte 0) (cond right (left_by (is_byte pad) s) (right_by (is_byte pad) s))) s

-- 02, S-5: "Exactly these old answers change: trimmed, left-justified, pad other than zero, and the byte before the first zero byte is the pad"; s is the field as read from its page
pub record Changed (right trim : Bool) (pad : ℕ) (s : List ℕ) : Type 0 where
  pub trimmed : trim ≡ true
  pub left : right ≡ false
  pub other : pad ≡ 0 → ⊥
  pub before : List ℕ
  pub after : List ℕ
  pub bytes : s ≡ before ++ (pad ∷ 0 ∷ after)
  pub first : (k : ℕ) → k < length before → get_or before k 0 ≡ 0 → ⊥

-- both ways
pub record Exactly (right trim : Bool) (pad : ℕ) (s : List ℕ) : Type 0 where
  pub only : (cut right trim pad s ≡ pad_first right trim pad s → ⊥) → Changed right trim pad s
  pub all : Changed right trim pad s → cut right trim pad s ≡ pad_first right trim pad s → ⊥

abbrev pub ExactlyThese : Type 0
ExactlyThese = (right trim : Bool) (pad : ℕ) (s : List ℕ) → Exactly right trim pad s
