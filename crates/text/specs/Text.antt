-- Text fields and Pads: the text of a field's bytes, a field's bytes for a text, and the texts that come back.
use Rattle.std.specs.Prelude.{ℕ, ◌-◌, ◌≤◌, ◌<◌, ◌≡◌, Bool, true, false, cond, List, ◌++◌, map, length, drop, replicate, get_or, eqb, leb}
use Rattle.lists.specs.Scan.{left_by, left_count, right_by, before_by}
use Rattle.ebcdic.specs.Ebcdic.{from_page, onto_page}
use Rattle.value.specs.Answer.{Answer, refused, given}

-- a byte is the byte b
abbrev pub is_byte : ℕ → ℕ → Bool
is_byte b x = eqb x b

-- right-justified: "pad cut at the unjustified end, then all from the first 0 byte on; neither without trim"; left-justified, 02, S-5: "zero byte first, then pad"
unfoldable pub cut : Bool → Bool → ℕ → List ℕ → List ℕ
cut right trim pad s =
    cond trim (cond right (before_by (is_byte 0) (left_by (is_byte pad) s)) (right_by (is_byte pad) (before_by (is_byte 0) s))) s

-- the text of a field's bytes, which stand on a page
abbrev pub read_text : ℕ → Bool → Bool → ℕ → List ℕ → List ℕ
read_text page right trim pad s = cut right trim pad (map (from_page page) s)

-- how many bytes the cut takes off at the left end
unfoldable pub cut_from : Bool → Bool → ℕ → List ℕ → ℕ
cut_from right trim pad s = cond trim (cond right (left_count (is_byte pad) s) 0) 0

-- a text at the front of a buffer, the rest of which stays
abbrev pub front : List ℕ → List ℕ → List ℕ
front t out = t ++ drop (length t) out

-- a text to the front of a buffer, if it has room; else the buffer stays. "Place for item and text? 16"
abbrev pub put_of : List ℕ → List ℕ → Answer ℕ
put_of t out = cond (leb (length t) (length out)) (given (length t)) (refused 16)

abbrev pub put_in : List ℕ → List ℕ → List ℕ
put_in t out = cond (leb (length t) (length out)) (front t out) out

-- ---- what is written

-- a text at the left or right of w bytes, pads elsewhere
abbrev pub justified : Bool → ℕ → ℕ → List ℕ → List ℕ
justified right pad w t = cond right (replicate (w - length t) pad ++ t) (t ++ replicate (w - length t) pad)

-- each byte of it as it stands on a page
unfoldable pub written : ℕ → Bool → ℕ → ℕ → List ℕ → List ℕ
written page right pad w t = map (onto_page page) (justified right pad w t)

-- a field after a text was written, if it has room; else as it was
abbrev pub written_in : ℕ → Bool → ℕ → List ℕ → List ℕ → List ℕ
written_in page right pad part t = cond (leb (length t) (length part)) (written page right pad (length part) t) part

-- a Pad of w bytes
abbrev pub padded : ℕ → ℕ → ℕ → List ℕ
padded page pad w = replicate w (onto_page page pad)

-- ---- the texts that come back
-- "Text: length at most width, no 0 byte, no pad byte at its cut end; untrimmed, length equal to width." Nothing is cut without trim, so that only a trimmed text
-- has a cut end, and an untrimmed one keeps its 0 bytes.
pub record Fits (right trim : Bool) (pad w : ℕ) (t : List ℕ) : Type 0 where
  pub bytes : (k : ℕ) → k < length t → get_or t k 0 < 256
  pub room : length t ≤ w
  pub no_zero : trim ≡ true → (k : ℕ) → k < length t → get_or t k 0 ≡ 0 → ⊥
  pub no_pad : trim ≡ true → 0 < length t → get_or t (cond right 0 (length t - 1)) 0 ≡ pad → ⊥
  pub whole : trim ≡ false → length t ≡ w
