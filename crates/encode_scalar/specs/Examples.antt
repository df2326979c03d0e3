-- Signed Embedded Ints written, by computation: p and q are 1.
use Rattle.std.specs.Prelude.{◌≡◌, refl, List, [], ◌∷◌, Bool, true, false, ℕ, ◌-◌, ◌^◌}
use Rattle.value.specs.declared.Scalar.TheVariants.{Int, Text}
use Rattle.ebcdic.specs.Ebcdic.{onto_page, to_ebcdic, ebcdic_table}
use Rattle.lists.specs.Scan.{left_by, right_by, every_by}
use Rattle.display.specs.Display.{int_fits, int_bytes, whole_of, digits_in}
use Rattle.encode_scalar.specs.Encode.{number_judged, number_bytes, judged_of, bytes_of}

-- the number that refuses, and the bytes
abbrev asks : ℕ → Bool → ℕ → ℕ
asks w negative size = judged_of 1 1 1 0 0 [] w 2 (Int negative size) []

abbrev bytes : ℕ → ℕ → Bool → ℕ → List ℕ
bytes page w negative size = bytes_of 1 1 1 0 [] page w (Int negative size) []

nought : bytes 0 1 false 0 ≡ 0x7B ∷ []
unfolding bytes_of number_bytes onto_page
nought = refl

least-digit : bytes 0 1 true 9 ≡ 0x52 ∷ []
unfolding bytes_of number_bytes onto_page
least-digit = refl

plus : bytes 0 3 false 12 ≡ 0x30 ∷ 0x31 ∷ 0x42 ∷ []
unfolding bytes_of number_bytes onto_page
plus = refl

on-ebcdic : bytes 1 3 true 120 ≡ 0xF1 ∷ 0xF2 ∷ 0xD0 ∷ []
unfolding bytes_of number_bytes onto_page to_ebcdic ebcdic_table
on-ebcdic = refl

-- 10^w; -2^63 and -(2^63 - 1) in 19 bytes
too_long : asks 2 true 100 ≡ 14
unfolding judged_of number_judged
too_long = refl

least : asks 19 true (2 ^ 63) ≡ 14
unfolding judged_of number_judged
least = refl

above-least : asks 19 true (2 ^ 63 - 1) ≡ 0
unfolding judged_of number_judged
above-least = refl

no-width : asks 0 false 0 ≡ 14
unfolding judged_of number_judged
no-width = refl

-- a Text is taken as the integer that it spells: `-7`; an overpunched one spells none
from-text : bytes_of 1 1 1 0 [] 0 2 (Text 0 2) (0x2D ∷ 0x37 ∷ []) ≡ 0x30 ∷ 0x50 ∷ []
unfolding bytes_of number_bytes onto_page whole_of digits_in left_by right_by every_by
from-text = refl

zoned-text : judged_of 1 1 1 0 0 [] 2 1 (Text 0 2) (0x30 ∷ 0x50 ∷ []) ≡ 13
unfolding judged_of number_judged whole_of digits_in left_by right_by every_by
zoned-text = refl

-- not signed, or no Embedded sign: the minus is refused or lost as before
unsigned : judged_of 1 0 1 0 0 [] 2 2 (Int true 7) [] ≡ 14
unfolding judged_of number_judged int_fits
unsigned = refl

lost : bytes_of 1 1 0 0 [] 0 2 (Int true 7) [] ≡ 0x30 ∷ 0x37 ∷ []
unfolding bytes_of number_bytes int_bytes onto_page
lost = refl
