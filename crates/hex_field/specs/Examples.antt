-- Worked examples, by computation.
use Rattle.std.specs.Prelude.{◌≡◌, refl, [], ◌∷◌}
use Rattle.lists.specs.Scan.{keep_by, every_by}
use Rattle.hex_field.specs.Hex.{hex_of, digits_in, judged_of, bytes_of}

-- 4F as "4f", and with the low digit first as "f4"
high-first : hex_of 0 (0x4F ∷ []) ≡ 0x34 ∷ 0x66 ∷ []
unfolding hex_of
high-first = refl

low_first : hex_of 1 (0x4F ∷ []) ≡ 0x66 ∷ 0x34 ∷ []
unfolding hex_of
low_first = refl

-- "4 F" into two bytes
filled : bytes_of 0 2 (0x34 ∷ 0x20 ∷ 0x46 ∷ []) ≡ 0x4F ∷ 0 ∷ []
unfolding bytes_of digits_in keep_by
filled = refl

odd : judged_of 2 (0x34 ∷ []) ≡ 13
unfolding judged_of digits_in keep_by every_by
odd = refl

too_long : judged_of 0 (0x34 ∷ 0x35 ∷ []) ≡ 14
unfolding judged_of digits_in keep_by every_by
too_long = refl
