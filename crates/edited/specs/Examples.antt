-- Worked records of the format, by computation.
use Rattle.std.specs.Prelude.{◌≡◌, refl, true, false, [], ◌∷◌}
use Rattle.value.specs.Answer.{refused}
use Rattle.value.specs.Number.{some}
use Rattle.lists.specs.Scan.{left_by, right_by, keep_by, every_by}
use Rattle.numerals.specs.Numerals.{kept_by}
use Rattle.edited.specs.Edited.{count_by, lawful_from, judged, edit_byte, sup_after, edit_from, edited, negative_of, decoded_of}

-- −123456 under `ZZ,ZZ9.99-` is ` 1,234.56-`
amount : edited true 123456 (90 ∷ 90 ∷ 44 ∷ 90 ∷ 90 ∷ 57 ∷ 46 ∷ 57 ∷ 57 ∷ 45 ∷ []) ≡ 32 ∷ 49 ∷ 44 ∷ 50 ∷ 51 ∷ 52 ∷ 46 ∷ 53 ∷ 54 ∷ 45 ∷ []
unfolding edit_from edit_byte sup_after count_by
amount = refl

amount-judged : judged (90 ∷ 90 ∷ 44 ∷ 90 ∷ 90 ∷ 57 ∷ 46 ∷ 57 ∷ 57 ∷ 45 ∷ []) (some true 123456) ≡ 0
unfolding judged count_by lawful_from
amount-judged = refl

amount-back : decoded_of true (32 ∷ 49 ∷ 44 ∷ 50 ∷ 51 ∷ 52 ∷ 46 ∷ 53 ∷ 54 ∷ 45 ∷ []) ≡ some true 123456
unfolding decoded_of negative_of left_by right_by keep_by every_by kept_by
amount-back = refl

-- 0 under `ZZZ.ZZ` is `   .00`: the point ends the suppressing
zero-amount : edited false 0 (90 ∷ 90 ∷ 90 ∷ 46 ∷ 90 ∷ 90 ∷ []) ≡ 32 ∷ 32 ∷ 32 ∷ 46 ∷ 48 ∷ 48 ∷ []
unfolding edit_from edit_byte sup_after count_by
zero-amount = refl

-- 12 under `**,**9` is `****12`, and under `99DB` with a minus `12DB`
stars : edited false 12 (42 ∷ 42 ∷ 44 ∷ 42 ∷ 42 ∷ 57 ∷ []) ≡ 42 ∷ 42 ∷ 42 ∷ 42 ∷ 49 ∷ 50 ∷ []
unfolding edit_from edit_byte sup_after count_by
stars = refl

debit : edited true 12 (57 ∷ 57 ∷ 68 ∷ 66 ∷ []) ≡ 49 ∷ 50 ∷ 68 ∷ 66 ∷ []
unfolding edit_from edit_byte sup_after count_by
debit = refl

-- ` 1.50cr` is negative where the field is signed
credit : decoded_of true (32 ∷ 49 ∷ 46 ∷ 53 ∷ 48 ∷ 99 ∷ 114 ∷ []) ≡ some true 150
unfolding decoded_of negative_of left_by right_by keep_by every_by kept_by
credit = refl

unsigned : decoded_of false (45 ∷ 53 ∷ []) ≡ some false 5
unfolding decoded_of negative_of left_by right_by keep_by every_by kept_by
unsigned = refl

no-ascii : decoded_of true (49 ∷ 128 ∷ []) ≡ refused 8
unfolding decoded_of negative_of left_by right_by keep_by every_by kept_by
no-ascii = refl

-- the order of the questions: `$$9` is refused before the size, the size before a C without R
floating : judged (36 ∷ 36 ∷ 57 ∷ []) (some false 100) ≡ 15
unfolding judged count_by lawful_from
floating = refl

too_long : judged (57 ∷ 67 ∷ []) (some false 10) ≡ 14
unfolding judged count_by lawful_from
too_long = refl

half-credit : judged (57 ∷ 67 ∷ []) (some false 1) ≡ 15
unfolding judged count_by lawful_from
half-credit = refl

no-position : judged (46 ∷ []) (some false 0) ≡ 14
unfolding judged count_by lawful_from
no-position = refl
