-- Worked examples, by computation.
use Rattle.std.specs.Prelude.{◌≡◌, refl, [], ◌∷◌, true, false}
use Rattle.lists.specs.Scan.{before_by, every_by}
use Rattle.value.specs.Answer.{refused, given}
use Rattle.lines.specs.Lines.{place, starts_with, value_at, number_of, name_ok, mask_ok}
use Rattle.lines.specs.Names.{equal, same_name, index_in, number_in}

-- `p=12` and 0x0A, at 0; without 0x0A; another word; past the end
value_found : value_at (0x70 ∷ 0x3D ∷ []) (0x70 ∷ 0x3D ∷ 0x31 ∷ 0x32 ∷ 0x0A ∷ 0x71 ∷ []) 0 ≡ given (place 2 4 5)
unfolding value_at starts_with before_by
value_found = refl

value-open : value_at (0x70 ∷ 0x3D ∷ []) (0x70 ∷ 0x3D ∷ 0x31 ∷ 0x32 ∷ []) 0 ≡ refused 17
unfolding value_at starts_with before_by
value-open = refl

value-other : value_at (0x71 ∷ 0x3D ∷ []) (0x70 ∷ 0x3D ∷ 0x31 ∷ 0x0A ∷ []) 0 ≡ refused 17
unfolding value_at starts_with before_by
value-other = refl

value-past : value_at (0x70 ∷ 0x3D ∷ []) (0x70 ∷ 0x3D ∷ 0x0A ∷ []) 9 ≡ refused 17
unfolding value_at starts_with before_by
value-past = refl

-- an empty value
value-empty : value_at (0x70 ∷ 0x3D ∷ []) (0x0A ∷ 0x70 ∷ 0x3D ∷ 0x0A ∷ []) 1 ≡ given (place 3 3 4)
unfolding value_at starts_with before_by
value-empty = refl

-- `0`, `10`, `01`, nothing, `1x`
number-zero : number_of (0x30 ∷ []) ≡ given 0
unfolding number_of every_by
number-zero = refl

number-ten : number_of (0x31 ∷ 0x30 ∷ []) ≡ given 10
unfolding number_of every_by
number-ten = refl

leading-zero : number_of (0x30 ∷ 0x31 ∷ []) ≡ refused 17
unfolding number_of every_by
leading-zero = refl

number-empty : number_of [] ≡ refused 17
unfolding number_of every_by
number-empty = refl

no_digit : number_of (0x31 ∷ 0x78 ∷ []) ≡ refused 17
unfolding number_of every_by
no_digit = refl

-- 4294967294 and 4294967295
greatest : number_of (0x34 ∷ 0x32 ∷ 0x39 ∷ 0x34 ∷ 0x39 ∷ 0x36 ∷ 0x37 ∷ 0x32 ∷ 0x39 ∷ 0x34 ∷ []) ≡ given 4294967294
unfolding number_of every_by
greatest = refl

too-great : number_of (0x34 ∷ 0x32 ∷ 0x39 ∷ 0x34 ∷ 0x39 ∷ 0x36 ∷ 0x37 ∷ 0x32 ∷ 0x39 ∷ 0x35 ∷ []) ≡ refused 17
unfolding number_of every_by
too-great = refl

-- `A-1`, nothing, `A B`
name-good : name_ok (0x41 ∷ 0x2D ∷ 0x31 ∷ []) ≡ true
unfolding every_by
name-good = refl

name-empty : name_ok [] ≡ false
unfolding every_by
name-empty = refl

name-blank : name_ok (0x41 ∷ 0x20 ∷ 0x42 ∷ []) ≡ false
unfolding every_by
name-blank = refl

-- `Z9`, and a byte 0x7F
mask-good : mask_ok (0x5A ∷ 0x39 ∷ []) ≡ true
unfolding every_by
mask-good = refl

mask-bad : mask_ok (0x5A ∷ 0x7F ∷ []) ≡ false
unfolding every_by
mask-bad = refl

-- `a_b` and `Ab`; `[` and `{` are no letters
any-case : same_name (0x61 ∷ 0x42 ∷ []) (0x41 ∷ 0x62 ∷ []) ≡ true
unfolding equal
any-case = refl

no-letter : same_name (0x5B ∷ []) (0x7B ∷ []) ≡ false
unfolding equal
no-letter = refl

-- the names B, A, b, C: C is the third different one
third : number_in ((0x42 ∷ []) ∷ (0x41 ∷ []) ∷ (0x62 ∷ []) ∷ (0x43 ∷ []) ∷ []) (0x63 ∷ []) ≡ 2
unfolding index_in equal
third = refl

again : number_in ((0x42 ∷ []) ∷ (0x41 ∷ []) ∷ (0x62 ∷ []) ∷ []) (0x62 ∷ []) ≡ 0
unfolding index_in equal
again = refl
