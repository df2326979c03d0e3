-- Edited fields: the number that one says, over bytes as ASCII; and the bytes that a mask makes of a number, with the questions on the way. Over any width and mask.
use Rattle.std.specs.Prelude.{ℕ, ◌+◌, ◌-◌, Bool, true, false, ◌&&◌, ◌||◌, not, cond, List, [], ◌∷◌, map, eqb, leb, ltb, length, get_or}
use Rattle.value.specs.Answer.{Answer, refused, given}
use Rattle.value.specs.Digits.{digit_at, limit, room_for}
use Rattle.value.specs.declared.Whole.{Whole}
use Rattle.value.specs.Number.{read_in, unlawful}
use Rattle.value.specs.Field.{last_of}
use Rattle.numerals.specs.Numerals.{trimmed, kept_by}
use Rattle.ebcdic.specs.Ebcdic.{onto_page}

-- ---- reading

abbrev pub upper : ℕ → ℕ
upper b = cond (leb 97 b && leb b 122) (b - 32) b

-- the text ends in the letters a b, of any case
abbrev pub ends_in : ℕ → ℕ → List ℕ → Bool
ends_in a b t = leb 2 (length t) && (eqb (upper (get_or t (length t - 2) 0)) a && eqb (upper (last_of t)) b)

abbrev pub minus_at_an_end : List ℕ → Bool
minus_at_an_end t = eqb (get_or t 0 0) 45 || eqb (last_of t) 45

-- "the trimmed text starts or ends in -, or ends in CR or DB of any case"
unfoldable pub negative_of : List ℕ → Bool
negative_of t = ends_in 67 82 t || (ends_in 68 66 t || minus_at_an_end t)

-- "digits kept, others skipped. Edited is negative if signed and" the text tells a minus; answer: what a lawful field answers, from its sign and its size
abbrev pub edited_by : {X : Type 0} → (Bool → ℕ → X) → X → Bool → List ℕ → X
edited_by answer bad signed s = kept_by (answer (signed && negative_of (trimmed s))) bad s

unfoldable pub decoded_of : Bool → List ℕ → Answer Whole
decoded_of signed s = edited_by (read_in limit) unlawful signed s

-- ---- the mask

-- c is one of these bytes
abbrev pub is_in : List ℕ → ℕ → Bool
is_in [] c = false
is_in (x ∷ xs) c = eqb c x || is_in xs c

-- how many bytes pass the test f
unfoldable pub count_by : (ℕ → Bool) → List ℕ → ℕ
count_by f [] = 0
count_by f (c ∷ m) = cond (f c) (count_by f m + 1) (count_by f m)

-- "the mask's digit positions": 9 Z *
abbrev pub is_digit_pos : ℕ → Bool
is_digit_pos c = is_in (57 ∷ 90 ∷ 42 ∷ []) c

abbrev pub positions : List ℕ → ℕ
positions mask = count_by is_digit_pos mask

abbrev pub count_of : ℕ → List ℕ → ℕ
count_of sym mask = count_by (λ c. eqb c sym) mask

-- "Mask without a repeated $, + or -?"
abbrev pub is_floating : List ℕ → Bool
is_floating mask = leb 2 (count_of 36 mask) || (leb 2 (count_of 43 mask) || leb 2 (count_of 45 mask))

-- the lawful mask characters: 9 Z * , . / B 0 $ + - and the C of CR and the D of DB
abbrev pub is_mark : ℕ → Bool
is_mark c = is_in (57 ∷ 90 ∷ 42 ∷ 44 ∷ 46 ∷ 47 ∷ 66 ∷ 48 ∷ 36 ∷ 43 ∷ 45 ∷ 67 ∷ 68 ∷ []) c

-- behind a C stands its R and behind a D its B; an R stands nowhere else
abbrev pub follows : ℕ → ℕ → Bool
follows prev c = cond (eqb prev 67) (eqb c 82) (cond (eqb prev 68) (eqb c 66) (is_mark c))

-- "C without R, D without B in a mask (15)"; prev is the byte before
unfoldable pub lawful_from : ℕ → List ℕ → Bool
lawful_from prev [] = not (eqb prev 67 || eqb prev 68)
lawful_from prev (c ∷ m) = follows prev c && lawful_from c m

abbrev pub is_lawful : List ℕ → Bool
is_lawful mask = lawful_from 0 mask

-- ---- the questions

-- "enough digit positions (0 needs one)"; a size from 10^18 does not fit
abbrev pub fits_in : ℕ → ℕ → Bool
fits_in n size = ltb size limit && room_for n size

-- 13: value of a kind Rust takes; 15: mask without a repeated $, + or -; 14: value fits; 15: mask characters lawful; 0: none refuses
unfoldable pub judged : List ℕ → Answer Whole → ℕ
judged mask (refused question) = cond (eqb question 13) 13 (cond (is_floating mask) 15 question)
judged mask (given n) = cond (is_floating mask) 15 (cond (fits_in (positions mask) n.size) (cond (is_lawful mask) 0 15) 14)

-- ---- the bytes

-- the digit of the size at a place, as a byte
abbrev pub digit_byte : ℕ → ℕ → ℕ
digit_byte size place = digit_at place size + 48

-- a zero that is suppressed gives way to a byte
abbrev pub suppress : Bool → ℕ → ℕ → ℕ
suppress sup d by = cond (sup && eqb d 48) by d

-- the byte that stands for the mask byte c behind the mask byte prev. d is the digit of its place; sup says that zeros are suppressed still.
-- B is a blank, or the B of DB; CR and DB show only a minus; other bytes stand for themselves
unfoldable pub edit_byte : Bool → ℕ → ℕ → ℕ → ℕ → Bool → ℕ
edit_byte negative pad prev c d sup =
    cond (eqb c 57) d
    (cond (eqb c 90) (suppress sup d 32)
    (cond (eqb c 42) (suppress sup d 42)
    (cond (eqb c 44) (cond sup pad 44)
    (cond (eqb c 66) (cond (negative && eqb prev 68) 66 32)
    (cond (eqb c 43) (cond negative 45 43)
    (cond (eqb c 45) (cond negative 45 32)
    (cond (is_in (67 ∷ 82 ∷ 68 ∷ []) c) (cond negative c 32)
    c)))))))

-- whether zeros are suppressed still behind c: a 9, a point and a digit that is no zero end it
unfoldable pub sup_after : ℕ → ℕ → Bool → Bool
sup_after c d sup = cond (is_in (57 ∷ 46 ∷ []) c) false (cond (is_in (90 ∷ 42 ∷ []) c) (sup && eqb d 48) sup)

-- the edited bytes, from the left; a digit position's place is the number of digit positions behind it
unfoldable pub edit_from : Bool → ℕ → ℕ → ℕ → List ℕ → Bool → List ℕ
edit_from negative pad size prev [] sup = []
edit_from negative pad size prev (c ∷ m) sup =
    edit_byte negative pad prev c (digit_byte size (positions m)) sup ∷ edit_from negative pad size c m (sup_after c (digit_byte size (positions m)) sup)

-- what a suppressed comma gives way to
abbrev pub pad_of : List ℕ → ℕ
pad_of mask = cond (ltb 0 (count_of 42 mask)) 42 32

abbrev pub edited : Bool → ℕ → List ℕ → List ℕ
edited negative size mask = edit_from negative (pad_of mask) size 0 mask true

-- ---- writing a part

-- the part is as long as the mask, else the number does not fit
abbrev pub answer_of : ℕ → List ℕ → Answer Whole → ℕ
answer_of width mask n = cond (eqb (judged mask n) 0) (cond (eqb width (length mask)) 0 14) (judged mask n)

-- the part after writing: the edited number where it may be written, and what it was elsewhere
unfoldable pub written_of : ℕ → List ℕ → Answer Whole → List ℕ → List ℕ
written_of page mask (refused question) part = part
written_of page mask (given n) part =
    cond (eqb (answer_of (length part) mask (given n)) 0) (map (onto_page page) (edited n.negative n.size mask)) part
