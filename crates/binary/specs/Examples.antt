-- Worked examples, by computation.
use Rattle.std.specs.Prelude.{◌≡◌, refl, [], ◌∷◌, true, false}
use Rattle.value.specs.Answer.{refused}
use Rattle.value.specs.Number.{some}
use Rattle.lists.specs.Scan.{every_by}
use Rattle.binary.specs.Bytes.{word_in, bytes_of}
use Rattle.binary.specs.Binary.{integer_of, integer_bytes, bool_of}

unsigned-two : integer_of 1 false (0x02 ∷ 0x01 ∷ []) ≡ some false 0x0102
unfolding integer_of word_in
unsigned-two = refl

minus-128 : integer_of 0 true (0x80 ∷ []) ≡ some true 128
unfolding integer_of word_in
minus-128 = refl

least : integer_of 0 true (0x80 ∷ 0 ∷ 0 ∷ 0 ∷ 0 ∷ 0 ∷ 0 ∷ 0 ∷ []) ≡ some true 0x8000000000000000
unfolding integer_of word_in
least = refl

too_large : integer_of 0 false (0x80 ∷ 0 ∷ 0 ∷ 0 ∷ 0 ∷ 0 ∷ 0 ∷ 0 ∷ []) ≡ refused 9
unfolding integer_of word_in
too_large = refl

low-bytes : integer_bytes 0 2 true 2 ≡ 0xFF ∷ 0xFE ∷ []
unfolding integer_bytes bytes_of
low-bytes = refl

ebcdic-zero : bool_of (0xF0 ∷ []) ≡ true
unfolding bool_of every_by
ebcdic-zero = refl
