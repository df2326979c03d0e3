-- Binary: "p order, q signed 0/1", "Binary width 1..8"; Bool: "true if any raw byte is neither 0 nor 0x30".
use Rattle.std.specs.Prelude.{List, Bool, true, false, not, ◌&&◌, ◌||◌, cond, ℕ, ◌-◌, ◌/◌, ◌^◌, eqb, leb, length}
use Rattle.lists.specs.Scan.{every_by}
use Rattle.value.specs.Answer.{Answer}
use Rattle.value.specs.declared.Whole.{Whole}
use Rattle.value.specs.Number.{some, read_in, unlawful}
use Rattle.value.specs.Word.{word_of}
use Rattle.binary.specs.Bytes.{word_in, bytes_of}

abbrev pub width_ok : ℕ → Bool
width_ok n = leb 1 n && leb n 8

-- half of 256^n, for the widths of a Binary field
abbrev pub half_of : ℕ → ℕ
half_of n = cond (width_ok n) (256 ^ n / 2) 0

-- two's complement over n bytes: from half of 256^n on, the number less 256^n
abbrev pub signed_word : ℕ → ℕ → Answer Whole
signed_word n v = cond (leb (256 ^ n / 2) v) (some true (256 ^ n - v)) (some false v)

-- "unsigned Binary from 2^63 (9)"
abbrev pub unsigned_word : ℕ → Answer Whole
unsigned_word v = read_in (2 ^ 63) false v

unfoldable pub integer_of : ℕ → Bool → List ℕ → Answer Whole
integer_of order signed s =
    cond (width_ok (length s)) (cond signed (signed_word (length s) (word_in order s)) (unsigned_word (word_in order s))) unlawful

-- "Binary keeps low bytes" of the two's complement
unfoldable pub integer_bytes : ℕ → ℕ → Bool → ℕ → List ℕ
integer_bytes order n negative size = bytes_of order n (word_of negative size)

-- ---- Bool

abbrev pub is_false : ℕ → Bool
is_false b = eqb b 0 || eqb b 0x30

unfoldable pub bool_of : List ℕ → Bool
bool_of s = not (every_by is_false s)
