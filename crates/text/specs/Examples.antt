-- Worked texts, by computation.
use Rattle.std.specs.Prelude.{◌≡◌, refl, List, [], ◌∷◌, true, false, ℕ, zero, suc, ◌<◌, get_or}
use Rattle.std.proofs.lemmas.Bool.{false≢true}
use Rattle.std.proofs.Common.{arith, lit<, lit≤}
use Rattle.lists.specs.Scan.{left_by, right_by, before_by}
use Rattle.ebcdic.specs.Ebcdic.{from_page, onto_page, to_ascii, ascii_table, to_ebcdic, ebcdic_table}
use Rattle.text.specs.Text.{cut, read_text, written, Fits}
use Rattle.text.specs.Changed.{pad_first, Changed}
use Rattle.text.specs.Shown.{digit_count, whole_text, int_text, decimal_text, text_in, refusal_at}
use Rattle.value.specs.declared.Scalar.TheVariants.{Text, FloatBits}
use Rattle.value.specs.Scalar.{decimal}

-- `AB  ` left-justified
left_cut : read_text 0 false true 32 (65 ∷ 66 ∷ 32 ∷ 32 ∷ []) ≡ 65 ∷ 66 ∷ []
unfolding cut left_by right_by before_by from_page
left_cut = refl

-- `  A ` right-justified
right-cut : read_text 0 true true 32 (32 ∷ 32 ∷ 65 ∷ 32 ∷ []) ≡ 65 ∷ 32 ∷ []
unfolding cut left_by right_by before_by from_page
right-cut = refl

-- `AB`, space, zero byte, `X` (02, S-5): the 0 byte first, then the pad; before it was `AB` and a space
zero-cut : read_text 0 false true 32 (65 ∷ 66 ∷ 32 ∷ 0 ∷ 88 ∷ []) ≡ 65 ∷ 66 ∷ []
unfolding cut left_by right_by before_by from_page
zero-cut = refl

zero-before : pad_first false true 32 (65 ∷ 66 ∷ 32 ∷ 0 ∷ 88 ∷ []) ≡ 65 ∷ 66 ∷ 32 ∷ []
unfolding pad_first left_by right_by before_by
zero-before = refl

zero-changed : Changed false true 32 (65 ∷ 66 ∷ 32 ∷ 0 ∷ 88 ∷ [])
zero-changed =
    record {
      trimmed = refl;
      left = refl;
      other = λ q. omega (arith, q);
      before = front;
      after = 88 ∷ [];
      bytes = refl;
      first = first;
    }
  where
    front : List ℕ
    front = 65 ∷ 66 ∷ []

    first : (k : ℕ) → k < 2 → get_or front k 0 ≡ 0 → ⊥
    first zero h q = omega (arith, q)
    first (suc zero) h q = omega (arith, q)
    first (suc (suc k)) h q = omega arith

-- the smallest such field; no byte before the 0 byte; the pad 0
zero-smallest : read_text 0 false true 32 (32 ∷ 0 ∷ []) ≡ []
unfolding cut left_by right_by before_by from_page
zero-smallest = refl

zero-front : read_text 0 false true 32 (0 ∷ 32 ∷ []) ≡ []
unfolding cut left_by right_by before_by from_page
zero-front = refl

zero-pad : read_text 0 false true 0 (65 ∷ 32 ∷ 0 ∷ 0 ∷ []) ≡ 65 ∷ 32 ∷ []
unfolding cut left_by right_by before_by from_page
zero-pad = refl

-- right-justified text keeps its order, and the space before the 0 byte
zero_right : read_text 0 true true 32 (32 ∷ 65 ∷ 32 ∷ 0 ∷ 32 ∷ []) ≡ 65 ∷ 32 ∷ []
unfolding cut left_by right_by before_by from_page
zero_right = refl

-- on page 1, where the pad is 0x40: `A`, pad, zero byte, `B`
zero-ebcdic : read_text 1 false true 32 (0xC1 ∷ 0x40 ∷ 0 ∷ 0xC2 ∷ []) ≡ 65 ∷ []
unfolding cut left_by right_by before_by from_page to_ascii ascii_table
zero-ebcdic = refl

untrimmed : read_text 0 false false 32 (65 ∷ 0 ∷ 32 ∷ []) ≡ 65 ∷ 0 ∷ 32 ∷ []
unfolding cut from_page
untrimmed = refl

-- `A` and a space fit two untrimmed bytes; trimmed, with the pad byte space, they do not
untrimmed-fits : Fits false false 32 2 (65 ∷ 32 ∷ [])
untrimmed-fits =
    record {
      bytes = byte;
      room = lit≤ tt;
      no_zero = λ trimmed. absurd (false≢true trimmed);
      no_pad = λ trimmed. absurd (false≢true trimmed);
      whole = λ _. refl;
    }
  where
    byte : (k : ℕ) → k < 2 → get_or (65 ∷ 32 ∷ []) k 0 < 256
    byte zero h = lit< tt
    byte (suc zero) h = lit< tt
    byte (suc (suc k)) h = absurd (omega arith)

trimmed-unfit : Fits false true 32 2 (65 ∷ 32 ∷ []) → ⊥
trimmed-unfit f = f.no_pad refl (lit< tt) refl

-- `OK` on page 1, pads translated too
ebcdic-cut : read_text 1 false true 32 (0xD6 ∷ 0xD2 ∷ 0x40 ∷ []) ≡ 79 ∷ 75 ∷ []
unfolding cut left_by right_by before_by from_page to_ascii ascii_table
ebcdic-cut = refl

ebcdic-right : written 1 true 32 4 (79 ∷ 75 ∷ []) ≡ 0x40 ∷ 0x40 ∷ 0xD6 ∷ 0xD2 ∷ []
unfolding written onto_page to_ebcdic ebcdic_table
ebcdic-right = refl

-- a byte from 0x80, and one as the pad
high-bytes : read_text 0 true true 0xFF (0xFF ∷ 0x80 ∷ 0xFF ∷ []) ≡ 0x80 ∷ 0xFF ∷ []
unfolding cut left_by right_by before_by from_page
high-bytes = refl

nothing : whole_text 0 ≡ 48 ∷ []
unfolding digit_count
nothing = refl

-- `-10`
minus-ten : int_text true 10 ≡ 45 ∷ 49 ∷ 48 ∷ []
unfolding digit_count
minus-ten = refl

no-minus-zero : int_text true 0 ≡ 48 ∷ []
unfolding digit_count
no-minus-zero = refl

-- `-123.45`
minus-123-45 : decimal_text true 12345 2 ≡ 45 ∷ 49 ∷ 50 ∷ 51 ∷ 46 ∷ 52 ∷ 53 ∷ []
unfolding digit_count decimal_text
minus-123-45 = refl

-- `0.005`
five-thousandths : decimal_text false 5 3 ≡ 48 ∷ 46 ∷ 48 ∷ 48 ∷ 53 ∷ []
unfolding digit_count decimal_text
five-thousandths = refl

-- `-9223372036854775808`
least-int : int_text true 9223372036854775808
    ≡ 45 ∷ 57 ∷ 50 ∷ 50 ∷ 51 ∷ 51 ∷ 55 ∷ 50 ∷ 48 ∷ 51 ∷ 54 ∷ 56 ∷ 53 ∷ 52 ∷ 55 ∷ 55 ∷ 53 ∷ 56 ∷ 48 ∷ 56 ∷ []
unfolding digit_count
least-int = refl

-- what is refused: a Float, a text that is too long
float-refused : refusal_at 24 (text_in (FloatBits 0x3FF0000000000000) []) ≡ 13
float-refused = refl

text-too-long : refusal_at 1 (text_in (Text 0 2) (65 ∷ 66 ∷ [])) ≡ 14
text-too-long = refl

-- `-1.2` takes four bytes
decimal-fits : refusal_at 4 (text_in (decimal true 12 1) []) ≡ 0
unfolding digit_count decimal_text
decimal-fits = refl

decimal-too-long : refusal_at 3 (text_in (decimal true 12 1) []) ≡ 14
unfolding digit_count decimal_text
decimal-too-long = refl
