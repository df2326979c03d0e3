-- The bytes of a scalar or Pad that is not refused: one of a Bool, and of all others as many as the field is wide.
use mathlib.Core.Path.{◌≡◌, refl, sym, ap, ◌∙◌}
use mathlib.Core.Bool.{Bool, true, false, cond, false≢true}
use mathlib.Core.List.{List}
use Prim.Native.Nat.{ℕ, zero, suc, ◌%◌, ◌<◌}
use native.Mathlib.Omega.{arith}
use lib.Dec.{eqb, leb}
use lib.ListN.{length}
use borrow.Author.Tests.{ne_eqb, eqb-true, leb-true, lt-leb}
use Rattle.value.specs.declared.Scalar.{Scalar}
use Rattle.value.specs.Answer.{Answer, refused, given}
use Rattle.value.specs.declared.Whole.{Whole}
use Rattle.value.proofs.Answers.{Numbered}
use Rattle.text.specs.Shown.{Shows, shows, none, text_in, refusal_at}
use Rattle.text.proofs.Back.{written-length, padded-length}
use Rattle.display.specs.Display.{whole_in}
use Rattle.display.proofs.Numbered.{in-whole-numbered}
use Rattle.float.specs.Convert.{floated_of, decimal_for}
use Rattle.float.proofs.Numbered.{floated-numbered, for-numbered}
use Rattle.hex_field.proofs.Back as HexBack
use Rattle.edited.specs.Edited as Edited
use Rattle.edited.proofs.Round as EditedRound
use Rattle.decode_scalar.specs.Decode.{flag}
use Rattle.encode_scalar.specs.Encode.{text_bytes, int_fit, int_judged, int_written, binary_judged, binary_written, float_judged, float_written, hex_text, hex_judged, hex_written}
use Rattle.encode_scalar.specs.Encode.{decimal_fit, decimal_judged, decimal_written, edited_written, number_judged, number_bytes, judged_of, bytes_of}
use Rattle.encode_scalar.proofs.Parts.{int-length, binary-length, float-length, decimal-length}
use Rattle.encode_leaf.specs.Machine.{putting}

passed : (b : Bool) → ◌≡◌ {A = ℕ} (cond b 0 14) 0 → b ≡ true
passed true h = refl
passed false h = absurd (omega (arith, h))

tagged : (b : Bool) (n : ℕ) → cond b 13 n ≡ 0 → n ≡ 0
tagged true n h = absurd (omega (arith, h))
tagged false n h = h

-- ---- each kind

text-wide : (page : ℕ) (right : Bool) (pad w : ℕ) (s : Shows) → refusal_at w s ≡ 0 → length (text_bytes page right pad w s) ≡ w
text-wide page right pad w (shows t) h = written-length page right pad w t (leb-true (length t) w (passed (leb (length t) w) h))
text-wide page right pad w none h = absurd (omega (arith, h))

int-wide : (p q page w : ℕ) (n : Answer Whole) → Numbered n → int_judged p q w n ≡ 0 → length (int_written p q page w n) ≡ w
int-wide p q page w (given n) z h = int-length p q page w n.negative n.size (passed (int_fit p q w n.negative n.size) h)
int-wide p q page w (refused question) z h = absurd (z h)

binary-wide : (order w : ℕ) (n : Answer Whole) → Numbered n → binary_judged w n ≡ 0 → length (binary_written order w n) ≡ w
binary-wide order w (given n) z h = binary-length order w n.negative n.size
binary-wide order w (refused question) z h = absurd (z h)

float-wide : (order bits w : ℕ) (f : Answer ℕ) → Numbered f → float_judged bits w f ≡ 0 → length (float_written order bits w f) ≡ w
float-wide order bits w (given x) z h = float-length order bits w x
float-wide order bits w (refused question) z h = absurd (z h)

hex-wide : (order w : ℕ) (s : Shows) → hex_judged w s ≡ 0 → length (hex_written order w s) ≡ w
hex-wide order w (shows t) h = HexBack.bytes-length order w t h
hex-wide order w none h = absurd (omega (arith, h))

decimal-wide : (p q s page w : ℕ) (n : Answer Whole) → Numbered n → decimal_judged p q s w n ≡ 0 → length (decimal_written p q page w n) ≡ w
decimal-wide p q s page w (given n) z h = decimal-length p q s page w n.negative n.size (passed (decimal_fit p q s w n.negative n.size) h)
decimal-wide p q s page w (refused question) z h = absurd (z h)

edited-same : (w n : ℕ) (mask : List ℕ) → cond (eqb n 0) (cond (eqb w (length mask)) 0 14) n ≡ 0 → length mask ≡ w
edited-same w n mask h = by (eqb n 0) refl h
  where
    by : (b : Bool) → eqb n 0 ≡ b → cond b (cond (eqb w (length mask)) 0 14) n ≡ 0 → length mask ≡ w
    by true e k = sym (eqb-true w (length mask) (passed (eqb w (length mask)) k))
    by false e k = absurd (false≢true (sym e ∙ ap (λ m. eqb m 0) k))

edited-wide : (page w : ℕ) (mask : List ℕ) (n : Answer Whole) → Numbered n → Edited.answer_of w mask n ≡ 0 → length (edited_written page mask n) ≡ w
unfolding Edited.judged
edited-wide page w mask (given n) z h = EditedRound.page-length page n.negative n.size mask ∙ edited-same w (Edited.judged mask (given n)) mask h
edited-wide page w mask (refused question) z h = absurd (by (eqb question 13) (Edited.is_floating mask) h)
  where
    by : (a b : Bool) → cond {A = ℕ} (eqb (cond a 13 (cond b 15 question)) 0) (cond (eqb w (length mask)) 0 14) (cond a 13 (cond b 15 question)) ≡ zero → ⊥
    by true b k = omega (arith, k)
    by false true k = omega (arith, k)
    by false false k = rest (eqb question 0) refl k
      where
        rest : (t : Bool) → eqb question 0 ≡ t → cond {A = ℕ} t (cond (eqb w (length mask)) 0 14) question ≡ zero → ⊥
        rest true e k = z (eqb-true question 0 e)
        rest false e k = z k

-- ---- all kinds

pub by_kind : (P : ℕ → Type 0) → P 0 → P 1 → P 2 → P 3 → P 4 → P 5 → P 6 → P 7 → P 8 → ((k : ℕ) → 8 < k → P k) → (k : ℕ) → P k
by_kind P a b c d e f g h i j zero = a
by_kind P a b c d e f g h i j (suc zero) = b
by_kind P a b c d e f g h i j (suc (suc zero)) = c
by_kind P a b c d e f g h i j (suc (suc (suc zero))) = d
by_kind P a b c d e f g h i j (suc (suc (suc (suc zero)))) = e
by_kind P a b c d e f g h i j (suc (suc (suc (suc (suc zero))))) = f
by_kind P a b c d e f g h i j (suc (suc (suc (suc (suc (suc zero)))))) = g
by_kind P a b c d e f g h i j (suc (suc (suc (suc (suc (suc (suc zero))))))) = h
by_kind P a b c d e f g h i j (suc (suc (suc (suc (suc (suc (suc (suc zero)))))))) = i
by_kind P a b c d e f g h i j (suc (suc (suc (suc (suc (suc (suc (suc (suc k))))))))) = j (suc (suc (suc (suc (suc (suc (suc (suc (suc k))))))))) (omega arith)

module _ (p q r s : ℕ) (mask : List ℕ) (page w tag : ℕ) (v : Scalar) (t : List ℕ) where
  abbrev Wide : ℕ → Type 0
  Wide kind = judged_of kind p q r s mask w tag v t ≡ 0 → length (bytes_of kind p q r mask page w v t) ≡ putting kind w

  other : (kind : ℕ) → 8 < kind → Wide kind
  unfolding bytes_of number_bytes
  other kind k h =
      rw (
        ne_eqb kind 0 (λ e. omega arith),
        ne_eqb kind 1 (λ e. omega arith),
        ne_eqb kind 2 (λ e. omega arith),
        ne_eqb kind 3 (λ e. omega arith),
        ne_eqb kind 4 (λ e. omega arith),
        ne_eqb kind 5 (λ e. omega arith),
        ne_eqb kind 6 (λ e. omega arith),
        ne_eqb kind 7 (λ e. omega arith),
        ne_eqb kind 8 (λ e. omega arith),
        lt-leb kind 8 k,
      ) refl

  pub wide : (kind : ℕ) → Wide kind
  unfolding judged_of bytes_of number_judged number_bytes
  wide = by_kind Wide
      (λ h. text-wide page (flag p) (r % 256) w (text_in v t) h)
      (λ h. int-wide p q page w (whole_in v t) (in-whole-numbered v t) (tagged (leb 6 tag) _ h))
      (λ h. binary-wide p w (whole_in v t) (in-whole-numbered v t) (tagged (leb 6 tag) _ h))
      (λ h. float-wide p q w (floated_of v) (floated-numbered v) (tagged (leb 6 tag) _ h))
      (λ h. hex-wide p w (hex_text v t) (tagged (leb 6 tag) _ h))
      (λ h. refl)
      (λ h. padded-length page (r % 256) w)
      (λ h. decimal-wide p q s page w (decimal_for v r) (for-numbered v r) (tagged (leb 6 tag) _ h))
      (λ h. edited-wide page w mask (decimal_for v r) (for-numbered v r) (tagged (leb 6 tag) _ h))
      other
