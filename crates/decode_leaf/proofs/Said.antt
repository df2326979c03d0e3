-- What the bytes of a field say, against what the code makes of it: a value that is said as a value is no text.
use mathlib.Core.Path.{◌≡◌, refl, sym, ap, ◌∙◌}
use mathlib.Core.Bool.{Bool, true, false, cond}
use mathlib.Core.List.{List, [], ◌++◌, map}
use Prim.Native.Nat.{ℕ, ◌+◌, ◌-◌, ◌%◌, ◌≤◌}
use native.Mathlib.Omega.{arith}
use lib.Dec.{eqb, leb}
use lib.IntN.{ℤ}
use lib.ListN.{length, take, drop, length-append, length-drop, take-append-drop}
use lib.Seq.{length-take-le, take-append-add, take-append_seam}
use borrow.Author.Tests.{le-leb, lt-leb, leb-true, leb-false}
use Rattle.layout.specs.declared.Entry.{Entry}
use Rattle.value.specs.declared.Scalar.{Scalar}
use Rattle.value.specs.declared.Scalar.TheVariants.{Null, Text, Float as FloatV, FloatBits, Bool as BoolV}
use Rattle.value.specs.Answer.{Answer, refused as refused_by, given}
use Rattle.value.specs.declared.Whole.{Whole}
use Rattle.ebcdic.specs.Ebcdic.{from_page}
use Rattle.text.specs.Text.{read_text, front}
use Rattle.binary.specs.Binary.{integer_of, bool_of}
use Rattle.float.specs.Field.{float_in, field_ok, word_for}
use Rattle.binary.specs.Bytes.{word_in}
use Rattle.value.specs.Scalar.{float_of}
use lib.Ieee.{binary64, of_bits, nan_bits}
use Rattle.hex_field.specs.Hex.{hex_of}
use Rattle.edited.specs.Edited as Edited
use Rattle.decode_scalar.specs.Decode.{Says, refused, value, text, says, flag, int_says, decimal_says, float_says, int_in, decimal_in, answer_of, text_after}
use Rattle.layout.specs.Layout.{controls}
use Rattle.walks.specs.Walk.{Leaf, bad, leaf}
use Rattle.decode_leaf.specs.Counts.{note_in, set_all}
use Rattle.decode_leaf.specs.Machine.{Held, state, leaf_of, moved_in, told_in}

-- a scalar that is no text stands in its item as it is
abbrev NoText : Scalar → Type 0
NoText v = (told : ℕ) → (moved_in told v ≡ v) × (told_in told v ≡ told)

abbrev pub Matches : Says → Type 0
Matches (refused n) = Unit {0}
Matches (value v) = NoText v
Matches (text t) = Unit {0}

by : (b : Bool) (x y : Says) → Matches x → Matches y → Matches (cond b x y)
by true x y f g = f
by false x y f g = g

int-matches : (n : Answer Whole) → Matches (int_says n)
int-matches (given n) = λ told. (refl, refl)
int-matches (refused_by question) = tt

decimal-matches : (n : Answer Whole) (scale : ℕ) → Matches (decimal_says scale n)
decimal-matches (given n) scale = λ told. (refl, refl)
decimal-matches (refused_by question) scale = tt

float-matches : (p q : ℕ) (bs : List ℕ) → Matches (float_says (float_in p q bs))
unfolding float_in
float-matches p q bs = go (field_ok q (length bs)) (word_for q (word_in p bs))
  where
    word : (w : ℕ) (b : Bool) → NoText (cond b (FloatBits w) (FloatV (of_bits binary64 w)))
    word w true = λ told. (refl, refl)
    word w false = λ told. (refl, refl)

    go : (b : Bool) (w : ℕ) → Matches (float_says (cond b (given (float_of w)) (refused_by 8)))
    go true w = word w (nan_bits binary64 w)
    go false w = tt

pub matches : (kind p q r page : ℕ) (bs : List ℕ) → Matches (says kind p q r page bs)
unfolding says
matches kind p q r page bs =
    by (eqb kind 0) (text (read_text page (flag p) (flag q) (r % 256) bs)) _ tt (
    by (eqb kind 1) (int_says (int_in p q page bs)) _ (int-matches (int_in p q page bs)) (
    by (eqb kind 2) (int_says (integer_of p (flag q) bs)) _ (int-matches (integer_of p (flag q) bs)) (
    by (eqb kind 3) (float_says (float_in p q bs)) _ (float-matches p q bs) (
    by (eqb kind 4) (text (hex_of p bs)) _ tt (
    by (eqb kind 5) (value (BoolV (bool_of bs))) _ (λ told. (refl, refl)) (
    by (eqb kind 7) (decimal_says r (decimal_in p q page bs)) _ (decimal-matches (decimal_in p q page bs) r) (
    by (eqb kind 8) (decimal_says r (Edited.decoded_of (flag p) (map (from_page page) bs))) (value Null) (decimal-matches (Edited.decoded_of (flag p) (map (from_page page) bs)) r)
    (λ told. (refl, refl)))))))))

-- ---- a refusal, and a value with its state

module _ (l : List ℕ) (page : ℕ) (deps : Bool) (e : Entry) (run : List ℤ) (told : ℕ) (buffer : List ℕ) (h : told ≤ length buffer) where
  abbrev Leaves : Says → Leaf Held
  Leaves x = leaf_of l page (length buffer) deps e (state run told buffer) x

  so_far : length (take told buffer) ≡ told
  so_far = length-take-le told buffer h

  room-is : (t : List ℕ) (b : Bool) → leb (length t) (length buffer - told) ≡ b → leb (length (take told buffer) + length t) (length buffer) ≡ b
  room-is t true q = le-leb (length (take told buffer) + length t) (length buffer) (omega (arith, so_far, leb-true (length t) (length buffer - told) q, h))
  room-is t false q = lt-leb (length (take told buffer) + length t) (length buffer) (omega (arith, so_far, leb-false (length t) (length buffer - told) q, h))

  pub refused-leaf : (x : Says) → (n : ℕ) → refused_by n ≡ answer_of x (length buffer - told) → Leaves x ≡ bad n
  refused-leaf (refused m) n q = let z : n ≡ m = cc in ap bad (sym z)
  refused-leaf (value v) n q = absurd (omega (arith, ap tag q))
    where
      tag : Answer Scalar → ℕ
      tag (given w) = 1
      tag (refused_by m) = 0
  refused-leaf (text t) n q = go (leb (length t) (length buffer - told)) refl q
    where
      tag : Answer Scalar → ℕ
      tag (given w) = 1
      tag (refused_by m) = 0

      go : (b : Bool) → leb (length t) (length buffer - told) ≡ b → refused_by n ≡ cond b (given (Text 0 (length t))) (refused_by 16) → Leaves (text t) ≡ bad n
      go true g f = absurd (omega (arith, ap tag f))
      go false g f = let z : n ≡ 16 = cc in rw (room-is t false g, z) refl

  pub record Read (x : Says) (v : Scalar) (after : List ℕ) : Type 0 where
    pub is : Leaves x ≡ leaf (moved_in told v) (state (note_in l deps e v run) (told_in told v) after)
    pub within : told_in told v ≤ length after
    pub same : length after ≡ length buffer

  noted-text : (a b : ℕ) → note_in l deps e (Text a b) run ≡ run
  unfolding note_in
  noted-text a b = go deps (controls e)
    where
      go : (d c : Bool) → cond d (set_all l (cond c [] []) run) run ≡ run
      go true true = refl
      go true false = refl
      go false c = refl

  pub read-leaf : (x : Says) → Matches x → (v : Scalar) → given v ≡ answer_of x (length buffer - told)
      → (after : List ℕ) → after ≡ take told buffer ++ text_after x (drop told buffer) → Read x v after
  read-leaf (refused m) k v q after a = absurd (omega (arith, ap tag q))
    where
      tag : Answer Scalar → ℕ
      tag (given w) = 1
      tag (refused_by m) = 0
  read-leaf (value w) k v q after a =
      let z : w ≡ v = cc in
      let y : after ≡ buffer = a ∙ take-append-drop told buffer in
      rw (y, ← z) (record { is = rw ((k told).0, (k told).1) refl; within = rw (k told).1 h; same = refl })
  read-leaf (text t) k v q after a = go (leb (length t) (length buffer - told)) refl q (a ∙ ap (λ l. take told buffer ++ l) refl)
    where
      tag : Answer Scalar → ℕ
      tag (given w) = 1
      tag (refused_by m) = 0

      go : (b : Bool) → leb (length t) (length buffer - told) ≡ b → given v ≡ cond b (given (Text 0 (length t))) (refused_by 16)
          → after ≡ take told buffer ++ cond (leb (length t) (length (drop told buffer))) (front t (drop told buffer)) (drop told buffer) → Read (text t) v after
      go false g f p = absurd (omega (arith, ap tag f))
      go true g f p =
          let z : v ≡ Text 0 (length t) = cc in
          let y : leb (length t) (length (drop told buffer)) ≡ true = ap (leb (length t)) (length-drop told buffer) ∙ g in
          let w : after ≡ take told buffer ++ (t ++ drop (length t) (drop told buffer)) = p ∙ ap (λ c. take told buffer ++ cond c (front t (drop told buffer)) (drop told buffer)) y in
          let u : length after ≡ length buffer = ap length w ∙ length-append (take told buffer) (t ++ drop (length t) (drop told buffer))
          ∙ omega (arith, so_far, length-append t (drop (length t) (drop told buffer)), length-drop (length t) (drop told buffer), length-drop told buffer, leb-true (length t) (length buffer - told) g, h) in
          let x : take (told + length t) after ≡ take told buffer ++ t = ap (take (told + length t)) w
          ∙ ap (λ n. take (n + length t) (take told buffer ++ (t ++ drop (length t) (drop told buffer)))) (sym so_far)
          ∙ take-append-add (take told buffer) (t ++ drop (length t) (drop told buffer)) (length t)
          ∙ ap (λ l. take told buffer ++ l) (take-append_seam t (drop (length t) (drop told buffer))) in
          rw z (record {
            is = rw (room-is t true g, noted-text 0 (length t), x, so_far) refl;
            within = omega (arith, u, leb-true (length t) (length buffer - told) g, h);
            same = u;
          })
