-- The part that is a field's text: its bytes, and where it starts.
use mathlib.Core.Path.{◌≡◌, refl, sym, ap, ◌∙◌}
use mathlib.Core.Bool.{Bool, true, false, cond}
use mathlib.Core.List.{List, [], map}
use Prim.Native.Nat.{ℕ, ◌+◌, ◌%◌, ◌≤◌}
use native.Mathlib.Nat.{le_trans, le_of_eq, min-le_left}
use native.Mathlib.Omega.{arith}
use lib.Dec.{eqb}
use lib.ListN.{length, take, drop, length-take}
use denote.Ref.{Bor}
use borrow.Author.Tests.{eq-eqb, ne_eqb}
use Rattle.lists.specs.Scan.{left_count}
use Rattle.ebcdic.specs.Ebcdic.{from_page}
use Rattle.ebcdic.proofs.Laws.{page-zero}
use Rattle.lists.specs.Part.{place_in}
use Rattle.lists.proofs.Part.{place-add}
use Rattle.text.specs.Text.{is_byte, cut, cut_from, read_text}
use Rattle.layout.specs.declared.Entry.{Entry}
use Rattle.decode_scalar.specs.Decode.{flag}
use Rattle.text_field.specs.Single.{entry_of, asked_of, field_text, start_of, place_of, TextPlaced}
use Rattle.text_field.specs.declared.TextPlace.{TextPlace}

-- a place k bytes further
abbrev onward : ℕ → ℕ × ℕ → ℕ × ℕ
onward k p = (p.0, k + p.1)

-- the part that the code takes, by an entry's words and its field's bytes
module _ (e : Entry) (right trim : Bool) (pad : ℕ) (s : List ℕ) (f : right ≡ flag e.p) (g : trim ≡ flag e.q) (h : pad ≡ e.r % 256) (b : e.r ≤ 255) where
  pad-same : pad ≡ e.r
  pad-same = omega (arith, h, b)

  pub part_bytes : (t : List ℕ) → map (from_page 0) t ≡ read_text 0 right trim pad s → t ≡ cut (flag e.p) (flag e.q) e.r s
  part_bytes t i = sym (page-zero t) ∙ i ∙ rw (f, g, pad-same, page-zero s) refl

  pub part-place : (x y z : Bor (List ℕ)) (at : ℕ) → y.ref_ptr ≡ place_in x at → z.ref_ptr ≡ place_in y (cut_from right trim pad (map (from_page 0) s))
      → z.ref_ptr ≡ place_in x (at + cut_from (flag e.p) (flag e.q) e.r s)
  part-place x y z at i j =
      let k : cut_from right trim pad (map (from_page 0) s) ≡ cut_from (flag e.p) (flag e.q) e.r s = rw (f, g, pad-same, page-zero s) refl in
      j ∙ ap (place_in y) k ∙ ap (onward (cut_from (flag e.p) (flag e.q) e.r s)) i ∙ place-add x at (cut_from (flag e.p) (flag e.q) e.r s)

-- ---- the two calls' answers, by page

module _ (l : List ℕ) (page : ℕ) (x y : Bor (List ℕ)) (e : Entry) (i : e ≡ entry_of l) (n : ℕ) (j : n ≡ asked_of false l page (length x.now) (length y.now)) where
  module _ (p : page ≡ 1) where
    pub text-scratch : cond (eqb n 0) (cut (flag e.p) (flag e.q) e.r (take e.width y.now)) [] ≡ field_text l page x.now y.now
    unfolding field_text
    text-scratch = rw (i, j, eq-eqb page 1 p) refl

    pub start-scratch : cond (eqb n 0) (0 + cut_from (flag e.p) (flag e.q) e.r (take e.width y.now)) 0 ≡ start_of l page x.now y.now
    unfolding start_of
    start-scratch = rw (i, j, eq-eqb page 1 p) refl

    pub place-scratch : place_in y (cond (eqb n 0) (0 + cut_from (flag e.p) (flag e.q) e.r (take e.width y.now)) 0) ≡ place_of l page x y
    unfolding place_of
    place-scratch = ap (place_in y) start-scratch ∙ rw (eq-eqb page 1 p) refl

  module _ (p : page ≡ 1 → ⊥) where
    pub text-record : cond (eqb n 0) (cut (flag e.p) (flag e.q) e.r (take e.width (drop e.offset x.now))) [] ≡ field_text l page x.now y.now
    unfolding field_text
    text-record = rw (i, j, ne_eqb page 1 p) refl

    pub start-record : cond (eqb n 0) (e.offset + cut_from (flag e.p) (flag e.q) e.r (take e.width (drop e.offset x.now))) 0 ≡ start_of l page x.now y.now
    unfolding start_of
    start-record = rw (i, j, ne_eqb page 1 p) refl

    pub place-record : place_in x (cond (eqb n 0) (e.offset + cut_from (flag e.p) (flag e.q) e.r (take e.width (drop e.offset x.now))) 0) ≡ place_of l page x y
    unfolding place_of
    place-record = ap (place_in x) start-record ∙ rw (ne_eqb page 1 p) refl

-- ---- where the text starts, by an entry's words: trim q, right-justified p

module _ (e : Entry) (at : ℕ) (b : Bool) where
  pub padded-start : b ≡ flag e.q → b ≡ true → (d : Bool) → d ≡ flag e.p → d ≡ true → (pad : ℕ) → pad ≡ e.r % 256 → e.r ≤ 255
      → (a : ℕ) (s u : List ℕ) → s ≡ u → a ≡ left_count (is_byte pad) s → at + a ≡ at + cut_from (flag e.p) (flag e.q) e.r u
  unfolding cut_from
  padded-start i j d v w pad h k a s u m n =
      let r : pad ≡ e.r = omega (arith, h, k) in
      ap (λ (x : ℕ). at + x) n ∙ rw (sym i ∙ j, sym v ∙ w, r, m) refl

-- a place inside a field is a place inside its slice
pub within : (at w a : ℕ) (s u : List ℕ) → at + w ≤ length s → u ≡ take w (drop at s) → a ≤ length u → at + a ≤ length s
within at w a s u h q k =
    let l : length u ≤ w = le_trans (le_of_eq (ap length q ∙ length-take w (drop at s))) (min-le_left w (length (drop at s))) in
    omega (arith, l, k, h)

-- ---- where the text stands, by the ways of the code

front : (y : Bor (List ℕ)) → y.ref_ptr ≡ place_in y 0
front y = let z : y.ref_ptr.1 ≡ 0 + y.ref_ptr.1 = omega arith in ap (λ n. (y.ref_ptr.0, n)) z

module _ (l : List ℕ) (page : ℕ) (x y : Bor (List ℕ)) where
  pub place-refused : (n : ℕ) → n ≡ asked_of false l page (length x.now) (length y.now) → (n ≡ 0 → ⊥) → TextPlaced l page x.now y.now n 0 0
  unfolding start_of field_text
  place-refused n j h = record { numbered = j; starts = rw (← j, ne_eqb n 0 h) refl; text_bytes = rw (← j, ne_eqb n 0 h) refl }

  -- the empty part of a refusal
  module _ (n : ℕ) (j : n ≡ asked_of false l page (length x.now) (length y.now)) (h : n ≡ 0 → ⊥) where
    pub none-text : [] ≡ field_text l page x.now y.now
    unfolding field_text
    none-text = rw (← j, ne_eqb n 0 h) refl

    pub none-scratch : page ≡ 1 → y.ref_ptr ≡ place_of l page x y
    unfolding place_of start_of
    none-scratch p = front y ∙ rw (← j, ne_eqb n 0 h, eq-eqb page 1 p) refl

    pub none-record : (page ≡ 1 → ⊥) → x.ref_ptr ≡ place_of l page x y
    unfolding place_of start_of
    none-record p = front x ∙ rw (← j, ne_eqb n 0 h, ne_eqb page 1 p) refl

  module _ (e : Entry) (i : e ≡ entry_of l) (j : 0 ≡ asked_of false l page (length x.now) (length y.now)) (t : TextPlace) where
    pub stands-scratch : page ≡ 1 → t.start ≡ 0 + cut_from (flag e.p) (flag e.q) e.r (take e.width y.now) → t.length ≡ length (cut (flag e.p) (flag e.q) e.r (take e.width y.now))
        → TextPlaced l page x.now y.now 0 t.start t.length
    stands-scratch p a b = record { numbered = j; starts = a ∙ start-scratch l page x y e i 0 j p; text_bytes = b ∙ ap length (text-scratch l page x y e i 0 j p) }

    pub stands-record : (page ≡ 1 → ⊥) → t.start ≡ e.offset + cut_from (flag e.p) (flag e.q) e.r (take e.width (drop e.offset x.now))
        → t.length ≡ length (cut (flag e.p) (flag e.q) e.r (take e.width (drop e.offset x.now))) → TextPlaced l page x.now y.now 0 t.start t.length
    stands-record p a b = record { numbered = j; starts = a ∙ start-record l page x y e i 0 j p; text_bytes = b ∙ ap length (text-record l page x y e i 0 j p) }
