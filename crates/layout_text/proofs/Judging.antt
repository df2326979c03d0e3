-- The pass that judges a text: what is known before an entry, and how it ends.
use mathlib.Core.Path.{◌≡◌, refl, sym, ap, ◌∙◌, subst}
use mathlib.Core.Bool.{Bool, true, false, ◌&&◌, ◌||◌, not, and-false}
use mathlib.Core.List.{List, []}
use Prim.Native.Nat.{ℕ, suc, ◌+◌, ◌*◌, ◌%◌, ◌≤◌, ◌<◌}
use native.Mathlib.Nat.{not-suc-le-zero}
use native.Mathlib.Omega.{arith}
use native.Mathlib.Numerals.{add-one}
use lib.Dec.{eqb}
use lib.ListN.{length, get_or, set, length-set, length-append}
use lib.Seq.{get_or-set_same, get_or-set_other}
use borrow.Author.Tests.{eq-eqb, eqb-true, eqb-false}
use Rattle.std.specs.Prelude.{Ok}
use Rattle.layout.specs.Layout.{all_below, entry_ok}
use Rattle.layout.proofs.Laws.{all-not}
use Rattle.layout.proofs.Lawful.{width-lawful}
use Rattle.lists.proofs.Logic.{and_left, and_right}
use Rattle.layout_text.specs.declared.Said.{Said}
use Rattle.layout_text.specs.declared.Number.{Number}
use Rattle.layout_text.specs.Form.{lines_of, ended, is_number, says, line_in, count_of, kind_said, all, entry_lawful, lawful, page_word, span_word}
use Rattle.layout_text.specs.Reading.{number_said, scale_of, precision_of, mask_word_of, masks_below}
use Rattle.layout_text.specs.Walk.{Here, PageTold, Told, Tells, entry_with, fine_alone, bare_said, fine_in, Finds}
use Rattle.layout_text.proofs.Place.{here_end, here-more}

-- ---- question 2 of one entry

bare-is : (text : List ℕ) (k at : ℕ) (s : Said) → Told text k at s → entry_with s 0 0 0 ≡ bare_said (lines_of text) k
unfolding entry_with bare_said
bare-is text k at s t = λ i. record {
  name = 0;
  offset = t.offset i;
  width = t.width i;
  kind = t.kind i;
  occurs = t.occurs i;
  depending = 0;
  span = t.span i;
  p = t.p i;
  q = t.q i;
  r = scale_of (t.kind i) (t.r i);
  s = precision_of (t.kind i) (t.r i);
  mask = mask_word_of (t.kind i) 0;
}

fine-is : (text : List ℕ) (k at : ℕ) (s : Said) → Told text k at s → fine_alone s ≡ fine_in (lines_of text) k
unfolding fine_alone fine_in
fine-is text k at s t = λ i. entry_ok (bare-is text k at s t i) (t.long i) && (not (eqb (t.kind i) 8) || eqb (t.long i) (t.width i))

-- a mask that passes is at most as long as a width may be
fine-small : (s : Said) → ((s.kind ≡ 8 → ⊥) → s.length ≡ 0) → fine_alone s ≡ true → s.length ≤ 65535
unfolding fine_alone entry_with
fine-small s z e = by (eqb s.kind 8) refl (and_right (entry_ok (entry_with s 0 0 0) s.length) (not (eqb s.kind 8) || eqb s.length s.width) e)
  where
    by : (t : Bool) → eqb s.kind 8 ≡ t → (not t || eqb s.length s.width) ≡ true → s.length ≤ 65535
    by true q r =
        let w : s.width ≤ 65535 = width-lawful (entry_with s 0 0 0) s.length (and_left (entry_ok (entry_with s 0 0 0) s.length) (not (eqb s.kind 8) || eqb s.length s.width) e) in
        omega (arith, eqb-true s.length s.width r)
    by false q r = omega (arith, z (eqb-false s.kind 8 q))

-- ---- before the entry `count`, at `at`

pub record Going (text : List ℕ) (at count : ℕ) (fine : Bool) (masks : ℕ) (spans : List ℕ) (groups : List Bool) : Type 0 where
  pub here : Here text (count * 11 + 1) at
  pub lawful-yet : all_below (entry_lawful (lines_of text)) count ≡ true
  pub fine-yet : fine ≡ all_below (fine_in (lines_of text)) count
  pub masks-yet : masks ≡ length (masks_below (lines_of text) count)
  pub room : masks ≤ at
  pub short : at ≤ 16 + count * 207 + masks
  pub small : fine ≡ true → masks ≤ count * 65535
  pub spans-long : length spans ≡ 512
  pub groups-long : length groups ≡ 512
  pub spans-kept : (i : ℕ) → i < count → i < 512 → get_or spans i 0 ≡ number_said span_word (line_in (lines_of text) i 6)
  pub groups-kept : (i : ℕ) → i < count → i < 512 → get_or groups i false ≡ eqb (kind_said (lines_of text) i) 9

pub going_start : (text : List ℕ) (n : Number) (spans : List ℕ) (groups : List Bool) → PageTold text n → length spans ≡ 512 → length groups ≡ 512 → Going text n.next 0 true 0 spans groups
unfolding all_below masks_below
going_start text n spans groups t a b = record {
  here = t.here;
  lawful-yet = refl;
  fine-yet = refl;
  masks-yet = refl;
  room = omega arith;
  short = omega (arith, t.short);
  small = λ x. omega arith;
  spans-long = a;
  groups-long = b;
  spans-kept = λ i h k. absurd (not-suc-le-zero h);
  groups-kept = λ i h k. absurd (not-suc-le-zero h);
}

-- a store at `count` and what was stored before it
kept_next : {A : Type 0} (g : ℕ → A) (xs : List A) (count : ℕ) (v d : A) → length xs ≡ 512 → v ≡ g count → ((i : ℕ) → i < count → i < 512 → get_or xs i d ≡ g i)
    → (i : ℕ) → i < count + 1 → i < 512 → get_or (set xs count v) i d ≡ g i
kept_next g xs count v d l e h i a b = by (eqb i count) refl
  where
    by : (t : Bool) → eqb i count ≡ t → get_or (set xs count v) i d ≡ g i
    by true q =
        let z : i ≡ count = eqb-true i count q in
        ap (λ (j : ℕ). get_or (set xs count v) j d) z ∙ get_or-set_same xs count v d (omega arith) ∙ e ∙ ap g (sym z)
    by false q =
        let z : i ≡ count → ⊥ = eqb-false i count q in
        get_or-set_other xs count i v d z ∙ h i (omega arith) b

and-swap : (a b : Bool) → (a && b) ≡ (b && a)
and-swap true true = refl
and-swap true false = refl
and-swap false true = refl
and-swap false false = refl

module _ (text : List ℕ) (at count : ℕ) (fine : Bool) (masks : ℕ) (spans : List ℕ) (groups : List Bool) (g : Going text at count fine masks spans groups) where
  module _ (s : Said) (t : Tells text at (Ok s)) where
    told : Told text count at s
    told = t count g.here

    pub going-room : masks + s.length ≤ s.next
    going-room = omega (arith, g.room, told.room)

    pub going_on : at < s.next
    going_on = omega (arith, told.room)

    pub going-inside : s.next ≤ length text
    going-inside = told.here.inside

    pub going_next : (f fine' : Bool) (spans' : List ℕ) (groups' : List Bool) (group : Bool) → f ≡ fine_alone s → fine' ≡ (f && fine)
        → spans' ≡ set spans count s.span → groups' ≡ set groups count group → group ≡ eqb s.kind 9
        → Going text s.next (count + 1) fine' (masks + s.length) spans' groups'
    unfolding all_below masks_below
    going_next f fine' spans' groups' group a b c d e = record {
      here = let e : suc count * 11 + 1 ≡ (count + 1) * 11 + 1 = omega arith in subst (λ (i : ℕ). Here text i s.next) e told.here;
      lawful-yet = rw (add-one, g.lawful-yet, told.fine) refl;
      fine-yet = b ∙ rw (add-one, g.fine-yet, a, fine-is text count at s told) (and-swap (fine_in (lines_of text) count) (all_below (fine_in (lines_of text)) count));
      masks-yet = rw (add-one, length-append) (omega (arith, g.masks-yet, told.long));
      room = going-room;
      short = omega (arith, g.short, told.short);
      small = λ x.
          let y : (f && fine) ≡ true = sym b ∙ x in
          omega (arith, g.small (and_right f fine y), fine-small s told.empty (sym a ∙ and_left f fine y));
      spans-long = ap length c ∙ length-set spans count s.span ∙ g.spans-long;
      groups-long = ap length d ∙ length-set groups count group ∙ g.groups-long;
      spans-kept = rw c (kept_next (λ i. number_said span_word (line_in (lines_of text) i 6)) spans count s.span 0 g.spans-long told.span g.spans-kept);
      groups-kept = rw d (kept_next (λ i. eqb (kind_said (lines_of text) i) 9) groups count group false g.groups-long (e ∙ ap (λ (n : ℕ). eqb n 9) told.kind) g.groups-kept);
    }

  not-lawful : (a c p : Bool) → (a && entry_lawful (lines_of text) count) ≡ false → ended text ≡ a → eqb (length (lines_of text) % 11) 1 ≡ c → count * 11 + 1 < length (lines_of text)
      → (a && (c && (p && (all_below (entry_lawful (lines_of text)) (count_of (lines_of text)) && true)))) ≡ false
  not-lawful false c p e x y h = refl
  not-lawful true false p e x y h = refl
  not-lawful true true p e x y h =
      let r : length (lines_of text) % 11 ≡ 1 = eqb-true (length (lines_of text) % 11) 1 y in
      let k : count < count_of (lines_of text) = omega arith in
      rw (all-not (entry_lawful (lines_of text)) (count_of (lines_of text)) count k e) (and-false p)

  pub going-stop : at < length text → ((k : ℕ) → Here text (k * 11 + 1) at → (ended text && entry_lawful (lines_of text) k) ≡ false) → lawful text ≡ false
  unfolding lawful all
  going-stop h r =
      not-lawful (ended text) (eqb (length (lines_of text) % 11) 1) (says page_word is_number (get_or (lines_of text) 0 []))
      (r count g.here) refl refl (here-more text (count * 11 + 1) at g.here h)

module _ (text : List ℕ) (at count : ℕ) (fine : Bool) (masks : ℕ) (spans : List ℕ) (groups : List Bool) (g : Going text at count fine masks spans groups) (h : length text ≤ at) (n : Number) (t : PageTold text n) where
  counted : count_of (lines_of text) ≡ count
  counted = let e : length (lines_of text) ≡ count * 11 + 1 = (here_end text (count * 11 + 1) at g.here h).0 in omega arith

  lawful-is : lawful text ≡ true
  unfolding lawful all
  lawful-is =
      let e : length (lines_of text) ≡ count * 11 + 1 = (here_end text (count * 11 + 1) at g.here h).0 in
      let r : length (lines_of text) % 11 ≡ 1 = omega arith in
      rw ((here_end text (count * 11 + 1) at g.here h).1, eq-eqb (length (lines_of text) % 11) 1 r, t.says-page, counted, g.lawful-yet) refl

  pub going_end : Finds text (record { page = n.value; count = count; fine = fine; masks = masks }) spans groups
  going_end = record {
    is_lawful = lawful-is;
    page = t.value;
    count = sym counted;
    fine = g.fine-yet ∙ ap (all_below (fine_in (lines_of text))) (sym counted);
    masks = g.masks-yet ∙ ap (λ (k : ℕ). length (masks_below (lines_of text) k)) (sym counted);
    spans-kept = λ i a b. g.spans-kept i (omega (arith, counted)) b;
    groups-kept = λ i a b. g.groups-kept i (omega (arith, counted)) b;
    short = omega (arith, g.short);
    small = g.small;
  }
