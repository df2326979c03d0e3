-- What a layout that passed its questions is known to be.
use mathlib.Core.Path.{◌≡◌, refl}
use mathlib.Core.Bool.{Bool, true, false, ◌&&◌, ◌||◌, not, cond, false≢true}
use mathlib.Core.List.{List}
use Prim.Native.Nat.{ℕ, ◌*◌, ◌%◌, ◌<◌, ◌≤◌}
use native.Mathlib.Omega.{arith}
use native.Mathlib.Nat.{mul-le-mul_left, le_trans}
use lib.Dec.{eqb, leb}
use lib.ListN.{length}
use borrow.Author.Tests.{eqb-true, leb-true}
use Rattle.layout.specs.declared.Entry.{Entry}
use Rattle.spans.specs.Tree.{nested}
use Rattle.lists.proofs.Logic.{and_left, and_right}
use Rattle.layout.specs.Layout.{entry_at, entry_count, span_of, is_group, entries, words_ok, place_ok, option_ok, kind_ok, entry_ok, entries_ok, spans_ok, checked_of, absent, times, reserved_width}
use Rattle.layout.proofs.Laws.{all-at}

picked : (a b c : Bool) → ◌≡◌ {A = ℕ} (cond a (cond b (cond c 0 3) 2) 1) 0 → (a ≡ true) × ((b ≡ true) × (c ≡ true))
picked true true true h = (refl, (refl, refl))
picked true true false h = absurd (omega (arith, h))
picked true false c h = absurd (omega (arith, h))
picked false b c h = absurd (omega (arith, h))

module _ (l masks : List ℕ) (page : ℕ) (h : checked_of l masks page ≡ 0) where
  asked : (words_ok l page ≡ true) × ((entries_ok l (length masks) ≡ true) × (spans_ok l ≡ true))
  unfolding checked_of
  asked = picked (words_ok l page) (entries_ok l (length masks)) (spans_ok l) h

  twelves : (eqb (length l % 12) 0 && leb (entry_count l) 512) ≡ true
  unfolding words_ok
  twelves = and_left (eqb (length l % 12) 0 && leb (entry_count l) 512) (leb page 1) asked.0

  pub whole-entries : length l ≡ entry_count l * 12
  whole-entries = omega (arith, eqb-true (length l % 12) 0 (and_left (eqb (length l % 12) 0) (leb (entry_count l) 512) twelves))

  pub few-entries : entry_count l ≤ 512
  few-entries = leb-true (entry_count l) 512 (and_right (eqb (length l % 12) 0) (leb (entry_count l) 512) twelves)

  pub page-known : page ≤ 1
  unfolding words_ok
  page-known = leb-true page 1 (and_right (eqb (length l % 12) 0 && leb (entry_count l) 512) (leb page 1) asked.0)

  pub entry-lawful : (i : ℕ) → i < entry_count l → entry_ok (entry_at l i) (length masks) ≡ true
  unfolding entries_ok
  entry-lawful i k = all-at (λ j. entry_ok (entry_at l j) (length masks)) (entry_count l) i k asked.1.0

  pub spans-lawful : nested span_of is_group 8 (entries l) ≡ true
  unfolding spans_ok
  spans-lawful = asked.1.1

module _ (e : Entry) (masks : ℕ) (h : entry_ok e masks ≡ true) where
  pub place-lawful : place_ok e ≡ true
  unfolding entry_ok
  place-lawful = and_left (place_ok e) (kind_ok e.kind e masks) h

  pub kind-lawful : kind_ok e.kind e masks ≡ true
  unfolding entry_ok
  kind-lawful = and_right (place_ok e) (kind_ok e.kind e masks) h

  numbers : (leb e.name 65535 && leb e.offset 65535 && leb e.width 65535) ≡ true
  unfolding place_ok
  numbers = and_left (leb e.name 65535 && leb e.offset 65535 && leb e.width 65535) (option_ok e.occurs)
      (and_left (leb e.name 65535 && leb e.offset 65535 && leb e.width 65535 && option_ok e.occurs) (option_ok e.depending) place-lawful)

  pub width-lawful : e.width ≤ 65535
  width-lawful = leb-true e.width 65535 (and_right (leb e.name 65535 && leb e.offset 65535) (leb e.width 65535) numbers)

  pub offset-lawful : e.offset ≤ 65535
  offset-lawful = leb-true e.offset 65535 (and_right (leb e.name 65535) (leb e.offset 65535) (and_left (leb e.name 65535 && leb e.offset 65535) (leb e.width 65535) numbers))

  pub name-lawful : e.name ≤ 65535
  name-lawful = leb-true e.name 65535 (and_left (leb e.name 65535) (leb e.offset 65535) (and_left (leb e.name 65535 && leb e.offset 65535) (leb e.width 65535) numbers))

  occurs-ok : option_ok e.occurs ≡ true
  unfolding place_ok
  occurs-ok = and_right (leb e.name 65535 && leb e.offset 65535 && leb e.width 65535) (option_ok e.occurs)
      (and_left (leb e.name 65535 && leb e.offset 65535 && leb e.width 65535 && option_ok e.occurs) (option_ok e.depending) place-lawful)

  pub times-lawful : times e ≤ 65535
  unfolding option_ok
  times-lawful = go (leb e.occurs 65535) (eqb e.occurs absent) refl occurs-ok
    where
      go : (a b : Bool) → leb e.occurs 65535 ≡ a → (a || b) ≡ true → cond b 1 e.occurs ≤ 65535
      go a true p q = omega arith
      go true false p q = leb-true e.occurs 65535 p
      go false false p q = absurd (false≢true q)

  -- "reserved bytes" of a lawful entry
  pub reserved-lawful : reserved_width e ≤ 4294836225
  unfolding reserved_width
  reserved-lawful = go (eqb e.depending absent)
    where
      go : (b : Bool) → cond (not b) 0 (e.width * times e) ≤ 4294836225
      go false = omega arith
      go true = le_trans (mul-le-mul_left e.width times-lawful) (omega (arith, width-lawful))
