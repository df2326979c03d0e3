-- How the questions come out, by the ways of the code that asks them, and what is known where none refuses.
use mathlib.Core.Path.{◌≡◌, refl, subst}
use mathlib.Core.Bool.{Bool, true, false, ◌&&◌, cond}
use mathlib.Core.List.{List}
use Prim.Native.Nat.{ℕ, ◌+◌, ◌≤◌}
use native.Mathlib.Omega.{arith}
use lib.Dec.{eqb, leb}
use lib.ListN.{length}
use borrow.Author.Tests.{eq-eqb, eqb-true, leb-true}
use Rattle.lists.proofs.Logic.{and_left, and_right}
use Rattle.layout.specs.declared.Entry.{Entry}
use Rattle.layout.specs.Layout.{absent, up_to, plain_ok, kind_ok, entry_ok}
use Rattle.layout.proofs.Lawful.{kind-lawful}
use Rattle.text_field.specs.Single.{entry_of, one_entry, text_entry, room_of, asked_of}

picked : (a b c d f : Bool) → ◌≡◌ {A = ℕ} (cond a (cond b (cond c (cond d (cond f 0 16) 7) 4) 2) 1) 0
    → (a ≡ true) × ((b ≡ true) × ((c ≡ true) × ((d ≡ true) × (f ≡ true))))
picked true true true true true h = (refl, (refl, (refl, (refl, refl))))
picked true true true true false h = absurd (omega (arith, h))
picked true true true false f h = absurd (omega (arith, h))
picked true true false d f h = absurd (omega (arith, h))
picked true false c d f h = absurd (omega (arith, h))
picked false b c d f h = absurd (omega (arith, h))

module _ (e : Entry) (h : text_entry e ≡ true) where
  words : (entry_ok e 0 && eqb e.kind 0) ≡ true
  unfolding text_entry
  words = and_left (entry_ok e 0 && eqb e.kind 0) (eqb e.occurs absent) (and_left (entry_ok e 0 && eqb e.kind 0 && eqb e.occurs absent) (eqb e.depending absent) h)

  pub kind-text : e.kind ≡ 0
  kind-text = eqb-true e.kind 0 (and_right (entry_ok e 0) (eqb e.kind 0) words)

  plain : plain_ok e 1 1 255 0 ≡ true
  unfolding kind_ok
  plain = subst (λ (k : ℕ). kind_ok k e 0 ≡ true) kind-text (kind-lawful e 0 (and_left (entry_ok e 0) (eqb e.kind 0) words))

  pub pad-byte : e.r ≤ 255
  unfolding plain_ok up_to
  pad-byte =
      leb-true e.r 255
      (and_right (leb e.p 1 && leb e.q 1) (leb e.r 255)
      (and_left (leb e.p 1 && leb e.q 1 && leb e.r 255) (leb e.s 0) (and_left (up_to e 1 1 255 0) (eqb e.mask 0) plain)))

module _ (t : Bool) (l : List ℕ) (page size scratch : ℕ) (h : asked_of t l page size scratch ≡ 0) where
  pub passed : (one_entry l page ≡ true)
      × ((text_entry (entry_of l) ≡ true) × ((leb size 65536 ≡ true) × ((leb ((entry_of l).offset + (entry_of l).width) size ≡ true) × (leb (room_of t page (entry_of l)) scratch ≡ true))))
  unfolding asked_of
  passed = picked (one_entry l page) (text_entry (entry_of l)) (leb size 65536) (leb ((entry_of l).offset + (entry_of l).width) size) (leb (room_of t page (entry_of l)) scratch) h

  pub page-known : page ≤ 1
  page-known = leb-true page 1 (and_right (eqb (length l) 12) (leb page 1) passed.0)

  pub text-known : text_entry (entry_of l) ≡ true
  text-known = passed.1.0

  pub field-inside : (entry_of l).offset + (entry_of l).width ≤ size
  field-inside = leb-true ((entry_of l).offset + (entry_of l).width) size passed.1.1.1.0

  pub room-known : room_of t page (entry_of l) ≤ scratch
  room-known = leb-true (room_of t page (entry_of l)) scratch passed.1.1.1.1

  pub pad-known : (entry_of l).r ≤ 255
  pad-known = pad-byte (entry_of l) text-known

-- what text_field knows of its entry where nothing is refused
module _ (l : List ℕ) (page size scratch : ℕ) (e : Entry) (q : e ≡ entry_of l) where
  pub scratch-lawful : page ≡ 1 → asked_of false l page size scratch ≡ 0 → (0 + e.width ≤ scratch) × (e.r ≤ 255)
  scratch-lawful p h = rw q (omega (arith, inside), pad-known false l page size scratch h)
    where
      inside : (entry_of l).width ≤ scratch
      inside = subst (λ (b : Bool). cond b (entry_of l).width 0 ≤ scratch) (eq-eqb page 1 p) (room-known false l page size scratch h)

  pub record-lawful : asked_of false l page size scratch ≡ 0 → (e.offset + e.width ≤ size) × (e.r ≤ 255)
  record-lawful h = rw q (field-inside false l page size scratch h, pad-known false l page size scratch h)
