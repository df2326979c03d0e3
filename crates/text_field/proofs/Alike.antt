-- The text of the two calls is the one that the record's reader says.
use mathlib.Core.Path.{◌≡◌, refl, sym, ap, ◌∙◌}
use mathlib.Core.Bool.{Bool, true, false, cond}
use mathlib.Core.List.{List, [], ◌∷◌, ◌++◌, map}
use Prim.Native.Nat.{ℕ, ◌-◌, ◌%◌, ◌≤◌}
use native.Mathlib.Omega.{arith}
use lib.Dec.{eqb, leb}
use lib.ListN.{length, take, replicate, length-map, length-append, length-replicate}
use borrow.Author.Tests.{eq-eqb, le-leb, eqb-false}
use Rattle.ebcdic.specs.Ebcdic.{from_page}
use Rattle.text.specs.Text.{read_text}
use Rattle.layout.specs.declared.Entry.{Entry}
use Rattle.decode_scalar.specs.Decode.{flag, text, says}
use Rattle.text_field.specs.Single.{entry_of, field_of, room_of, asked_of, translate_asks, text_asks, scratch_of, source_of, field_text, say_of, ReadAlike, ReadPlain}
use Rattle.text_field.proofs.Questions.{passed, page-known, text-known, room-known, pad-known, kind-text}
use Rattle.ebcdic.proofs.Laws.{page-zero}
use Rattle.text_field.proofs.Scratch.{field-length}

front_of : (t u : List ℕ) → take (length t) (t ++ u) ≡ t
front_of [] u = refl
front_of (x ∷ t) u = ap (λ (v : List ℕ). x ∷ v) (front_of t u)

-- what the reader says of a Text with lawful words
says-text : (e : Entry) (page : ℕ) (part : List ℕ) → e.kind ≡ 0 → e.r ≤ 255 → says e.kind e.p e.q e.r page part ≡ text (read_text page (flag e.p) (flag e.q) e.r part)
unfolding says
says-text e page part k b =
    let r : e.r % 256 ≡ e.r = omega (arith, b) in
    rw (eq-eqb e.kind 0 k, r) refl

-- the text of the bytes that it is cut from, where nothing is refused
text_at : (l : List ℕ) (page : ℕ) (s scratch : List ℕ) → text_asks l page s scratch ≡ 0 → source_of (entry_of l) page s scratch ≡ map (from_page page) (field_of (entry_of l) s)
    → text (field_text l page s scratch) ≡ say_of l page s
unfolding field_text
text_at l page s scratch h q =
    let e = entry_of l in
    rw (h, q) (sym (says-text e page (field_of e s) (kind-text e (text-known false l page (length s) (length scratch) h)) (pad-known false l page (length s) (length scratch) h)))

pub read_plain : ReadPlain
read_plain l s scratch h = text_at l 0 s scratch h (sym (page-zero (field_of (entry_of l) s)))

-- what the translating call accepts, the other accepts
module _ (l s : List ℕ) (page room : ℕ) (h : translate_asks l page s room ≡ 0) where
  field-size : length (field_of (entry_of l) s) ≡ (entry_of l).width
  field-size = field-length l s page room 0 (sym h) refl (entry_of l) refl

  scratch-size : length (scratch_of l page s room) ≡ room
  unfolding scratch_of
  scratch-size =
      let r : (entry_of l).width ≤ room = room-known true l page (length s) room h in
      rw (h, length-append, length-map, length-replicate, field-size) (omega (arith, r))

  less-room : leb (room_of false page (entry_of l)) room ≡ true
  less-room = by (eqb page 1) (room-known true l page (length s) room h)
    where
      by : (b : Bool) → (entry_of l).width ≤ room → leb (cond b (entry_of l).width 0) room ≡ true
      by true r = le-leb (entry_of l).width room r
      by false r = le-leb 0 room (omega arith)

  fewer-asks : asked_of false l page (length s) room ≡ 0
  unfolding asked_of
  fewer-asks =
      let p = passed true l page (length s) room h in
      rw (p.0, p.1.0, p.1.1.0, p.1.1.1.0, less-room) refl

  accepted : text_asks l page s (scratch_of l page s room) ≡ 0
  accepted = ap (asked_of false l page (length s)) scratch-size ∙ fewer-asks

  front-part : take (entry_of l).width (scratch_of l page s room) ≡ map (from_page page) (field_of (entry_of l) s)
  unfolding scratch_of
  front-part =
      let t = map (from_page page) (field_of (entry_of l) s) in
      let z : List ℕ = replicate (room - (entry_of l).width) 0 in
      rw h (ap (λ (n : ℕ). take n (t ++ z)) (sym (length-map (field_of (entry_of l) s) (from_page page) ∙ field-size)) ∙ front_of t z)

  source : source_of (entry_of l) page s (scratch_of l page s room) ≡ map (from_page page) (field_of (entry_of l) s)
  source = by (eqb page 1) refl
    where
      by : (b : Bool) → eqb page 1 ≡ b → cond b (take (entry_of l).width (scratch_of l page s room)) (field_of (entry_of l) s) ≡ map (from_page page) (field_of (entry_of l) s)
      by true q = front-part
      by false q =
          let z : page ≡ 0 = omega (arith, page-known true l page (length s) room h, eqb-false page 1 q) in
          rw z (sym (page-zero (field_of (entry_of l) s)))

pub read_alike : ReadAlike
read_alike l s page room h = (accepted l s page room h, text_at l page s (scratch_of l page s room) (accepted l s page room h) (source l s page room h))
