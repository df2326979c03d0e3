-- What the translating call answers and leaves.
use mathlib.Core.Path.{◌≡◌, refl, sym, ap, ◌∙◌}
use mathlib.Core.Bool.{true}
use mathlib.Core.List.{List, ◌++◌, map}
use Prim.Native.Nat.{ℕ, ◌+◌, ◌≤◌}
use native.Mathlib.Omega.{arith}
use lib.ListN.{length, drop, replicate, length-drop, length-replicate}
use lib.Seq.{length-take-le}
use borrow.Author.Tests.{ne_eqb}
use Rattle.lists.proofs.Lists.{drop-replicate}
use Rattle.ebcdic.specs.Ebcdic.{from_page, copied}
use Rattle.text.proofs.Write.{copied_all}
use Rattle.layout.specs.declared.Entry.{Entry}
use Rattle.text_field.specs.Single.{entry_of, field_of, translate_asks, translated_bytes, scratch_of, FieldTranslated}
use Rattle.text_field.proofs.Questions.{field-inside, room-known}

module _ (l s : List ℕ) (page room n : ℕ) (j : n ≡ translate_asks l page s room) where
  module _ (h : n ≡ 0 → ⊥) where
    refused-length : 0 ≡ translated_bytes l page s room
    unfolding translated_bytes
    refused-length = rw (← j, ne_eqb n 0 h) refl

    refused-scratch : replicate room 0 ≡ scratch_of l page s room
    unfolding scratch_of
    refused-scratch = rw (← j, ne_eqb n 0 h) refl

  module _ (h : n ≡ 0) (e : Entry) (q : e ≡ entry_of l) where
    asked-zero : translate_asks l page s room ≡ 0
    asked-zero = sym j ∙ h

    pub translated-inside : e.offset + e.width ≤ length s
    translated-inside = rw q (field-inside true l page (length s) room asked-zero)

    translated-room : e.width ≤ room
    translated-room = rw q (room-known true l page (length s) room asked-zero)

    pub field-length : length (field_of e s) ≡ e.width
    field-length = length-take-le e.width (drop e.offset s) (rw (length-drop e.offset s) (omega (arith, translated-inside)))

    translated-length : e.width ≡ translated_bytes l page s room
    unfolding translated_bytes
    translated-length = rw (asked-zero, q) refl

    -- the field's bytes copied over zeros
    translated-scratch : (part : List ℕ) → part ≡ field_of e s → (out : List ℕ) → out ≡ replicate room 0 → copied (from_page page) part out ≡ scratch_of l page s room
    unfolding scratch_of
    translated-scratch part i out k =
        let w : length part ≡ e.width = ap length i ∙ field-length in
        let r : length out ≡ room = ap length k ∙ length-replicate room 0 in
        copied_all (from_page page) part out (omega (arith, w, r, translated-room))
        ∙ ap (λ (m : ℕ). map (from_page page) part ++ drop m out) w
        ∙ rw (k, i, drop-replicate e.width room 0, asked-zero, q) refl

-- ---- the whole call: the scratch as lent, then zeroed

module _ (l s scratch : List ℕ) (page n : ℕ) (j : n ≡ translate_asks l page s (length scratch)) (zeros : List ℕ) (z : zeros ≡ replicate (length scratch) 0) where
  pub refused_all : (n ≡ 0 → ⊥) → FieldTranslated l page s n 0 scratch zeros
  refused_all h = record {
    numbered = j;
    field_bytes = refused-length l s page (length scratch) n j h;
    scratch_left = z ∙ refused-scratch l s page (length scratch) n j h;
  }

  pub translated-all : n ≡ 0 → (e : Entry) → e ≡ entry_of l → (part : List ℕ) → part ≡ field_of e s → (out : List ℕ) → out ≡ copied (from_page page) part zeros → FieldTranslated l page s 0 e.width scratch out
  translated-all h e q part i out k = record {
    numbered = sym h ∙ j;
    field_bytes = translated-length l s page (length scratch) n j h e q;
    scratch_left = k ∙ translated-scratch l s page (length scratch) n j h e q part i zeros z;
  }
