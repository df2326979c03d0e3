-- The page's line.
use mathlib.Core.Path.{◌≡◌, refl, sym}
use mathlib.Core.Bool.{Bool, true, false, ◌&&◌, false≢true}
use mathlib.Core.List.{List, [], ◌∷◌}
use Prim.Native.Nat.{ℕ, ◌%◌}
use native.Mathlib.Omega.{arith}
use lib.Dec.{eqb}
use lib.ListN.{length, get_or}
use Rattle.std.specs.Prelude.{Result, Ok, Err}
use Rattle.codes.specs.declared.Refusal.{Refusal}
use Rattle.codes.specs.Refusals.{number_of as refusal_number}
use Rattle.value.specs.Answer.{answered}
use Rattle.layout.specs.Layout.{all_below}
use Rattle.layout_text.specs.declared.Number.{Number}
use Rattle.layout_text.specs.Form.{lines_of, ended, is_number, says, all, count_of, entry_lawful, lawful, page_word}
use Rattle.layout_text.specs.Walk.{number_in, number_line, PageTells}
use Rattle.layout_text.proofs.Place.{here-start}
use Rattle.layout_text.proofs.Step.{Track, GoesNumber, number_17, number-goes, number-stops}
use Rattle.layout_text.proofs.Lines.{number-said, number-reach}

third : (a c s r : Bool) → (a && (s && true)) ≡ false → (a && (c && (s && r))) ≡ false
third true true true r e = absurd (false≢true (sym e))
third true true false r e = refl
third true false s r e = refl
third false c s r e = refl

not-page : (text : List ℕ) → (ended text && (says page_word is_number (get_or (lines_of text) 0 []) && true)) ≡ false → lawful text ≡ false
unfolding lawful all
not-page text e =
    third (ended text) (eqb (length (lines_of text) % 11) 1) (says page_word is_number (get_or (lines_of text) 0 []))
    (all_below (entry_lawful (lines_of text)) (count_of (lines_of text)) && true) e

module _ (text : List ℕ) where
  abbrev b : Bool
  b = says page_word is_number (get_or (lines_of text) 0 []) && true

  track : Track b b text 0 0
  track = record { here = here-start text; left = refl }

  pub page_told : (r : Result Number Refusal) → answered r ≡ number_line page_word text 0 → PageTells text r
  page_told (Err e) q = (
    number_17 (number_in text) is_number page_word text 0 (refusal_number e) q,
    not-page text (number-stops b true is_number (number_in text) 0x70 (0x61 ∷ 0x67 ∷ 0x65 ∷ 0x3D ∷ []) text 0 1 0 refl track (refusal_number e) q),
  )
  page_told (Ok n) q =
      let g : GoesNumber b true is_number (number_in text) page_word text 0 1 0 n = number-goes b true is_number (number_in text) 0x70 (0x61 ∷ 0x67 ∷ 0x65 ∷ 0x3D ∷ []) text 0 1 0 refl track n q in
      let r = number-reach b true page_word text 0 1 0 (number_in text) n g in
      record {
        here = g.track.here;
        says-page = rw (g.goes.lined.starts, g.goes.passes) refl;
        value = number-said page_word text 0 0 g.found g.goes.lined n g.worth;
        short = omega (arith, r.1);
      }
