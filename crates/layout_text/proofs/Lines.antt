-- The kinds of lines: what a line says by its value, and how far it reaches.
use mathlib.Core.Path.{◌≡◌, ap, ◌∙◌}
use mathlib.Core.Bool.{Bool, true, cond}
use mathlib.Core.List.{List, [], ◌∷◌}
use Prim.Native.Nat.{ℕ, ◌+◌, ◌≤◌, ◌<◌}
use native.Mathlib.Omega.{arith}
use lib.ListN.{length, drop, get_or}
use Rattle.layout.specs.Layout.{absent}
use Rattle.lines.specs.declared.Found.{Found}
use Rattle.lines.specs.Lines.{number_of, name_ok}
use Rattle.layout_text.specs.declared.Number.{Number}
use Rattle.layout_text.specs.Form.{lines_of, is_none, worth, is_number, optional}
use Rattle.layout_text.specs.Reading.{number_said}
use Rattle.layout_text.specs.Walk.{number_in, option_in}
use Rattle.layout_text.proofs.Place.{Lined}
use Rattle.layout_text.proofs.Step.{Goes, GoesNumber, lined-next}
use Rattle.layout_text.proofs.Values.{number_short, name-short}

module _ (word text : List ℕ) (i at : ℕ) (f : Found) (l : Lined word text i at f) where
  pub number-said : (n : Number) → n.value ≡ number_in text f → n.value ≡ number_said word (get_or (lines_of text) i [])
  number-said n q = q ∙ ap (λ (s : List ℕ). worth (number_of s)) l.bytes

  pub option-said : (n : Number) → n.value ≡ option_in text f → n.value ≡ cond (is_none (drop (length word) (get_or (lines_of text) i []))) absent (number_said word (get_or (lines_of text) i []))
  option-said n q = q ∙ ap (λ (s : List ℕ). cond (is_none s) absent (worth (number_of s))) l.bytes

-- ---- how far a line reaches

optional-short : (test : List ℕ → Bool) (m : ℕ) → ((s : List ℕ) → test s ≡ true → length s ≤ m) → (s : List ℕ) → optional test s ≡ true → length s ≤ m
optional-short test m f [] e = omega arith
optional-short test m f (x ∷ s) e = f (x ∷ s) e

module _ (b rest : Bool) (word text : List ℕ) (i j at : ℕ) where
  abbrev value : List ℕ
  value = drop (length word) (get_or (lines_of text) i [])

  pub next-is : (test : List ℕ → Bool) (f : Found) → Goes b rest test word text i j at f → f.next ≡ at + length word + length value + 1
  next-is test f g = lined-next word text i at f g.lined

  reach : (test : List ℕ → Bool) (m : ℕ) → ((s : List ℕ) → test s ≡ true → length s ≤ m) → (f : Found) → Goes b rest test word text i j at f → (at < f.next) × (f.next ≤ at + length word + m + 1)
  reach test m f found g =
      let q : length value ≤ m = f value g.passes in
      (omega (arith, next-is test found g), omega (arith, next-is test found g))

  number_reach : (test : List ℕ → Bool) (m : ℕ) → ((s : List ℕ) → test s ≡ true → length s ≤ m) → (v : Found → ℕ) (n : Number) → GoesNumber b rest test v word text i j at n
      → (at < n.next) × (n.next ≤ at + length word + m + 1)
  number_reach test m f v n g = rw g.next (reach test m f g.found g.goes)

  pub number-reach : (v : Found → ℕ) (n : Number) → GoesNumber b rest is_number v word text i j at n → (at < n.next) × (n.next ≤ at + length word + 10 + 1)
  number-reach v n g = number_reach is_number 10 number_short v n g

  pub option-reach : (v : Found → ℕ) (n : Number) → GoesNumber b rest (optional is_number) v word text i j at n → (at < n.next) × (n.next ≤ at + length word + 10 + 1)
  option-reach v n g = number_reach (optional is_number) 10 (optional-short is_number 10 number_short) v n g

  pub name-reach : (f : Found) → Goes b rest name_ok word text i j at f → (at < f.next) × (f.next ≤ at + length word + 30 + 1)
  name-reach f g = reach name_ok 30 name-short f g

  pub depending-reach : (f : Found) → Goes b rest (optional name_ok) word text i j at f → (at < f.next) × (f.next ≤ at + length word + 30 + 1)
  depending-reach f g = reach (optional name_ok) 30 (optional-short name_ok 30 name-short) f g
