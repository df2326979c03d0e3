-- One line of an entry: the tests that are left after it, and where the next line starts.
use mathlib.Core.Path.{◌≡◌, refl, sym, ap, ◌∙◌, subst}
use mathlib.Core.Bool.{Bool, true, false, ◌&&◌, cond, false≢true, and-false}
use mathlib.Core.List.{List, [], ◌∷◌}
use Prim.Native.Nat.{ℕ, ◌+◌, ◌-◌}
use native.Mathlib.Omega.{arith}
use lib.ListN.{length, take, drop, get_or, length-drop}
use lib.Seq.{length-take-le}
use Rattle.value.specs.Answer.{Answer, refused, given}
use Rattle.lines.specs.Lines.{Place, place, starts_with, value_at}
use Rattle.lines.specs.declared.Found.{Found}
use Rattle.layout_text.specs.declared.Number.{Number}
use Rattle.layout_text.specs.Form.{lines_of, ended, says}
use Rattle.layout_text.specs.Walk.{Here, bytes_of, passed_by, line_by, numbered}
use Rattle.layout_text.proofs.Place.{Lined, line-found, line-missing, value_17}

-- b is a text's test, of which `rest` is left to ask from its i-th line on, which starts at `at`
pub record Track (b rest : Bool) (text : List ℕ) (i at : ℕ) : Type 0 where
  pub here : Here text i at
  pub left : b ≡ rest

and_first : (a s t r : Bool) → (a && s) ≡ false → (a && ((s && t) && r)) ≡ false
and_first true true t r e = absurd (false≢true (sym e))
and_first true false t r e = refl
and_first false s t r e = refl

-- ---- one line, whose value passes a test

pub record Goes (b rest : Bool) (test : List ℕ → Bool) (word text : List ℕ) (i j at : ℕ) (f : Found) : Type 0 where
  pub track : Track b rest text j f.next
  pub lined : Lined word text i at f
  pub passes : test (drop (length word) (get_or (lines_of text) i [])) ≡ true

abbrev ways : (List ℕ → Bool) → List ℕ → Bool → ℕ → ℕ → ℕ → Answer Found
ways test text t a e n = cond t (given (record { start = a; end = e; next = n })) (refused 17)

pub line_17 : (test : List ℕ → Bool) (word text : List ℕ) (at q : ℕ) → refused q ≡ line_by test word text at → q ≡ 17
unfolding line_by
line_17 test word text at q r = go (value_at word text at) refl r
  where
    go : (v : Answer Place) → v ≡ value_at word text at → refused q ≡ passed_by test text v → q ≡ 17
    go (refused question) x y = let z : q ≡ question = cc in z ∙ value_17 word text at question x
    go (given (place a e n)) x y = by (test (take (e - a) (drop a text))) y
      where
        by : (t : Bool) → refused q ≡ ways test text t a e n → q ≡ 17
        by true u = let z : ◌≡◌ {A = ℕ} 0 1 = cc in absurd (omega arith)
        by false u = cc

module _ (b rest : Bool) (test : List ℕ → Bool) (w : ℕ) (ws text : List ℕ) (i j at : ℕ) (one : j ≡ i + 1) (t : Track b (says (w ∷ ws) test (get_or (lines_of text) i []) && rest) text i at) where
  pub line-goes : (f : Found) → given f ≡ line_by test (w ∷ ws) text at → Goes b rest test (w ∷ ws) text i j at f
  unfolding line_by
  line-goes f r = go (value_at (w ∷ ws) text at) refl r
    where
      go : (v : Answer Place) → v ≡ value_at (w ∷ ws) text at → given f ≡ passed_by test text v → Goes b rest test (w ∷ ws) text i j at f
      go (refused question) x y = let z : ◌≡◌ {A = ℕ} 0 1 = cc in absurd (omega arith)
      go (given (place a e n)) x y = by (test (take (e - a) (drop a text))) refl y
        where
          l : Lined (w ∷ ws) text i at (record { start = a; end = e; next = n })
          l = line-found (w ∷ ws) text i at t.here a e n x

          by : (s : Bool) → test (take (e - a) (drop a text)) ≡ s → given f ≡ ways test text s a e n → Goes b rest test (w ∷ ws) text i j at f
          by false s u = let z : ◌≡◌ {A = ℕ} 0 1 = cc in absurd (omega arith)
          by true s u =
              let z : f ≡ record { start = a; end = e; next = n } = cc in
              let p : test (drop (length (w ∷ ws)) (get_or (lines_of text) i [])) ≡ true = ap test (sym l.bytes) ∙ s in
              subst (λ (x : Found). Goes b rest test (w ∷ ws) text i j at x) (sym z) (record {
                track = record { here = subst (λ (k : ℕ). Here text k n) (sym one) l.here; left = t.left ∙ rw (l.starts, p) refl };
                lined = l;
                passes = p;
              })

  pub line-stops : (q : ℕ) → refused q ≡ line_by test (w ∷ ws) text at → (ended text && b) ≡ false
  unfolding line_by
  line-stops q r = go (value_at (w ∷ ws) text at) refl r
    where
      go : (v : Answer Place) → v ≡ value_at (w ∷ ws) text at → refused q ≡ passed_by test text v → (ended text && b) ≡ false
      go (refused question) x y =
          ap (λ (c : Bool). ended text && c) t.left
          ∙ and_first (ended text) (starts_with (w ∷ ws) (get_or (lines_of text) i [])) (test (drop (length (w ∷ ws)) (get_or (lines_of text) i []))) rest (line-missing w ws text i at t.here question x)
      go (given (place a e n)) x y = by (test (take (e - a) (drop a text))) refl y
        where
          l : Lined (w ∷ ws) text i at (record { start = a; end = e; next = n })
          l = line-found (w ∷ ws) text i at t.here a e n x

          by : (s : Bool) → test (take (e - a) (drop a text)) ≡ s → refused q ≡ ways test text s a e n → (ended text && b) ≡ false
          by true s u = let z : ◌≡◌ {A = ℕ} 0 1 = cc in absurd (omega arith)
          by false s u =
              let p : test (drop (length (w ∷ ws)) (get_or (lines_of text) i [])) ≡ false = ap test (sym l.bytes) ∙ s in
              ap (λ (c : Bool). ended text && c) (t.left ∙ rw (l.starts, p) refl) ∙ and-false (ended text)

-- ---- a line that says a number

pub record GoesNumber (b rest : Bool) (test : List ℕ → Bool) (value : Found → ℕ) (word text : List ℕ) (i j at : ℕ) (n : Number) : Type 0 where
  pub found : Found
  pub goes : Goes b rest test word text i j at found
  pub next : n.next ≡ found.next
  pub worth : n.value ≡ value found
  pub track : Track b rest text j n.next

pub number_17 : (value : Found → ℕ) (test : List ℕ → Bool) (word text : List ℕ) (at q : ℕ) → refused q ≡ numbered value (line_by test word text at) → q ≡ 17
number_17 value test word text at q r = go (line_by test word text at) refl r
  where
    go : (v : Answer Found) → v ≡ line_by test word text at → refused q ≡ numbered value v → q ≡ 17
    go (given f) x y = let z : ◌≡◌ {A = ℕ} 0 1 = cc in absurd (omega arith)
    go (refused question) x y = let z : q ≡ question = cc in z ∙ line_17 test word text at question x

module _ (b rest : Bool) (test : List ℕ → Bool) (value : Found → ℕ) (w : ℕ) (ws text : List ℕ) (i j at : ℕ) (one : j ≡ i + 1) (t : Track b (says (w ∷ ws) test (get_or (lines_of text) i []) && rest) text i at) where
  pub number-goes : (n : Number) → given n ≡ numbered value (line_by test (w ∷ ws) text at) → GoesNumber b rest test value (w ∷ ws) text i j at n
  number-goes n r = go (line_by test (w ∷ ws) text at) refl r
    where
      go : (v : Answer Found) → v ≡ line_by test (w ∷ ws) text at → given n ≡ numbered value v → GoesNumber b rest test value (w ∷ ws) text i j at n
      go (refused question) x y = let z : ◌≡◌ {A = ℕ} 0 1 = cc in absurd (omega arith)
      go (given f) x y =
          let z : n ≡ record { value = value f; next = f.next } = cc in
          let g : Goes b rest test (w ∷ ws) text i j at f = line-goes b rest test w ws text i j at one t f x in
          record {
            found = f;
            goes = g;
            next = ap (λ (m : Number). m.next) z;
            worth = ap (λ (m : Number). m.value) z;
            track = subst (λ (k : ℕ). Track b rest text j k) (sym (ap (λ (m : Number). m.next) z)) g.track;
          }

  pub number-stops : (q : ℕ) → refused q ≡ numbered value (line_by test (w ∷ ws) text at) → (ended text && b) ≡ false
  number-stops q r = go (line_by test (w ∷ ws) text at) refl r
    where
      go : (v : Answer Found) → v ≡ line_by test (w ∷ ws) text at → refused q ≡ numbered value v → (ended text && b) ≡ false
      go (given f) x y = let z : ◌≡◌ {A = ℕ} 0 1 = cc in absurd (omega arith)
      go (refused question) x y = line-stops b rest test w ws text i j at one t question x

-- ---- how long a line is

pub lined-long : (word text : List ℕ) (i at : ℕ) (p : Found) → Lined word text i at p → p.end ≡ p.start + length (drop (length word) (get_or (lines_of text) i []))
lined-long word text i at p l =
    let d : length (drop p.start text) ≡ length text - p.start = length-drop p.start text in
    let k : length (bytes_of text p) ≡ p.end - p.start = length-take-le (p.end - p.start) (drop p.start text) (omega (arith, l.inside)) in
    omega (arith, ap length l.bytes, l.order)

pub lined-next : (word text : List ℕ) (i at : ℕ) (p : Found) → Lined word text i at p → p.next ≡ at + length word + length (drop (length word) (get_or (lines_of text) i [])) + 1
lined-next word text i at p l = omega (arith, lined-long word text i at p l, l.start, l.next)
