-- Missing elements that go alike: one that puts nothing does so at every position, with the same bytes taken.
use mathlib.Core.Path.{◌≡◌, refl, sym, ap, ap₂, ◌∙◌}
use mathlib.Core.Bool.{Bool, true, false, cond, false≢true}
use mathlib.Core.List.{List, [], ◌∷◌, ◌++◌}
use Prim.Native.Nat.{ℕ, zero, suc, ◌+◌, ◌-◌, ◌*◌}
use native.Mathlib.Omega.{arith}
use native.Mathlib.Nat.{zero-mul, suc-mul, add_comm}
use lib.Dec.{leb}
use lib.ListN.{length}
use Rattle.layout.specs.declared.Entry.{Entry}
use Rattle.layout.specs.Layout.{is_group, reserved_width, unrepeated}
use Rattle.spans.specs.Tree.{Tree, none, node}
use Rattle.items.specs.Items.{head_of, lookup}
use Rattle.walks.specs.Walk.{Coded, unfit, bytes, Codec}
use Rattle.walks.specs.Writing.{Put, Wrote, refused, wrote, Writer, bind, then_element, then_entry, coded, one, elements, table_length, table, field, seq}

abbrev puts_of : Wrote → List Put
puts_of (refused n) = []
puts_of (wrote ps t) = ps

abbrev taken_of : Wrote → ℕ
taken_of (refused n) = 0
taken_of (wrote ps t) = t

abbrev fine : Wrote → Bool
fine (refused n) = false
fine (wrote ps t) = true

abbrev some : List Put → Bool
some [] = false
some (p ∷ ps) = true

left-none : (ps qs : List Put) → ps ++ qs ≡ [] → ps ≡ []
left-none [] qs h = refl
left-none (p ∷ ps) qs h = absurd (false≢true (sym (ap some h)))

right-none : (ps qs : List Put) → ps ++ qs ≡ [] → qs ≡ []
right-none [] qs h = h
right-none (p ∷ ps) qs h = absurd (false≢true (sym (ap some h)))

-- a missing value that puts nothing at one position puts nothing at any, and takes the same
abbrev pub Even : Writer → Type 0
Even f = (at at' t : ℕ) → f none at ≡ wrote [] t → f none at' ≡ wrote [] t

coded-puts : (room w at t : ℕ) (c : Coded) → coded room w at c ≡ wrote [] t → ⊥
coded-puts room w at t (unfit n) h = false≢true (ap fine h)
coded-puts room w at t (bytes bs) h = by (leb (at + length bs) room) h
  where
    by : (b : Bool) → cond b (wrote (record { at = at; bs = bs } ∷ []) w) (refused 16) ≡ wrote [] t → ⊥
    by true k = false≢true (sym (ap (λ o. some (puts_of o)) k))
    by false k = false≢true (ap fine k)

pub one-even : {S : Type 0} (k : Codec S) (room : ℕ) (e : Entry) (f : Writer) → Even f → Even (one k room e f)
unfolding one
one-even k room e f h at at' t = by (is_group e)
  where
    by : (b : Bool) → cond b (f none at) (coded room e.width at (k.enc e (head_of none))) ≡ wrote [] t → cond b (f none at') (coded room e.width at' (k.enc e (head_of none))) ≡ wrote [] t
    by true q = h at at' t q
    by false q = absurd (coded-puts room e.width at t (k.enc e (head_of none)) q)

-- the same of a part behind a part, whose own bytes taken are told
module _ (f : ℕ → Wrote) (join : List Put → ℕ → Wrote → Wrote) (rest : ℕ → ℕ → Wrote) (at at' t : ℕ)
    (join-refused : (ps : List Put) (s n : ℕ) → join ps s (refused n) ≡ refused n)
    (join-puts : (ps qs : List Put) (s u : ℕ) → puts_of (join ps s (wrote qs u)) ≡ ps ++ qs)
    (f-even : (s : ℕ) → f at ≡ wrote [] s → f at' ≡ wrote [] s)
    (rest-even : (s u : ℕ) → rest at s ≡ wrote [] u → rest at' s ≡ wrote [] u) where
  joined-even : bind (f at) (λ ps s. join ps s (rest at s)) ≡ wrote [] t → bind (f at') (λ ps s. join ps s (rest at' s)) ≡ wrote [] t
  joined-even q = go (f at) refl q
    where
      more : (ps : List Put) (s : ℕ) (o : Wrote) → f at ≡ wrote ps s → rest at s ≡ o → join ps s o ≡ wrote [] t → bind (f at') (λ qs s'. join qs s' (rest at' s')) ≡ wrote [] t
      more ps s (refused m) e g r = absurd (false≢true (ap fine (sym (join-refused ps s m) ∙ r)))
      more ps s (wrote qs u) e g r =
          let both : ps ++ qs ≡ [] = sym (join-puts ps qs s u) ∙ ap puts_of r in
          let ps-none : ps ≡ [] = left-none ps qs both in
          let qs-none : qs ≡ [] = right-none ps qs both in
          let first : f at' ≡ wrote [] s = f-even s (e ∙ ap (λ x. wrote x s) ps-none) in
          let second : rest at' s ≡ wrote [] u = rest-even s u (g ∙ ap (λ x. wrote x u) qs-none) in
          rw (first, second) (ap₂ (λ x y. join x s (wrote y u)) (sym ps-none) (sym qs-none) ∙ r)

      go : (o : Wrote) → f at ≡ o → bind o (λ ps s. join ps s (rest at s)) ≡ wrote [] t → bind (f at') (λ ps s. join ps s (rest at' s)) ≡ wrote [] t
      go (refused m) e r = absurd (false≢true (ap fine r))
      go (wrote ps s) e r = more ps s (rest at s) e refl r

elements-even : (f : Writer) → Even f → (n : ℕ) → Even (elements f n)
unfolding elements
elements-even f h zero at at' t q = q
elements-even f h (suc n) at at' t q =
    joined-even (f none) then_element (λ a s. elements f n none (a + s)) at at' t (λ ps s m. refl) (λ ps qs s u. refl) (λ s. h at at' s)
    (λ s u. elements-even f h n (at + s) (at' + s) u) q

table-even : (e : Entry) (f : Writer) → Even f → Even (table e f)
unfolding table
table-even e f h at at' t q = elements-even f h (table_length e none) at at' t q

field-even : {S : Type 0} (k : Codec S) (room : ℕ) (e : Entry) (f : Writer) → Even f → Even (field k room e f)
unfolding field
field-even k room e f h at at' t = by (unrepeated e)
  where
    by : (b : Bool) → cond b (one k room e f none at) (table e (one k room e f) none at) ≡ wrote [] t → cond b (one k room e f none at') (table e (one k room e f) none at') ≡ wrote [] t
    by true q = one-even k room e f h at at' t q
    by false q = table-even e (one k room e f) (one-even k room e f h) at at' t q

pub seq-even : {S : Type 0} (k : Codec S) (room : ℕ) (tree : Tree Entry) (base base' shift t : ℕ) → seq k room tree none base shift ≡ wrote [] t → seq k room tree none base' shift ≡ wrote [] t
unfolding seq lookup
seq-even k room none base base' shift t q = q
seq-even k room (node e members rest) base base' shift t q =
    joined-even (λ b. field k room e (λ vs a. seq k room members vs a 0) none (b + (e.offset + shift))) (λ ps s o. then_entry ps (e.offset + shift + s) o)
    (λ b s. seq k room rest none b (shift + (s - reserved_width e))) base base' t (λ ps s m. refl) (λ ps qs s u. refl)
    (λ s. field-even k room e (λ vs a. seq k room members vs a 0) (λ a a' u. seq-even k room members a a' 0 u) (base + (e.offset + shift)) (base' + (e.offset + shift)) s)
    (λ s u. seq-even k room rest base base' (shift + (s - reserved_width e)) u) q

-- ---- so many elements at once

abbrev pub repeated : ℕ → List Put → List Put
repeated zero ps = []
repeated (suc n) ps = ps ++ repeated n ps

-- elements that put nothing
pub bare : (f : Writer) → Even f → (at t : ℕ) → f none at ≡ wrote [] t → (n at' : ℕ) → elements f n none at' ≡ wrote [] (n * t)
unfolding elements
bare f h at t q zero at' = ap (wrote []) (sym (zero-mul t))
bare f h at t q (suc n) at' = rw (h at at' t q, bare f h at t q n (at' + t)) (ap (wrote []) (add_comm t (n * t) ∙ sym (suc-mul n t)))

-- elements that take nothing
pub still : (f : Writer) (at : ℕ) (ps : List Put) → f none at ≡ wrote ps 0 → (n : ℕ) → elements f n none at ≡ wrote (repeated n ps) 0
unfolding elements
still f at ps q zero = refl
still f at ps q (suc n) =
    let z : at + 0 ≡ at = omega arith in
    rw (q, z, still f at ps q n) refl
