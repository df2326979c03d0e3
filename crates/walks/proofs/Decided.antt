-- The function that decides whether a list fits says yes exactly of the lists that fit.
use mathlib.Core.Path.{◌≡◌, refl, ap, ◌∙◌}
use mathlib.Core.Bool.{Bool, true, false, ◌&&◌, ◌||◌, not, cond, false≢true}
use mathlib.Core.List.{List, [], ◌∷◌}
use Prim.Native.Nat.{ℕ, suc, ◌^◌}
use lib.Dec.{eqb, ltb}
use lib.ListN.{length}
use borrow.Author.Tests.{eq-eqb, eqb-true, lt-ltb, ltb-true}
use Rattle.layout.specs.declared.Entry.{Entry}
use Rattle.layout.specs.Layout.{is_group, entries, unrepeated, is_pad}
use Rattle.spans.specs.Tree.{Tree, none, node, size}
use Rattle.items.specs.declared.Item.{Item}
use Rattle.items.specs.Items.{item_count, Values, values, count, scalar_ok, well_formed, text_of, scalar_in, missing}
use Rattle.fits.specs.Decide.{fits_of}
use Rattle.fits.proofs.Sound.{fits-sound, fits-complete}
use Rattle.walks.specs.Walk.{Many, never, times, how_many}
use Rattle.walks.specs.Kinds.{State, start, held, mask_of}
use Rattle.walks.specs.Fitting.{after, Good, holder, Sort, sequence, elements, Fits, done, pads, scalar, group, table, last, scalars, groups, Fitting}
use Rattle.lists.proofs.Logic.{both, and}
use Rattle.walks.specs.Decide.{Fit, misfit, fit, bind, guard, numbers, holds, good_of, each_fits, first, fitted, same, text_is, fitting}

misfit≢fit : {s : State} → misfit ≡ fit s → ⊥
misfit≢fit {s} e = false≢true (ap is_fit e)
  where
    is_fit : Fit State → Bool
    is_fit misfit = false
    is_fit (fit s) = true

guard-true : (b : Bool) (x : Fit State) {s : State} → guard b x ≡ fit s → (b ≡ true) × (x ≡ fit s)
guard-true true x e = (refl, e)
guard-true false x e = absurd (misfit≢fit e)

bind-fit : (x : Fit State) (f : State → Fit State) {s : State} → bind x f ≡ fit s → (s₁ : State) × (x ≡ fit s₁) × (f s₁ ≡ fit s)
bind-fit misfit f e = absurd (misfit≢fit e)
bind-fit (fit s₁) f e = (s₁, refl, e)

missing-none : (vs : Values) → missing vs ≡ true → vs ≡ none
missing-none none h = refl
missing-none (node it ms rest) h = absurd (false≢true h)

many : (m : Many) (n : ℕ) → numbers m n ≡ true → m ≡ times n
many (never k) n h = absurd (false≢true h)
many (times k) n h = ap times (eqb-true k n h)

holds-is : (name tag : ℕ) (it : Item) (ns : Values) → holds name tag it ns ≡ true → it ≡ holder name tag ns
unfolding holds
holds-is name tag it ns h =
    let a = both (eqb it.name name) (eqb it.tag tag && (eqb it.a (count ns) && eqb it.b (suc (size ns)))) h in
    let b = both (eqb it.tag tag) (eqb it.a (count ns) && eqb it.b (suc (size ns))) a.1 in
    let c = both (eqb it.a (count ns)) (eqb it.b (suc (size ns))) b.1 in
    made it.name it.tag it.a it.b name tag (count ns) (suc (size ns)) (eqb-true it.name name a.0) (eqb-true it.tag tag b.0)
    (eqb-true it.a (count ns) c.0) (eqb-true it.b (suc (size ns)) c.1)
  where
    made : (n t a b n' t' a' b' : ℕ) → n ≡ n' → t ≡ t' → a ≡ a' → b ≡ b' → ◌≡◌ {A = Item} (record { name = n; tag = t; a = a; b = b }) (record { name = n'; tag = t'; a = a'; b = b' })
    made n t a b n' t' a' b' p q r s = rw (p, q, r, s) refl

holds-self : (name tag : ℕ) (ns : Values) → holds name tag (holder name tag ns) ns ≡ true
unfolding holds
holds-self name tag ns = rw (eq-eqb name name refl, eq-eqb tag tag refl, eq-eqb (count ns) (count ns) refl, eq-eqb (suc (size ns)) (suc (size ns)) refl) refl

module _ (masks source : List ℕ) where
  record Said (e : Entry) (name : ℕ) (it : Item) (ns : Values) (s : State) : Type 0 where
    pub name-is : it.name ≡ name
    pub single-is : ns ≡ none
    pub good : Good masks source e it s

  good-sound : (e : Entry) (name : ℕ) (it : Item) (ns : Values) (s : State) → good_of masks source e name it ns s ≡ true → Said e name it ns s
  unfolding good_of
  good-sound e name it ns s h =
      let f : Bool = fits_of e.p e.q e.r e.s (mask_of masks e) e.width e.kind (scalar_in it) (text_of source it) in
      let p : Bool = not (eqb it.tag 1) || eqb it.a (length s.text) in
      let a = both (eqb it.name name) (missing ns && (scalar_ok (length source) it && (ltb it.a (2 ^ 64) && (f && p)))) h in
      let b = both (missing ns) (scalar_ok (length source) it && (ltb it.a (2 ^ 64) && (f && p))) a.1 in
      let c = both (scalar_ok (length source) it) (ltb it.a (2 ^ 64) && (f && p)) b.1 in
      let d = both (ltb it.a (2 ^ 64)) (f && p) c.1 in
      let g = both f p d.1 in
      record {
        name-is = eqb-true it.name name a.0;
        single-is = missing-none ns b.0;
        good = record { lawful = c.0; word = ltb-true it.a (2 ^ 64) d.0; fits = fits-sound g.0; packed = λ q. at (eqb it.tag 1) (eq-eqb it.tag 1 q) g.1 };
      }
    where
      at : (b : Bool) → b ≡ true → (not b || eqb it.a (length s.text)) ≡ true → it.a ≡ length s.text
      at true q k = eqb-true it.a (length s.text) k
      at false q k = absurd (false≢true q)

  good-complete : (e : Entry) (name : ℕ) (it : Item) (s : State) → it.name ≡ name → Good masks source e it s → good_of masks source e name it none s ≡ true
  unfolding good_of
  good-complete e name it s n g =
      and (eq-eqb it.name name n) (and g.lawful (and (lt-ltb it.a (2 ^ 64) g.word) (and (fits-complete g.fits) (at (eqb it.tag 1) refl))))
    where
      at : (b : Bool) → eqb it.tag 1 ≡ b → (not b || eqb it.a (length s.text)) ≡ true
      at true q = eq-eqb it.a (length s.text) (g.packed (eqb-true it.tag 1 q))
      at false q = refl

  -- ---- yes only of what fits

  module _ (e : Entry) (ms : Tree Entry) (inner : Values → State → Fit State) (ih : (ns : Values) (s s' : State) → inner ns s ≡ fit s' → Fits masks source (sequence ms) ns s s') where
    each-sound : (vs : Values) (s s' : State) → each_fits masks source e inner vs s ≡ fit s' → Fits masks source (elements e ms) vs s s'
    unfolding each_fits
    each-sound none s s' h = rw (← fit_is h) last
      where
        fit_is : fit s ≡ fit s' → s ≡ s'
        fit_is q = ap state q
          where
            state : Fit State → State
            state misfit = s
            state (fit x) = x
    each-sound (node it ns vs) s s' h = go (is_group e) refl h (λ s₁ q. each-sound vs s₁ s' q)
      where
        go : (b : Bool) → is_group e ≡ b
            → cond b (guard (holds 65536 7 it ns) (bind (inner ns s) (λ s₁. each_fits masks source e inner vs s₁))) (guard (good_of masks source e 65536 it ns s) (each_fits masks source e inner vs (after source e it s))) ≡ fit s'
            → ((s₁ : State) → each_fits masks source e inner vs s₁ ≡ fit s' → Fits masks source (elements e ms) vs s₁ s')
            → Fits masks source (elements e ms) (node it ns vs) s s'
        go true g h more =
            let a = guard-true (holds 65536 7 it ns) _ h in
            let b = bind-fit (inner ns s) (λ s₁. each_fits masks source e inner vs s₁) a.1 in
            rw (holds-is 65536 7 it ns a.0) (groups g (ih ns s b.0 b.1) (more b.0 b.2))
        go false g h more =
            let a = guard-true (good_of masks source e 65536 it ns s) _ h in
            let d = good-sound e 65536 it ns s a.0 in
            rw d.single-is (scalars g d.name-is d.good (more (after source e it s) a.1))

  module _ (e : Entry) (ms rest : Tree Entry) (inner : Values → State → Fit State) (next : Values → State → Fit State)
      (ih : (ns : Values) (s s' : State) → inner ns s ≡ fit s' → Fits masks source (sequence ms) ns s s')
      (more : (vs : Values) (s s' : State) → next vs s ≡ fit s' → Fits masks source (sequence rest) vs s s') (p : is_pad e ≡ false) where
    first-sound : (vs : Values) (s s' : State) → first masks source e inner vs s next ≡ fit s' → Fits masks source (sequence (node e ms rest)) vs s s'
    unfolding first
    first-sound none s s' h = absurd (misfit≢fit h)
    first-sound (node it ns vs) s s' h = go (unrepeated e) refl h
      where
        once : (b : Bool) → unrepeated e ≡ true → is_group e ≡ b
            → cond b (guard (holds e.name 7 it ns) (bind (inner ns s) (next vs))) (guard (good_of masks source e e.name it ns s) (next vs (after source e it s))) ≡ fit s'
            → Fits masks source (sequence (node e ms rest)) (node it ns vs) s s'
        once true o g h =
            let a = guard-true (holds e.name 7 it ns) _ h in
            let b = bind-fit (inner ns s) (next vs) a.1 in
            rw (holds-is e.name 7 it ns a.0) (group p o g (ih ns s b.0 b.1) (more vs b.0 s' b.2))
        once false o g h =
            let a = guard-true (good_of masks source e e.name it ns s) _ h in
            let d = good-sound e e.name it ns s a.0 in
            rw d.single-is (scalar p o g d.name-is d.good (more vs (after source e it s) s' a.1))

        go : (b : Bool) → unrepeated e ≡ b
            → cond b (cond (is_group e) (guard (holds e.name 7 it ns) (bind (inner ns s) (next vs))) (guard (good_of masks source e e.name it ns s) (next vs (after source e it s))))
            (guard (holds e.name 6 it ns && numbers (how_many held e s) (count ns)) (bind (each_fits masks source e inner ns s) (next vs))) ≡ fit s'
            → Fits masks source (sequence (node e ms rest)) (node it ns vs) s s'
        go true o h = once (is_group e) o refl h
        go false o h =
            let a = guard-true (holds e.name 6 it ns && numbers (how_many held e s) (count ns)) _ h in
            let c = both (holds e.name 6 it ns) (numbers (how_many held e s) (count ns)) a.0 in
            let b = bind-fit (each_fits masks source e inner ns s) (next vs) a.1 in
            rw (holds-is e.name 6 it ns c.0)
            (table p o (many (how_many held e s) (count ns) c.1) (each-sound e ms inner ih ns s b.0 b.1) (more vs b.0 s' b.2))

  fit-state : {s s' : State} → fit s ≡ fit s' → s ≡ s'
  fit-state {s} q = ap state q
    where
      state : Fit State → State
      state misfit = s
      state (fit x) = x

  pub fitted-sound : (t : Tree Entry) (vs : Values) (s s' : State) → fitted masks source t vs s ≡ fit s' → Fits masks source (sequence t) vs s s'
  unfolding fitted
  fitted-sound none none s s' h = rw (← fit-state h) done
  fitted-sound none (node it ns vs) s s' h = absurd (misfit≢fit h)
  fitted-sound (node e ms rest) vs s s' h = go (is_pad e) refl h (λ ns s₁ s₂ q. fitted-sound ms ns s₁ s₂ q) (λ us s₁ s₂ q. fitted-sound rest us s₁ s₂ q)
    where
      go : (b : Bool) → is_pad e ≡ b
          → cond b (fitted masks source rest vs s) (first masks source e (λ ns s₁. fitted masks source ms ns s₁) vs s (λ vs₁ s₁. fitted masks source rest vs₁ s₁)) ≡ fit s'
          → ((ns : Values) (s s' : State) → fitted masks source ms ns s ≡ fit s' → Fits masks source (sequence ms) ns s s')
          → ((us : Values) (s s' : State) → fitted masks source rest us s ≡ fit s' → Fits masks source (sequence rest) us s s')
          → Fits masks source (sequence (node e ms rest)) vs s s'
      go true p h ih more = pads p (more vs s s' h)
      go false p h ih more = first-sound e ms rest (λ ns s₁. fitted masks source ms ns s₁) (λ vs₁ s₁. fitted masks source rest vs₁ s₁) ih more p vs s s' h

  -- ---- and of all that fits

  abbrev Answers : Sort → Values → State → State → Type 0
  Answers (sequence t) vs s s' = fitted masks source t vs s ≡ fit s'
  Answers (elements e ms) vs s s' = each_fits masks source e (λ ns s₁. fitted masks source ms ns s₁) vs s ≡ fit s'

  same-many : (m : Many) (n : ℕ) → m ≡ times n → numbers m n ≡ true
  same-many m n q = rw q (eq-eqb n n refl)

  pub fitted-complete : {o : Sort} {vs : Values} {s s' : State} → Fits masks source o vs s s' → Answers o vs s s'
  unfolding fitted first each_fits
  fitted-complete done = refl
  fitted-complete (pads p x) = rw p (fitted-complete x)
  fitted-complete (scalar {e} {it = it} {s = s} p o g n k x) = rw (p, o, g, good-complete e e.name it s n k) (fitted-complete x)
  fitted-complete (group {e} {ns = ns} p o g x y) = rw (p, o, g, holds-self e.name 7 ns, fitted-complete x) (fitted-complete y)
  fitted-complete (table {e} {ns = ns} {s = s} p o n x y) = rw (p, o, holds-self e.name 6 ns, same-many (how_many held e s) (count ns) n, fitted-complete x) (fitted-complete y)
  fitted-complete last = refl
  fitted-complete (scalars {e} {it = it} {s = s} g n k x) = rw (g, good-complete e 65536 it s n k) (fitted-complete x)
  fitted-complete (groups {e} {ns = ns} g x y) = rw (g, holds-self 65536 7 ns, fitted-complete x) (fitted-complete y)

-- ---- whole lists

pub same-is : (xs ys : List ℕ) → same xs ys ≡ true → xs ≡ ys
same-is [] [] h = refl
same-is [] (y ∷ ys) h = absurd (false≢true h)
same-is (x ∷ xs) [] h = absurd (false≢true h)
same-is (x ∷ xs) (y ∷ ys) h =
    let a = both (eqb x y) (same xs ys) h in
    ap (λ (n : ℕ). n ∷ xs) (eqb-true x y a.0) ∙ ap (λ (l : List ℕ). y ∷ l) (same-is xs ys a.1)

pub same_self : (xs : List ℕ) → same xs xs ≡ true
same_self [] = refl
same_self (x ∷ xs) = rw (eq-eqb x x refl) (same_self xs)

text-fit : (text : List ℕ) (f : Fit State) → text_is text f ≡ true → (s : State) × (f ≡ fit s) × (s.text ≡ text)
text-fit text misfit h = absurd (false≢true h)
text-fit text (fit s) h = (s, refl, same-is s.text text h)

module _ (l masks items text : List ℕ) where
  abbrev answer : Fit State
  answer = fitted masks text (entries l) (values items 0 (item_count items)) start

  pub fitting-sound : fitting l masks items text ≡ true → Fitting l masks items text
  unfolding fitting
  fitting-sound h =
      let a = both (well_formed items (length text)) (text_is text answer) h in
      let b = text-fit text answer a.1 in
      record { well_formed = a.0; counts = b.0; fits = fitted-sound masks text (entries l) (values items 0 (item_count items)) start b.0 b.1; texts = b.2 }

  pub fitting-complete : Fitting l masks items text → fitting l masks items text ≡ true
  unfolding fitting
  fitting-complete f = and f.well_formed (ap (text_is text) (fitted-complete masks text f.fits) ∙ ap (λ (t : List ℕ). same t text) f.texts ∙ same_self text)
