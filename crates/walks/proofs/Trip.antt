-- A fitting list under a plain layout is written, and what is written is read back: by the derivation of its fitting.
use mathlib.Core.Path.{◌≡◌, refl, sym, ap, ◌∙◌}
use mathlib.Core.Bool.{Bool, true, false, cond, false≢true}
use mathlib.Core.List.{List, [], ◌++◌}
use Prim.Native.Nat.{ℕ, zero, suc, ◌+◌, ◌≤◌}
use native.Mathlib.Omega.{arith}
use lib.Dec.{eqb}
use borrow.Author.Tests.{ne_eqb, eq-eqb}
use Rattle.layout.specs.declared.Entry.{Entry}
use Rattle.layout.specs.Layout.{unrepeated_leaf, is_group, present, unrepeated, is_pad}
use Rattle.spans.specs.Tree.{Tree, none, node}
use Rattle.items.specs.declared.Item.{Item}
use Rattle.items.specs.Items.{words_of, Values, count, lookup}
use Rattle.walks.specs.Walk.{how_many, Codec}
use Rattle.walks.specs.Kinds.{State, held}
use Rattle.walks.specs.Reading as R
use Rattle.walks.specs.Reading.{read, Reader}
use Rattle.walks.specs.Writing as W
use Rattle.walks.specs.Writing.{Writer}
use Rattle.walks.specs.Needs as N
use Rattle.walks.specs.Needs.{Measure}
use Rattle.walks.specs.Fitting.{after, Good, holder, Sort, sequence, elements, Fits, done, pads, scalar, group, table, last, scalars, groups}
use Rattle.walks.proofs.Plainly.{Fresh, least, Sound, Plain}
use Rattle.walks.proofs.Goes.{Goes, along, counted, Law, PadLaw, scalar-goes, pad-goes, elements-none, elements-more, entry-goes, group-goes, field-one, field-table, seq-none}
use Rattle.items.specs.Items.{flat}

-- a Pad is no group
pub pad-alone : (e : Entry) → is_pad e ≡ true → is_group e ≡ false
unfolding is_pad
pad-alone e p = ne_eqb e.kind 9 (λ q. false≢true (ap (λ (k : ℕ). eqb k 6) (sym q) ∙ p))

-- ---- lookup by name

pub self-found : (it : Item) (name : ℕ) (ms vs : Values) → it.name ≡ name → lookup name (node it ms vs) ≡ node it ms vs
unfolding lookup
self-found it name ms vs q = rw (eq-eqb it.name name q) refl

pub other-found : (it : Item) (name : ℕ) (ms vs : Values) → (it.name ≡ name → ⊥) → lookup name (node it ms vs) ≡ lookup name vs
unfolding lookup
other-found it name ms vs q = rw (ne_eqb it.name name q) refl

-- each entry's value is found in the rest of the list, as in the whole one
abbrev pub Looks : Tree Entry → Values → Values → Type 0
Looks none all vs = Unit {0}
Looks (node e ms rest) all vs = (lookup e.name all ≡ lookup e.name vs) × Looks rest all vs

pub looks-self : (t : Tree Entry) (vs : Values) → Looks t vs vs
looks-self none vs = tt
looks-self (node e ms rest) vs = (refl, looks-self rest vs)

looks-next : (t : Tree Entry) (name : ℕ) (it : Item) (ms all vs : Values) → it.name ≡ name → Fresh name t → Looks t all (node it ms vs) → Looks t all vs
looks-next none name it ms all vs n f l = tt
looks-next (node e es rest) name it ms all vs n f l =
    (l.0 ∙ other-found it e.name ms vs (λ q. f.0 (sym n ∙ q)), looks-next rest name it ms all vs n f.1 l.1)

none_found : (name : ℕ) → lookup name none ≡ none
unfolding lookup
none_found name = refl

module _ (masks source : List ℕ) where
  -- a name that no entry of the sequence has is not in a list that fits it
  absent : {t : Tree Entry} {vs : Values} {s s' : State} (name : ℕ) → Fits masks source (sequence t) vs s s' → Fresh name t → lookup name vs ≡ none
  absent name done f = none_found name
  absent name (pads p x) f = absent name x f.1
  absent name (scalar {e} {it = it} {vs = vs} p o g n k x) f = other-found it name none vs (λ q. f.0 (sym q ∙ n)) ∙ absent name x f.1
  absent name (group {e} {ns = ns} {vs = vs} p o g x y) f = other-found (holder e.name 7 ns) name ns vs (λ q. f.0 (sym q)) ∙ absent name y f.1
  absent name (table {e} {ns = ns} {vs = vs} p o n x y) f = other-found (holder e.name 6 ns) name ns vs (λ q. f.0 (sym q)) ∙ absent name y f.1

-- a table of Pads whose name no item has: all its elements
table_of : {S : Type 0} (kw : Codec S) (room : ℕ) (e : Entry) (inw : Writer) (v : Values) (at : ℕ) → unrepeated e ≡ false → present e.depending ≡ false → v ≡ none
    → W.field kw room e inw v at ≡ W.elements (W.one kw room e inw) e.occurs none at
unfolding W.field W.table W.table_length
table_of kw room e inw v at o d q = rw (o, q, d) refl

read_of : {S : Type 0} (kr : Codec S) (r : List ℕ) (e : Entry) (inr : Reader S) (at room : ℕ) (s : S) → unrepeated e ≡ false → present e.depending ≡ false → is_pad e ≡ true
    → R.field ◌+◌ kr r e inr at room s ≡ R.elements ◌+◌ (R.one kr r e inr 65536 false) e.occurs at room s
unfolding R.field how_many
read_of kr r e inr at room s o d p = rw (o, d, p) refl

extent-of : (e : Entry) (inm : Measure) (v : Values) (at : ℕ) → unrepeated e ≡ false → is_pad e ≡ true → v ≡ none → N.field e inm v at ≡ N.elements (N.one e inm) e.occurs none at
unfolding N.field N.long
extent-of e inm v at o p q = rw (o, p, q) refl

module _ (kw kr : Codec State) (pad_law : PadLaw kw) (holds : (e : Entry) (s : State) → how_many kr.held e s ≡ how_many held e s) where
  -- a table of Pads
  pads-go : (e : Entry) (inw : ℕ → Writer) (inr : List ℕ → Reader State) (inm : Measure) (n : ℕ) (s : State) (at : ℕ)
      → is_pad e ≡ true → 1 ≤ e.width
      → Goes (λ room. W.elements (W.one kw room e (inw room)) n none at) (λ r room. R.elements ◌+◌ (R.one kr r e (inr r) 65536 false) n at room s)
      (N.elements (N.one e inm) n none at) at at 0 [] 0 s
  pads-go e inw inr inm zero s at p w = elements-none (λ room. W.one kw room e (inw room)) (λ r. R.one kr r e (inr r) 65536 false) (N.one e inm) none s at
  pads-go e inw inr inm (suc n) s at p w =
      elements-more (λ room. W.one kw room e (inw room)) (λ r. R.one kr r e (inr r) 65536 false) (N.one e inm) n none [] [] 0 0 s s s at
      (pad-goes kw kr pad_law e inw inr inm 65536 none false s at p (pad-alone e p) w)
      (pads-go e inw inr inm n s (at + (N.one e inm none at).taken) p w)

  -- a Pad, single or in a table
  pad-field : (e : Entry) (inw : ℕ → Writer) (inr : List ℕ → Reader State) (inm : Measure) (v : Values) (s : State) (at : ℕ)
      → is_pad e ≡ true → 1 ≤ e.width → present e.depending ≡ false → v ≡ none
      → Goes (λ room. W.field kw room e (inw room) v at) (λ r room. R.field ◌+◌ kr r e (inr r) at room s) (N.field e inm v at) at at
      (cond (unrepeated_leaf e) 1 0) [] 0 s
  pad-field e inw inr inm v s at p w d q = go (unrepeated e) refl
    where
      once : unrepeated e ≡ true → Goes (λ room. W.field kw room e (inw room) v at) (λ r room. R.field ◌+◌ kr r e (inr r) at room s) (N.field e inm v at) at at
          (cond (unrepeated_leaf e) 1 0) [] 0 s
      once o = field-one kw kr e inw inr inm v v s s at 1 (cond (unrepeated_leaf e) 1 0) [] 0 o refl (rw (o, pad-alone e p) (omega arith))
          (pad-goes kw kr pad_law e inw inr inm e.name v true s at p (pad-alone e p) w)

      writes : (o : unrepeated e ≡ false) (room : ℕ) → W.field kw room e (inw room) v at ≡ W.elements (W.one kw room e (inw room)) e.occurs none at
      writes o room = table_of kw room e (inw room) v at o d q

      reads : (o : unrepeated e ≡ false) (r : List ℕ) (room : ℕ) → R.field ◌+◌ kr r e (inr r) at room s ≡ R.elements ◌+◌ (R.one kr r e (inr r) 65536 false) e.occurs at room s
      reads o r room = read_of kr r e (inr r) at room s o d p

      measures : (o : unrepeated e ≡ false) → N.field e inm v at ≡ N.elements (N.one e inm) e.occurs none at
      measures o = extent-of e inm v at o p q

      many : unrepeated e ≡ false → Goes (λ room. W.field kw room e (inw room) v at) (λ r room. R.field ◌+◌ kr r e (inr r) at room s) (N.field e inm v at) at at
          (cond (unrepeated_leaf e) 1 0) [] 0 s
      many o = along at at at 0 (cond (unrepeated_leaf e) 1 0) (writes o) (reads o) (measures o) (omega arith) (rw o (omega arith))
          (pads-go e inw inr inm e.occurs s at p w)

      go : (b : Bool) → unrepeated e ≡ b → Goes (λ room. W.field kw room e (inw room) v at) (λ r room. R.field ◌+◌ kr r e (inr r) at room s) (N.field e inm v at) at at
          (cond (unrepeated_leaf e) 1 0) [] 0 s
      go true o = once o
      go false o = many o

  module _ (masks source : List ℕ) (law : (e : Entry) (it : Item) (s : State) → Good masks source e it s → Law kw kr e it s (after source e it s)) where
    abbrev inw : Tree Entry → ℕ → Writer
    inw ms room vs b = W.seq kw room ms vs b 0

    abbrev inr : Tree Entry → List ℕ → Reader State
    inr ms r b n c = R.seq ◌+◌ kr r ms b 0 n c

    abbrev inm : Tree Entry → Measure
    inm ms vs b = N.seq ms vs b 0

    abbrev Claim : Sort → Values → State → State → Type 0
    Claim (sequence t) vs s s' = (lo base shift : ℕ) (all : Values) → Plain lo t → Looks t all vs
        → Goes (λ room. W.seq kw room t all base shift) (λ r room. R.seq ◌+◌ kr r t base shift room s) (N.seq t all base shift) (base + (lo + shift)) base (least t) (flat vs) (count vs) s'
    Claim (elements e ms) vs s s' = (at : ℕ) → is_pad e ≡ false → Sound e ms → Plain 0 ms → unrepeated e ≡ false
        → Goes (λ room. W.elements (W.one kw room e (inw ms room)) (count vs) vs at) (λ r room. R.elements ◌+◌ (R.one kr r e (inr ms r) 65536 false) (count vs) at room s)
        (N.elements (N.one e (inm ms)) (count vs) vs at) at at 0 (flat vs) (count vs) s'

    pub trip : {o : Sort} {vs : Values} {s s' : State} → Fits masks source o vs s s' → Claim o vs s s'
    unfolding count
    trip (done {s}) = λ lo base shift all p l. seq-none kw kr all (base + (lo + shift)) base shift s
    trip (pads {e} {ms} {rest} {vs} {s} {s'} p x) = λ lo base shift all q l.
        counted (0 + count vs) (count vs) (omega arith) (entry-goes kw kr e ms rest all lo base shift (cond (unrepeated_leaf e) 1 0) (least rest) [] (flat vs) 0 (count vs) s s s' q.0 _ refl
        (pad-field e (inw ms) (inr ms) (inm ms) (lookup e.name all) s (base + (e.offset + shift)) p (q.2.wide (pad-alone e p)) (q.2.fixed p)
        (l.0 ∙ absent masks source e.name x q.1))
        (trip x _ _ _ all q.4 l.1))
    trip (scalar {e} {ms} {rest} {it} {vs} {s} {s'} p o g n k x) = λ lo base shift all q l.
        counted (1 + count vs) (suc (count vs)) (omega arith) (entry-goes kw kr e ms rest all lo base shift (cond (unrepeated_leaf e) 1 0) (least rest) (words_of it) (flat vs) 1 (count vs) s (after source e it s) s' q.0 _ refl
        (field-one kw kr e (inw ms) (inr ms) (inm ms) (node it none vs) (lookup e.name all) s (after source e it s) (base + (e.offset + shift)) 1 (cond (unrepeated_leaf e) 1 0) _ 1 o
        (l.0 ∙ self-found it e.name none vs n) (rw (o, g) (omega arith))
        (scalar-goes kw kr e (inw ms) (inr ms) (inm ms) e.name it vs true s (after source e it s) (base + (e.offset + shift)) n p g (q.2.wide g) (law e it s k)))
        (trip x _ _ _ all q.4 (looks-next rest e.name it none all vs n q.1 l.1)))
    trip (group {e} {ms} {rest} {ns} {vs} {s} {s₁} {s'} p o g x y) = λ lo base shift all q l.
        counted (1 + count vs) (suc (count vs)) (omega arith) (entry-goes kw kr e ms rest all lo base shift (cond (unrepeated_leaf e) 1 0) (least rest) (words_of (holder e.name 7 ns) ++ flat ns) (flat vs) 1 (count vs) s s₁ s' q.0 _ refl
        (field-one kw kr e (inw ms) (inr ms) (inm ms) (node (holder e.name 7 ns) ns vs) (lookup e.name all) s s₁ (base + (e.offset + shift)) (least ms) (cond (unrepeated_leaf e) 1 0) _ 1 o
        (l.0 ∙ self-found (holder e.name 7 ns) e.name ns vs refl) (rw (o, g) (omega arith))
        (group-goes kw kr e (inw ms) (inr ms) (inm ms) e.name ns vs true s s₁ (base + (e.offset + shift) + (0 + 0)) (base + (e.offset + shift)) (least ms) g (omega arith)
        (trip x 0 (base + (e.offset + shift)) 0 ns q.3 (looks-self ms ns))))
        (trip y _ _ _ all q.4 (looks-next rest e.name (holder e.name 7 ns) ns all vs refl q.1 l.1)))
    trip (table {e} {ms} {rest} {ns} {vs} {s} {s₁} {s'} p o n x y) = λ lo base shift all q l.
        counted (1 + count vs) (suc (count vs)) (omega arith) (entry-goes kw kr e ms rest all lo base shift (cond (unrepeated_leaf e) 1 0) (least rest) (words_of (holder e.name 6 ns) ++ flat ns) (flat vs) 1 (count vs) s s₁ s' q.0 _ refl
        (field-table kw kr e (inw ms) (inr ms) (inm ms) ns vs (lookup e.name all) s s₁ (base + (e.offset + shift)) (cond (unrepeated_leaf e) 1 0) p o (holds e s ∙ n)
        (l.0 ∙ self-found (holder e.name 6 ns) e.name ns vs refl) (rw o (omega arith))
        (trip x (base + (e.offset + shift)) p q.2 q.3 o))
        (trip y _ _ _ all q.4 (looks-next rest e.name (holder e.name 6 ns) ns all vs refl q.1 l.1)))
    trip (last {e} {ms} {s}) = λ at p o q c. elements-none (λ room. W.one kw room e (inw ms room)) (λ r. R.one kr r e (inr ms r) 65536 false) (N.one e (inm ms)) none s at
    trip (scalars {e} {ms} {it} {vs} {s} {s'} g n k x) = λ at p o q c.
        counted (1 + count vs) (suc (count vs)) (omega arith) (elements-more (λ room. W.one kw room e (inw ms room)) (λ r. R.one kr r e (inr ms r) 65536 false) (N.one e (inm ms)) (count vs) (node it none vs)
        (words_of it) (flat vs) 1 (count vs) s (after source e it s) s' at
        (scalar-goes kw kr e (inw ms) (inr ms) (inm ms) 65536 it vs false s (after source e it s) at n p g (o.wide g) (law e it s k))
        (trip x _ p o q c))
    trip (groups {e} {ms} {ns} {vs} {s} {s₁} {s'} g x y) = λ at p o q c.
        counted (1 + count vs) (suc (count vs)) (omega arith) (elements-more (λ room. W.one kw room e (inw ms room)) (λ r. R.one kr r e (inr ms r) 65536 false) (N.one e (inm ms)) (count vs) (node (holder 65536 7 ns) ns vs)
        (words_of (holder 65536 7 ns) ++ flat ns) (flat vs) 1 (count vs) s s₁ s' at
        (along at at at (least ms) 1 (λ room. refl) (λ r room. refl) refl (omega arith) (o.solid c g)
        (group-goes kw kr e (inw ms) (inr ms) (inm ms) 65536 ns vs false s s₁ (at + (0 + 0)) at (least ms) g (omega arith) (trip x 0 at 0 ns q (looks-self ms ns))))
        (trip y _ p o q c))
