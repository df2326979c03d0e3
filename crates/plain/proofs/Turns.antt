-- One turn of the walk of the tree, and what it does to the stack of names.
use mathlib.Core.Path.{◌≡◌, refl, sym, ap, ap₂, subst, ◌∙◌}
use mathlib.Core.Bool.{Bool, true, false, ◌&&◌, ◌||◌, not, cond, false≢true}
use mathlib.Core.List.{List, [], ◌∷◌, ◌++◌, append-nil}
use Prim.Native.Nat.{ℕ, ◌+◌, ◌-◌, ◌≤◌, ◌<◌}
use native.Mathlib.Omega.{arith}
use native.Mathlib.Numerals.{add-one}
use lib.Dec.{eqb, leb}
use lib.ListN.{length, take, set}
use lib.Seq.{take-suc-set, take-set-le, take-take}
use Rattle.layout.specs.declared.Entry.{Entry}
use Rattle.layout.specs.Layout.{entry_at, span_of, present, reserved_width, part, unrepeated, controls}
use Rattle.spans.specs.Tree.{Tree, none, node, size, end_of}
use Rattle.spans.proofs.Tree.{tree-none, tree-at, size-tree}
use Rattle.walks.specs.Plain.{is_in, pad_ok, width_ok, group_ok, each_ok, in_order, offers, controlled}
use Rattle.plain.specs.Ways.{own_ok, tree_ok, Grown, Walked}
use Rattle.std.specs.Prelude.{Option, Some, None, is_some}

-- ---- the clauses in the order of the walk

both_ways : (x y : Bool) → (x ≡ true → y ≡ true) → (y ≡ true → x ≡ true) → x ≡ y
both_ways true true f g = refl
both_ways true false f g = sym (f refl)
both_ways false true f g = g refl
both_ways false false f g = refl

there : (a b c d f g h i j k m : Bool) → ((a && b && c && d && f) && (g && h && i) && (j && k && m)) ≡ true → ((a && b && c && g && j) && (d && h && k) && (f && i && m)) ≡ true
there true true true true true true true true true true true q = refl
there false b c d f g h i j k m q = absurd (false≢true q)
there true false c d f g h i j k m q = absurd (false≢true q)
there true true false d f g h i j k m q = absurd (false≢true q)
there true true true false f g h i j k m q = absurd (false≢true q)
there true true true true false g h i j k m q = absurd (false≢true q)
there true true true true true false h i j k m q = absurd (false≢true q)
there true true true true true true false i j k m q = absurd (false≢true q)
there true true true true true true true false j k m q = absurd (false≢true q)
there true true true true true true true true false k m q = absurd (false≢true q)
there true true true true true true true true true false m q = absurd (false≢true q)
there true true true true true true true true true true false q = absurd (false≢true q)

back : (a b c d f g h i j k m : Bool) → ((a && b && c && g && j) && (d && h && k) && (f && i && m)) ≡ true → ((a && b && c && d && f) && (g && h && i) && (j && k && m)) ≡ true
back true true true true true true true true true true true q = refl
back false b c d f g h i j k m q = absurd (false≢true q)
back true false c d f g h i j k m q = absurd (false≢true q)
back true true false d f g h i j k m q = absurd (false≢true q)
back true true true d f false h i j k m q = absurd (false≢true q)
back true true true d f true h i false k m q = absurd (false≢true q)
back true true true false f true h i true k m q = absurd (false≢true q)
back true true true true f true false i true k m q = absurd (false≢true q)
back true true true true f true true i true false m q = absurd (false≢true q)
back true true true true false true true i true true m q = absurd (false≢true q)
back true true true true true true true false true true m q = absurd (false≢true q)
back true true true true true true true true true true false q = absurd (false≢true q)

module _ (from : ℕ) (known : List ℕ) (e : Entry) (ms rest : Tree Entry) where
  clauses : tree_ok from known (node e ms rest) ≡ (own_ok from known e ms && tree_ok 0 known ms && tree_ok (e.offset + reserved_width e) (offers (node e ms none) ++ known) rest)
  unfolding tree_ok own_ok each_ok in_order controlled
  clauses =
      both_ways _ _
      (there (pad_ok e) (width_ok e) (group_ok e ms) (each_ok ms) (each_ok rest) (leb from e.offset) (in_order 0 ms) (in_order (e.offset + reserved_width e) rest)
      (not (present e.depending) || is_in e.depending known) (controlled known ms) (controlled (offers (node e ms none) ++ known) rest))
      (back (pad_ok e) (width_ok e) (group_ok e ms) (each_ok ms) (each_ok rest) (leb from e.offset) (in_order 0 ms) (in_order (e.offset + reserved_width e) rest)
      (not (present e.depending) || is_in e.depending known) (controlled known ms) (controlled (offers (node e ms none) ++ known) rest))

-- ---- lists with the same names

pub in-append : (x : ℕ) (s t : List ℕ) → is_in x (s ++ t) ≡ (is_in x s || is_in x t)
in-append x [] t = refl
in-append x (y ∷ s) t = go (eqb x y) (in-append x s t)
  where
    go : (b : Bool) → is_in x (s ++ t) ≡ (is_in x s || is_in x t) → (b || is_in x (s ++ t)) ≡ ((b || is_in x s) || is_in x t)
    go true h = refl
    go false h = h

in-behind : (x : ℕ) (s t u : List ℕ) → is_in x t ≡ is_in x u → is_in x (s ++ t) ≡ is_in x (s ++ u)
in-behind x s t u h = in-append x s t ∙ ap (λ b. is_in x s || b) h ∙ sym (in-append x s u)

controlled-same : (t : Tree Entry) (s u : List ℕ) → ((x : ℕ) → is_in x s ≡ is_in x u) → controlled s t ≡ controlled u t
unfolding controlled
controlled-same none s u h = refl
controlled-same (node e ms rest) s u h =
    let a = controlled-same ms s u h in
    let b = controlled-same rest (offers (node e ms none) ++ s) (offers (node e ms none) ++ u) (λ x. in-behind x (offers (node e ms none)) s u (h x)) in
    λ i. (not (present e.depending) || h e.depending i) && a i && b i

tree-same : (from : ℕ) (t : Tree Entry) (s u : List ℕ) → ((x : ℕ) → is_in x s ≡ is_in x u) → tree_ok from s t ≡ tree_ok from u t
unfolding tree_ok
tree-same from t s u h = ap (λ b. each_ok t && in_order from t && b) (controlled-same t s u h)

-- ---- the stack behind an entry

put-top : (c : Bool) (k : List ℕ) (held name : ℕ) → held < length k → take (cond c (held + 1) held) (cond c (set k held name) k) ≡ take held k ++ cond c (name ∷ []) []
put-top true k held name h = ap (λ n. take n (set k held name)) (add-one held) ∙ take-suc-set k held name h
put-top false k held name h = sym (append-nil (take held k))

put-kept : (c : Bool) (k : List ℕ) (held name top : ℕ) → top ≤ held → take top (cond c (set k held name) k) ≡ take top k
put-kept true k held name top h = take-set-le top k held name h
put-kept false k held name top h = refl

around : (n s k : Bool) → ((s || k) || n) ≡ (((n || s) || false) || k)
around true true true = refl
around true true false = refl
around true false true = refl
around true false false = refl
around false true true = refl
around false true false = refl
around false false true = refl
around false false false = refl

module _ (e : Entry) (ms : Tree Entry) (top : ℕ) (known : List ℕ) (inner : ℕ) (known₁ : List ℕ) (g : Grown ms top known inner known₁) (held : ℕ)
    (p : held ≡ cond (unrepeated e) inner top) where
  abbrev S : List ℕ
  S = cond (unrepeated e) (offers ms) []

  abbrev N : List ℕ
  N = cond (controls e) (e.name ∷ []) []

  held-known : (x : ℕ) → is_in x (take held known₁) ≡ is_in x (S ++ take top known)
  held-known x = ap (λ n. is_in x (take n known₁)) p ∙ go (unrepeated e)
    where
      go : (b : Bool) → is_in x (take (cond b inner top) known₁) ≡ is_in x (cond b (offers ms) [] ++ take top known)
      go true = g.known x
      go false = ap (is_in x) g.kept

  held-above : top ≤ held
  held-above = go (unrepeated e) p
    where
      go : (b : Bool) → held ≡ cond b inner top → top ≤ held
      go true h = omega (arith, g.above)
      go false h = omega arith

  held_below : held ≤ top + size ms
  held_below = go (unrepeated e) p
    where
      go : (b : Bool) → held ≡ cond b inner top → held ≤ top + size ms
      go true h = omega (arith, g.below)
      go false h = omega arith

  module _ (top' : ℕ) (known₂ : List ℕ) (q : top' ≡ cond (controls e) (held + 1) held) (r : known₂ ≡ cond (controls e) (set known₁ held e.name) known₁) (room : held < length known₁) where
    pub top_above : held ≤ top'
    top_above = go (controls e) q
      where
        go : (b : Bool) → top' ≡ cond b (held + 1) held → held ≤ top'
        go true h = omega arith
        go false h = omega arith

    pub top_below : top' ≤ held + 1
    top_below = go (controls e) q
      where
        go : (b : Bool) → top' ≡ cond b (held + 1) held → top' ≤ held + 1
        go true h = omega arith
        go false h = omega arith

    stack : take top' known₂ ≡ take held known₁ ++ N
    stack = ap₂ (λ n k. take n k) q r ∙ put-top (controls e) known₁ held e.name room

    pub behind-known : (x : ℕ) → is_in x (take top' known₂) ≡ is_in x (offers (node e ms none) ++ take top known)
    unfolding offers
    behind-known x =
        ap (is_in x) stack ∙ in-append x (take held known₁) N ∙ ap (λ b. b || is_in x N) (held-known x ∙ in-append x S (take top known))
        ∙ around (is_in x N) (is_in x S) (is_in x (take top known))
        ∙ ap (λ b. (b || false) || is_in x (take top known)) (sym (in-append x N S))
        ∙ ap (λ b. b || is_in x (take top known)) (sym (in-append x (N ++ S) []))
        ∙ sym (in-append x ((N ++ S) ++ []) (take top known))

    pub behind-kept : take top known₂ ≡ take top known
    behind-kept = ap (take top) r ∙ put-kept (controls e) known₁ held e.name top held-above ∙ g.kept

-- ---- the walk's turns

-- the layout; the sequence's ends, the stack's height and the stack at its start; the present index, offset, height and stack
pub record Inv (l : List ℕ) (lo hi top₀ : ℕ) (known₀ : List ℕ) (i from top : ℕ) (known : List ℕ) : Type 0 where
  pub past : lo ≤ i
  pub whole : tree_ok 0 (take top₀ known₀) (part l lo hi) ≡ tree_ok from (take top known) (part l i hi)
  pub kept : take top₀ known ≡ take top₀ known₀
  pub names : (x : ℕ) → is_in x (offers (part l lo hi) ++ take top₀ known₀) ≡ is_in x (offers (part l i hi) ++ take top known)
  pub above : top₀ ≤ top
  pub below : top + (hi - i) ≤ top₀ + (hi - lo)
  pub same : length known ≡ length known₀

pub starts : (l : List ℕ) (lo hi top₀ : ℕ) (known₀ : List ℕ) → Inv l lo hi top₀ known₀ lo 0 top₀ known₀
starts l lo hi top₀ known₀ = record { past = omega arith; whole = refl; kept = refl; names = λ x. refl; above = omega arith; below = omega arith; same = refl }

regroup : (a r k : Bool) → ((a || r) || k) ≡ (r || ((a || false) || k))
regroup true true true = refl
regroup true true false = refl
regroup true false true = refl
regroup true false false = refl
regroup false true true = refl
regroup false true false = refl
regroup false false true = refl
regroup false false false = refl

module _ (l : List ℕ) (lo hi top₀ : ℕ) (known₀ : List ℕ) (i from top : ℕ) (known : List ℕ) (v : Inv l lo hi top₀ known₀ i from top known) where
  pub ends : hi ≤ i → Walked (part l lo hi) top₀ known₀ (Some top) known
  unfolding tree_ok each_ok in_order controlled offers
  ends h =
      let n : part l i hi ≡ none = tree-none (entry_at l) span_of i hi h in
      let s : size (part l lo hi) ≡ hi - lo = size-tree (entry_at l) span_of lo hi in
      record {
        answer = sym (v.whole ∙ ap (tree_ok from (take top known)) n);
        grown = λ top' r.
            let same : top' ≡ top = cc in
            subst (λ (t : ℕ). Grown (part l lo hi) top₀ known₀ t known) (sym same) record {
              kept = v.kept;
              known = λ x. sym (v.names x ∙ ap (λ t. is_in x (offers t ++ take top known)) n);
              above = v.above;
              below = omega (arith, v.below);
            };
      }

  module _ (e : Entry) (en : ℕ) (h : i < hi) (p : e ≡ entry_at l i) (q : en ≡ end_of e.span i hi) where
    abbrev ms : Tree Entry
    ms = part l (i + 1) en

    abbrev rest : Tree Entry
    rest = part l en hi

    tree_is : part l i hi ≡ node e ms rest
    tree_is = tree-at (entry_at l) span_of i hi e en h p q

    turn : tree_ok 0 (take top₀ known₀) (part l lo hi) ≡ (own_ok from (take top known) e ms && tree_ok 0 (take top known) ms
        && tree_ok (e.offset + reserved_width e) (offers (node e ms none) ++ take top known) rest)
    turn = v.whole ∙ ap (tree_ok from (take top known)) tree_is ∙ clauses from (take top known) e ms rest

    fails : tree_ok 0 (take top₀ known₀) (part l lo hi) ≡ false → (known' : List ℕ) → Walked (part l lo hi) top₀ known₀ None known'
    fails n known' = record { answer = sym n; grown = λ t r. absurd (cc (r)) }

    module _ (b : Bool) (o : b ≡ own_ok from (take top known) e ms) where
      pub own-fails : b ≡ false → (known' : List ℕ) → Walked (part l lo hi) top₀ known₀ None known'
      own-fails f known' = fails (turn ∙ ap (λ c. c && tree_ok 0 (take top known) ms && tree_ok (e.offset + reserved_width e) (offers (node e ms none) ++ take top known) rest) (sym o ∙ f)) known'

      module _ (t : b ≡ true) (s : Option ℕ) (known₁ : List ℕ) (w : Walked ms top known s known₁) where
        pub inner-fails : s ≡ None → (known' : List ℕ) → Walked (part l lo hi) top₀ known₀ None known'
        inner-fails f known' =
            fails (turn ∙ ap₂ (λ c d. c && d && tree_ok (e.offset + reserved_width e) (offers (node e ms none) ++ take top known) rest) (sym o ∙ t) (sym w.answer ∙ ap is_some f)) known'

        pub room-left : (inner : ℕ) → s ≡ Some inner → length known₁ ≡ length known → (held : ℕ) → held ≡ cond (unrepeated e) inner top → top₀ + (hi - lo) ≤ length known₀ → held < length known₁
        room-left inner f len held a enough =
            let n : size ms ≡ en - (i + 1) = size-tree (entry_at l) span_of (i + 1) en in
            let y = held_below e ms top known inner known₁ (w.grown inner f) held a in
            omega (arith, v.below, v.same)

        module _ (inner : ℕ) (f : s ≡ Some inner) (len : length known₁ ≡ length known) (held top' : ℕ) (known₂ : List ℕ) (a : held ≡ cond (unrepeated e) inner top)
            (c : top' ≡ cond (controls e) (held + 1) held) (d : known₂ ≡ cond (controls e) (set known₁ held e.name) known₁) (len' : length known₂ ≡ length known₁)
            (room : held < length known₁) (from' : ℕ) (z : from' ≡ e.offset + reserved_width e) where
          g : Grown ms top known inner known₁
          g = w.grown inner f

          whole_is : tree_ok 0 (take top₀ known₀) (part l lo hi) ≡ tree_ok from' (take top' known₂) rest
          whole_is =
              turn ∙ ap₂ (λ c d. c && d && tree_ok (e.offset + reserved_width e) (offers (node e ms none) ++ take top known) rest) (sym o ∙ t) (sym w.answer ∙ ap is_some f)
              ∙ ap (λ n. tree_ok n (offers (node e ms none) ++ take top known) rest) (sym z)
              ∙ sym (tree-same from' rest (take top' known₂) (offers (node e ms none) ++ take top known)
              (behind-known e ms top known inner known₁ g held a top' known₂ c d room))

          names-are : (x : ℕ) → is_in x (offers (part l lo hi) ++ take top₀ known₀) ≡ is_in x (offers rest ++ take top' known₂)
          unfolding offers
          names-are x =
              v.names x ∙ ap (λ t. is_in x (offers t ++ take top known)) tree_is
              ∙ in-append x (A ++ offers rest) (take top known) ∙ ap (λ b. b || is_in x (take top known)) (in-append x A (offers rest))
              ∙ regroup (is_in x A) (is_in x (offers rest)) (is_in x (take top known))
              ∙ ap (λ b. is_in x (offers rest) || (b || is_in x (take top known))) (sym (in-append x A []))
              ∙ ap (λ b. is_in x (offers rest) || b) (sym (in-append x (A ++ []) (take top known)) ∙ sym (behind-known e ms top known inner known₁ g held a top' known₂ c d room x))
              ∙ sym (in-append x (offers rest) (take top' known₂))
            where
              A : List ℕ
              A = cond (controls e) (e.name ∷ []) [] ++ cond (unrepeated e) (offers ms) []

          front : take top₀ known₂ ≡ take top₀ known
          front = sym (take-take top₀ top known₂ v.above) ∙ ap (take top₀) (behind-kept e ms top known inner known₁ g held a top' known₂ c d room) ∙ take-take top₀ top known v.above

          pub goes_on : Inv l lo hi top₀ known₀ en from' top' known₂
          goes_on =
              let n : size ms ≡ en - (i + 1) = size-tree (entry_at l) span_of (i + 1) en in
              let u = held-above e ms top known inner known₁ g held a in
              let y = held_below e ms top known inner known₁ g held a in
              let u' = top_above e ms top known inner known₁ g held a top' known₂ c d room in
              let y' = top_below e ms top known inner known₁ g held a top' known₂ c d room in
              record {
                past = omega (arith, v.past);
                whole = whole_is;
                kept = front ∙ v.kept;
                names = names-are;
                above = omega (arith, v.above);
                below = omega (arith, v.below);
                same = len' ∙ len ∙ v.same;
              }
