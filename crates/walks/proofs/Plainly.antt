-- What the round trip takes from a plain layout, entry by entry.
use mathlib.Core.Path.{◌≡◌, refl, sym, ◌∙◌}
use mathlib.Core.Bool.{Bool, true, false, ◌&&◌, ◌||◌, not, cond, false≢true}
use mathlib.Core.List.{List, [], ◌∷◌, ◌++◌}
use Prim.Native.Nat.{ℕ, ◌+◌, ◌≤◌, max}
use native.Mathlib.Omega.{arith}
use lib.Dec.{eqb, leb}
use borrow.Author.Tests.{leb-true, eq-eqb}
use Rattle.lists.proofs.Logic.{and_left, and_right, or_else}
use Rattle.layout.specs.declared.Entry.{Entry}
use Rattle.layout.specs.Layout.{is_group, unrepeated_leaf, present, reserved_width, entries, checked_of, unrepeated, is_pad}
use Rattle.spans.specs.Tree.{Tree, none, node}
use Rattle.walks.specs.Plain.{is_in, names_of, distinct, pad_ok, width_ok, some, sure, group_ok, each_ok, in_order, controlled, plain}

not-true : (a : Bool) → not a ≡ true → a ≡ false
not-true true h = absurd (false≢true h)
not-true false h = refl

-- no entry of a sequence has this name
abbrev pub Fresh : ℕ → Tree Entry → Type 0
Fresh name none = Unit {0}
Fresh name (node e ms rest) = (name ≡ e.name → ⊥) × Fresh name rest

-- 1 where a sequence has an unrepeated entry that is no group
abbrev pub least : Tree Entry → ℕ
least none = 0
least (node e ms rest) = max (cond (unrepeated_leaf e) 1 0) (least rest)

pub record Sound (e : Entry) (members : Tree Entry) : Type 0 where
  pub wide : is_group e ≡ false → 1 ≤ e.width
  pub solid : unrepeated e ≡ false → is_group e ≡ true → 1 ≤ least members
  pub fixed : is_pad e ≡ true → present e.depending ≡ false

-- in order from an offset on
abbrev pub Plain : ℕ → Tree Entry → Type 0
Plain lo none = Unit {0}
Plain lo (node e ms rest) = (lo ≤ e.offset) × Fresh e.name rest × Sound e ms × Plain 0 ms × Plain (e.offset + reserved_width e) rest

-- ---- from the tests

out-left : (x : ℕ) (xs ys : List ℕ) → is_in x (xs ++ ys) ≡ false → is_in x ys ≡ false
out-left x [] ys h = h
out-left x (z ∷ xs) ys h = go (eqb x z) h (λ q. out-left x xs ys q)
  where
    go : (b : Bool) → (b || is_in x (xs ++ ys)) ≡ false → (is_in x (xs ++ ys) ≡ false → is_in x ys ≡ false) → is_in x ys ≡ false
    go true q f = absurd (false≢true (sym q))
    go false q f = f q

fresh : (x : ℕ) (t : Tree Entry) → is_in x (names_of t) ≡ false → Fresh x t
unfolding names_of
fresh x none h = tt
fresh x (node e ms rest) h = go (eqb x e.name) refl h (λ q. fresh x rest q)
  where
    go : (b : Bool) → eqb x e.name ≡ b → (b || is_in x (names_of ms ++ names_of rest)) ≡ false → (is_in x (names_of rest) ≡ false → Fresh x rest) → (x ≡ e.name → ⊥) × Fresh x rest
    go true q k f = absurd (false≢true (sym k))
    go false q k f = (λ d. false≢true (sym q ∙ eq-eqb x e.name d), f (out-left x (names_of ms) (names_of rest) k))

out-right : (x : ℕ) (xs ys : List ℕ) → is_in x (xs ++ ys) ≡ false → is_in x xs ≡ false
out-right x [] ys h = refl
out-right x (z ∷ xs) ys h = go (eqb x z) refl h (λ q. out-right x xs ys q)
  where
    go : (b : Bool) → eqb x z ≡ b → (b || is_in x (xs ++ ys)) ≡ false → (is_in x (xs ++ ys) ≡ false → is_in x xs ≡ false) → (eqb x z || is_in x xs) ≡ false
    go true q k f = absurd (false≢true (sym k))
    go false q k f = rw q (f k)

distinct-left : (xs ys : List ℕ) → distinct (xs ++ ys) ≡ true → distinct xs ≡ true
unfolding distinct
distinct-left [] ys h = refl
distinct-left (x ∷ xs) ys h =
    rw (out-right x xs ys (not-true (is_in x (xs ++ ys)) (and_left _ _ h))) (distinct-left xs ys (and_right (not (is_in x (xs ++ ys))) (distinct (xs ++ ys)) h))

distinct-right : (xs ys : List ℕ) → distinct (xs ++ ys) ≡ true → distinct ys ≡ true
unfolding distinct
distinct-right [] ys h = h
distinct-right (x ∷ xs) ys h = distinct-right xs ys (and_right (not (is_in x (xs ++ ys))) (distinct (xs ++ ys)) h)

least-sure : (t : Tree Entry) → sure t ≡ true → 1 ≤ least t
unfolding sure
least-sure none h = absurd (false≢true h)
least-sure (node e ms rest) h = go (unrepeated_leaf e) h (λ q. least-sure rest q)
  where
    go : (b : Bool) → (b || sure rest) ≡ true → (sure rest ≡ true → 1 ≤ least rest) → 1 ≤ max (cond b 1 0) (least rest)
    go true k f = omega arith
    go false k f = let d : 1 ≤ least rest = f k in omega arith

sound : (e : Entry) (ms : Tree Entry) → pad_ok e ≡ true → width_ok e ≡ true → group_ok e ms ≡ true → Sound e ms
unfolding pad_ok width_ok group_ok
sound e ms p w g = record {
  wide = λ o. leb-true 1 e.width (and_left (leb 1 e.width) (not (eqb e.kind 5) || leb e.width 1)
      (and_left (leb 1 e.width && (not (eqb e.kind 5) || leb e.width 1)) (not (eqb e.kind 2) || leb e.width 8) (or_else (is_group e) _ o w)));
  solid = λ s o. least-sure ms (solid-of (is_group e) (some ms) (unrepeated e) (sure ms) o s g);
  fixed = λ q. fixed_of (is_pad e) (present e.depending) q p;
}
  where
    solid-of : (a b c d : Bool) → a ≡ true → c ≡ false → (not a || (b && (c || d))) ≡ true → d ≡ true
    solid-of true true false d o s h = h
    solid-of true false c d o s h = absurd (false≢true h)
    solid-of true true true d o s h = absurd (false≢true (sym s))
    solid-of false b c d o s h = absurd (false≢true o)

    fixed_of : (a b : Bool) → a ≡ true → not (a && b) ≡ true → b ≡ false
    fixed_of true b q h = not-true b h
    fixed_of false b q h = absurd (false≢true q)

plainly : (lo : ℕ) (t : Tree Entry) → distinct (names_of t) ≡ true → each_ok t ≡ true → in_order lo t ≡ true → Plain lo t
unfolding names_of distinct each_ok in_order
plainly lo none d k o = tt
plainly lo (node e ms rest) d k o =
    let names : distinct (names_of ms ++ names_of rest) ≡ true = and_right (not (is_in e.name (names_of ms ++ names_of rest))) (distinct (names_of ms ++ names_of rest)) d in
    let out : is_in e.name (names_of ms ++ names_of rest) ≡ false = not-true (is_in e.name (names_of ms ++ names_of rest)) (and_left _ (distinct (names_of ms ++ names_of rest)) d) in
    let k₁ : (pad_ok e && width_ok e && group_ok e ms && each_ok ms) ≡ true = and_left (pad_ok e && width_ok e && group_ok e ms && each_ok ms) (each_ok rest) k in
    let k₂ : (pad_ok e && width_ok e && group_ok e ms) ≡ true = and_left (pad_ok e && width_ok e && group_ok e ms) (each_ok ms) k₁ in
    let k₃ : (pad_ok e && width_ok e) ≡ true = and_left (pad_ok e && width_ok e) (group_ok e ms) k₂ in
    let o₁ : (leb lo e.offset && in_order 0 ms) ≡ true = and_left (leb lo e.offset && in_order 0 ms) (in_order (e.offset + reserved_width e) rest) o in (
      leb-true lo e.offset (and_left (leb lo e.offset) (in_order 0 ms) o₁),
      fresh e.name rest (out-left e.name (names_of ms) (names_of rest) out),
      sound e ms (and_left (pad_ok e) (width_ok e) k₃) (and_right (pad_ok e) (width_ok e) k₃) (and_right (pad_ok e && width_ok e) (group_ok e ms) k₂),
      plainly 0 ms (distinct-left (names_of ms) (names_of rest) names) (and_right (pad_ok e && width_ok e && group_ok e ms) (each_ok ms) k₁) (and_right (leb lo e.offset) (in_order 0 ms) o₁),
      plainly (e.offset + reserved_width e) rest (distinct-right (names_of ms) (names_of rest) names) (and_right (pad_ok e && width_ok e && group_ok e ms && each_ok ms) (each_ok rest) k)
          (and_right (leb lo e.offset && in_order 0 ms) (in_order (e.offset + reserved_width e) rest) o),
    )

module _ (l masks : List ℕ) (page : ℕ) (h : plain l masks page ≡ true) where
  all : (eqb (checked_of l masks page) 0 && distinct (names_of (entries l)) && each_ok (entries l) && in_order 0 (entries l) && controlled [] (entries l)) ≡ true
  unfolding plain
  all = h

  a₁ : (eqb (checked_of l masks page) 0 && distinct (names_of (entries l)) && each_ok (entries l) && in_order 0 (entries l)) ≡ true
  a₁ = and_left (eqb (checked_of l masks page) 0 && distinct (names_of (entries l)) && each_ok (entries l) && in_order 0 (entries l)) (controlled [] (entries l)) all

  a₂ : (eqb (checked_of l masks page) 0 && distinct (names_of (entries l)) && each_ok (entries l)) ≡ true
  a₂ = and_left (eqb (checked_of l masks page) 0 && distinct (names_of (entries l)) && each_ok (entries l)) (in_order 0 (entries l)) a₁

  a₃ : (eqb (checked_of l masks page) 0 && distinct (names_of (entries l))) ≡ true
  a₃ = and_left (eqb (checked_of l masks page) 0 && distinct (names_of (entries l))) (each_ok (entries l)) a₂

  pub plain-lawful : eqb (checked_of l masks page) 0 ≡ true
  plain-lawful = and_left (eqb (checked_of l masks page) 0) (distinct (names_of (entries l))) a₃

  pub plain-tree : Plain 0 (entries l)
  plain-tree = plainly 0 (entries l) (and_right (eqb (checked_of l masks page) 0) (distinct (names_of (entries l))) a₃)
      (and_right (eqb (checked_of l masks page) 0 && distinct (names_of (entries l))) (each_ok (entries l)) a₂)
      (and_right (eqb (checked_of l masks page) 0 && distinct (names_of (entries l)) && each_ok (entries l)) (in_order 0 (entries l)) a₁)
