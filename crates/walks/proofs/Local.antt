-- Reading depends only on the bytes of its stretch.
use mathlib.Core.Path.{◌≡◌, refl, sym, ap, ◌∙◌, subst}
use mathlib.Core.Bool.{Bool, true, false, ◌||◌, cond}
use mathlib.Core.List.{List, [], ◌∷◌, ◌++◌}
use Prim.Native.Nat.{ℕ, zero, suc, ◌+◌, ◌-◌, ◌≤◌, max}
use native.Mathlib.Omega.{arith}
use lib.Dec.{eqb, leb}
use lib.ListN.{length, take, drop}
use lib.Seq.{drop-drop}
use borrow.Author.Tests.{le-leb}
use Rattle.layout.specs.declared.Entry.{Entry}
use Rattle.layout.specs.Layout.{is_group, reserved_width, unrepeated, is_pad}
use Rattle.spans.specs.Tree.{Tree, none, node}
use Rattle.items.specs.Items.{item_words, item_count, words_of, item_of, header}
use Rattle.walks.specs.Walk.{Many, never, times, Leaf, bad, leaf, Codec, how_many}
use Rattle.walks.specs.Reading.{Outcome, refused, read, Reader, bind, with_header, container, placed, scalar, pad, one, then_element, elements, table, field, then_entry, seq}
use Rattle.walks.specs.Local.{Same, LocalOne, LocalField, LocalSeq}

-- ---- a stretch inside a stretch

take_in : (t n : ℕ) (xs : List ℕ) → t ≤ n → take t (take n xs) ≡ take t xs
take_in zero n xs h = refl
take_in (suc t) zero xs h = absurd (omega arith)
take_in (suc t) (suc n) [] h = refl
take_in (suc t) (suc n) (x ∷ xs) h = ap (λ l. x ∷ l) (take_in t n xs (omega arith))

inner : (d t n : ℕ) (xs : List ℕ) → d + t ≤ n → take t (drop d (take n xs)) ≡ take t (drop d xs)
inner zero t n xs h = take_in t n xs (omega arith)
inner (suc d) t zero xs h = absurd (omega arith)
inner (suc d) t (suc n) [] h = refl
inner (suc d) t (suc n) (x ∷ xs) h = inner d t n xs (omega arith)

module _ (r r' : List ℕ) where
  sub : (at n : ℕ) → Same r r' at n → (at' d t : ℕ) → at' ≡ at + d → d + t ≤ n → Same r r' at' t
  sub at n s at' d t e h =
      rw e (ap (take t) (sym (drop-drop d at r)) ∙ sym (inner d t n (drop at r) h) ∙ ap (λ l. take t (drop d l)) s ∙ inner d t n (drop at r') h ∙ ap (take t) (drop-drop d at r'))

pub local-one : LocalOne
unfolding one scalar pad
local-one S k r r' e inner name once at room s g h h' q =
    rw (g, le-leb (at + e.width) (length r) h, le-leb (at + e.width) (length r') h', q) refl

module _ {S : Type 0} (r r' : List ℕ) where
  -- what is read of its bytes at a position is read of the other record too
  pub data Kept (at : ℕ) : Outcome S → Outcome S → Type 0 where
    none_read : (n : ℕ) (p : Outcome S) → Kept at (refused n) p
    all_read : (ws : List ℕ) (m t : ℕ) (s : S) (p : Outcome S) → (Same r r' at t → p ≡ read ws m t s) → Kept at (read ws m t s) p

module _ {S : Type 0} (k : Codec S) (r r' : List ℕ) (long : length r ≡ length r') where
  abbrev Local : Reader S → Reader S → Type 0
  Local f g = (at room : ℕ) (s : S) → Kept r r' at (f at room s) (g at room s)

  by : (at : ℕ) (b : Bool) {o o' p p' : Outcome S} → Kept r r' at o p → Kept r r' at o' p' → Kept r r' at (cond b o o') (cond b p p')
  by at true f g = f
  by at false f g = g

  -- ---- one element

  module _ (e : Entry) where
    width-kept : (at name room : ℕ) (once : Bool) (x y : Leaf S) → (Same r r' at e.width → x ≡ y) → Kept r r' at (placed name once e.width room x) (placed name once e.width room y)
    width-kept at name room once (bad n) y f = none_read n (placed name once e.width room y)
    width-kept at name room once (leaf v s) y f = go (once || leb 1 e.width) (leb item_words room) refl refl
      where
        go : (p q : Bool) → (once || leb 1 e.width) ≡ p → leb item_words room ≡ q
            → Kept r r' at (cond p (cond q (read (words_of (item_of name v)) 1 e.width s) (refused 16)) (refused 10)) (placed name once e.width room y)
        go true true u w = all_read (words_of (item_of name v)) 1 e.width s (placed name once e.width room y) (λ h. rw (← f h, u, w) refl)
        go true false u v = none_read 16 (placed name once e.width room y)
        go false q u v = none_read 10 (placed name once e.width room y)

    scalar-local : (name : ℕ) (once : Bool) → Local (scalar k r e name once) (scalar k r' e name once)
    unfolding scalar
    scalar-local name once at room s = rw (← long)
        (by at (leb (at + e.width) (length r))
        (width-kept at name room once (k.dec e (take e.width (drop at r)) s) (k.dec e (take e.width (drop at r')) s) (λ h. ap (λ bs. k.dec e bs s) h)) (none_read 7 (refused 7)))

    pad-local : Local (pad r e) (pad r' e)
    unfolding pad
    pad-local at room s = rw (← long) (by at (leb (at + e.width) (length r)) (all_read [] 0 e.width s (read [] 0 e.width s) (λ _. refl)) (none_read 7 (refused 7)))

    header-kept : (at name tag : ℕ) {o p : Outcome S} → Kept r r' at o p → Kept r r' at (with_header name tag o) (with_header name tag p)
    header-kept at name tag (none_read n p) = none_read n (with_header name tag p)
    header-kept at name tag (all_read ws m t s p f) = all_read (words_of (header name tag m (item_count ws + 1)) ++ ws) 1 t s (with_header name tag p) (λ h. ap (with_header name tag) (f h))

    container-local : (name tag : ℕ) (f g : Reader S) → Local f g → Local (container name tag f) (container name tag g)
    unfolding container
    container-local name tag f g a at room s = by at (leb item_words room) (header-kept at name tag (a at (room - item_words) s)) (none_read 16 (refused 16))

    one_local : (name : ℕ) (once : Bool) (f g : Reader S) → Local f g → Local (one k r e f name once) (one k r' e g name once)
    unfolding one
    one_local name once f g a at room s = by at (is_group e) (container-local name 7 f g a at room s) (by at (is_pad e) (pad-local at room s) (scalar-local name once at room s))

    -- ---- tables

    element-kept : (at : ℕ) (ws : List ℕ) (m t : ℕ) {o o' : Outcome S} (p : Outcome S) → (Same r r' at t → p ≡ then_element ◌+◌ ws m t o') → Kept r r' (at + t) o o' → Kept r r' at (then_element ◌+◌ ws m t o) p
    element-kept at ws m t p f (none_read n o') = none_read n p
    element-kept at ws m t p f (all_read vs n u s o' q) = all_read (ws ++ vs) (m + n) (t + u) s p (λ h.
        f (sub r r' at (t + u) h at 0 t (omega arith) (omega arith)) ∙ ap (then_element ◌+◌ ws m t) (q (sub r r' at (t + u) h (at + t) t u refl (omega arith))))

    module _ (f g : Reader S) (n at room : ℕ) (ih : (at room : ℕ) (s : S) → Kept r r' at (elements ◌+◌ f n at room s) (elements ◌+◌ g n at room s)) where
      abbrev Turn : Reader S → List ℕ → ℕ → ℕ → S → Outcome S
      Turn h ws m t s = cond (eqb t 0) (refused 10) (then_element ◌+◌ ws m t (elements ◌+◌ h n (at + t) (room - length ws) s))

      turn-kept : {o p : Outcome S} → Kept r r' at o p → Kept r r' at (bind o (Turn f)) (bind p (Turn g))
      turn-kept (none_read m p) = none_read m (bind p (Turn g))
      turn-kept (all_read ws m t s p q) = go (eqb t 0) refl
        where
          go : (b : Bool) → eqb t 0 ≡ b → Kept r r' at (cond b (refused 10) (then_element ◌+◌ ws m t (elements ◌+◌ f n (at + t) (room - length ws) s))) (bind p (Turn g))
          go true z = none_read 10 (bind p (Turn g))
          go false z = element-kept at ws m t (bind p (Turn g)) (λ h. ap (λ x. bind x (Turn g)) (q h) ∙ ap (λ b. cond b (refused 10) (then_element ◌+◌ ws m t (elements ◌+◌ g n (at + t) (room - length ws) s))) z) (ih (at + t) (room - length ws) s)

    elements-local : (f g : Reader S) → Local f g → (n : ℕ) → Local (elements ◌+◌ f n) (elements ◌+◌ g n)
    unfolding elements
    elements-local f g a zero at room s = all_read [] 0 0 s (read [] 0 0 s) (λ _. refl)
    elements-local f g a (suc n) at room s = turn-kept f g n at room (λ b m u. elements-local f g a n b m u) (a at room s)

    table-local : (f g : Reader S) → Local f g → (m : Many) → Local (table ◌+◌ e f m) (table ◌+◌ e g m)
    table-local f g a (never n) at room s = none_read n (refused n)
    table-local f g a (times n) at room s = by at (is_pad e) (elements-local f g a n at room s) (container-local e.name 6 (elements ◌+◌ f n) (elements ◌+◌ g n) (elements-local f g a n) at room s)

    field-local : (f g : Reader S) → Local f g → Local (field ◌+◌ k r e f) (field ◌+◌ k r' e g)
    unfolding field
    field-local f g a at room s = by at (unrepeated e) (one_local e.name true f g a at room s)
        (table-local (one k r e f 65536 false) (one k r' e g 65536 false) (one_local 65536 false f g a) (how_many k.held e s) at room s)

  -- ---- sequences

  after_kept : (base d : ℕ) (ws : List ℕ) (m t : ℕ) {o o' : Outcome S} (p : Outcome S) → (Same r r' (base + d) t → p ≡ then_entry ws m (d + t) o') → Kept r r' base o o' → Kept r r' base (then_entry ws m (d + t) o) p
  after_kept base d ws m t p f (none_read n o') = none_read n p
  after_kept base d ws m t p f (all_read vs n far s o' q) = all_read (ws ++ vs) (m + n) (max (d + t) far) s p (λ h.
      f (sub r r' base (max (d + t) far) h (base + d) d t refl (omega arith)) ∙ ap (then_entry ws m (d + t)) (q (sub r r' base (max (d + t) far) h base 0 far (omega arith) (omega arith))))

  module _ (e : Entry) (rest : Tree Entry) (base shift room : ℕ) where
    abbrev Rest : List ℕ → List ℕ → ℕ → ℕ → S → Outcome S
    Rest x ws m t s = then_entry ws m (e.offset + shift + t) (seq ◌+◌ k x rest base (shift + (t - reserved_width e)) (room - length ws) s)

    entry_kept : ((base shift room : ℕ) (s : S) → Kept r r' base (seq ◌+◌ k r rest base shift room s) (seq ◌+◌ k r' rest base shift room s))
        → {o p : Outcome S} → Kept r r' (base + (e.offset + shift)) o p → Kept r r' base (bind o (Rest r)) (bind p (Rest r'))
    entry_kept ih (none_read n p) = none_read n (bind p (Rest r'))
    entry_kept ih (all_read ws m t s p q) = after_kept base (e.offset + shift) ws m t (bind p (Rest r')) (λ h. ap (λ x. bind x (Rest r')) (q h)) (ih base (shift + (t - reserved_width e)) (room - length ws) s)

  seq-kept : (t : Tree Entry) (base shift room : ℕ) (s : S) → Kept r r' base (seq ◌+◌ k r t base shift room s) (seq ◌+◌ k r' t base shift room s)
  unfolding seq
  seq-kept none base shift room s = all_read [] 0 0 s (read [] 0 0 s) (λ _. refl)
  seq-kept (node e members rest) base shift room s =
      entry_kept e rest base shift room (λ b sh n u. seq-kept rest b sh n u)
      (field-local e (λ b n s. seq ◌+◌ k r members b 0 n s) (λ b n s. seq ◌+◌ k r' members b 0 n s) (λ b n u. seq-kept members b 0 n u) (base + (e.offset + shift)) room s)

abbrev tag : {S : Type 0} → Outcome S → ℕ
tag (refused n) = 0
tag (read ws m t s) = 1

use_kept : {S : Type 0} {r r' : List ℕ} {at : ℕ} {o p : Outcome S} → Kept r r' at o p → (ws : List ℕ) (m t : ℕ) (s : S) → o ≡ read ws m t s → Same r r' at t → p ≡ read ws m t s
use_kept (none_read n p) ws m t s e h = absurd (omega (arith, ap tag e))
use_kept {r = r} {r' = r'} {at = at} (all_read vs n u w p f) ws m t s e h =
    let z : u ≡ t = cc in
    f (subst (Same r r' at) (sym z) h) ∙ e

pub local-field : LocalField
local-field S k r r' long e members at room s ws m t s' = use_kept
    (field-local k r r' long e (λ b n s. seq ◌+◌ k r members b 0 n s) (λ b n s. seq ◌+◌ k r' members b 0 n s) (λ b n u. seq-kept k r r' long members b 0 n u) at room s) ws m t s'

pub local-seq : LocalSeq
local-seq S k r r' long t base shift room s ws m far s' = use_kept (seq-kept k r r' long t base shift room s) ws m far s'
