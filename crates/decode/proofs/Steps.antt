-- The laws by which a turn of a loop goes on in the definition.
use mathlib.Core.Path.{◌≡◌, refl, sym, ap, ap₂, ◌∙◌, subst}
use mathlib.Core.Bool.{Bool, true, false, ◌||◌, ◌&&◌, not, cond}
use mathlib.Core.List.{List, [], ◌++◌, append-nil, append_assoc}
use Prim.Native.Nat.{ℕ, zero, suc, ◌+◌, ◌-◌, ◌≤◌, ◌<◌, max}
use native.Mathlib.Omega.{arith}
use lib.Dec.{eqb, leb}
use lib.ListN.{length, take, drop}
use borrow.Author.Tests.{le-leb, lt-leb, leb-true}
use Rattle.layout.specs.declared.Entry.{Entry}
use Rattle.layout.specs.Layout.{entry_at, span_of, part, reserved_width, is_group, unrepeated, is_pad}
use Rattle.spans.specs.Tree.{Tree, none, node, end_of}
use Rattle.spans.proofs.Tree.{tree-none, tree-at}
use Rattle.items.specs.Items.{item_words, words_of, item_of}
use Rattle.walks.specs.Walk.{Many, never, times, Leaf, bad, leaf, Codec, how_many}
use Rattle.walks.specs.Reading.{Outcome, refused, read, Reader, bind, with_header, container, placed, scalar, pad, one, then_entry, then_element, elements, table, field, seq}
use Rattle.positions.specs.Positions.{sat_sum, sat}
use Rattle.decode_leaf.specs.Machine.{bare, head_of}

abbrev number : Many → ℕ
number (never n) = n
number (times n) = n

same-times : {a b : ℕ} → times a ≡ times b → a ≡ b
same-times p = ap number p

abbrev IsNever : Many → Type 0
IsNever (never n) = Unit {0}
IsNever (times n) = ⊥

module _ {S : Type 0} where
  -- ---- one part behind another

  read_same : {ws ws' : List ℕ} {m m' t t' : ℕ} (s : S) → ws ≡ ws' → m ≡ m' → t ≡ t' → read ws m t s ≡ read ws' m' t' s
  read_same s p q r = λ i. read (p i) (q i) (r i) s

  pub follow-none : (o : Outcome S) → o ≡ then_entry [] 0 0 o
  follow-none (refused n) = refl
  follow-none (read ws m t s) = read_same s refl (omega arith) (omega arith)

  pub follow-end : (ws : List ℕ) (m far : ℕ) (s : S) → then_entry ws m far (read [] 0 0 s) ≡ read ws m far s
  follow-end ws m far s = read_same s (append-nil ws) (omega arith) (omega arith)

  pub follow-follow : (ws ws' : List ℕ) (m m' far far' : ℕ) (o : Outcome S) → then_entry ws m far (then_entry ws' m' far' o) ≡ then_entry (ws ++ ws') (m + m') (max far far') o
  follow-follow ws ws' m m' far far' (refused n) = refl
  follow-follow ws ws' m m' far far' (read vs p t s) = read_same s (sym (append_assoc ws ws' vs)) (omega arith) (omega arith)

  pub behind-end : (ws : List ℕ) (m t : ℕ) (s : S) → t ≤ 9223372036854775808 → then_element sat_sum ws m t (read [] 0 0 s) ≡ read ws m t s
  behind-end ws m t s h = read_same s (append-nil ws) (omega arith) (omega arith)

  pub behind-behind : (ws ws' : List ℕ) (m m' t t' : ℕ) (o : Outcome S) → then_element sat_sum ws m t (then_element sat_sum ws' m' t' o) ≡ then_element sat_sum (ws ++ ws') (m + m') (sat (t + t')) o
  behind-behind ws ws' m m' t t' (refused n) = refl
  behind-behind ws ws' m m' t t' (read vs p u s) = read_same s (sym (append_assoc ws ws' vs)) (omega arith) (omega arith)

  behind-capped : (ws : List ℕ) (m t : ℕ) (o : Outcome S) → then_element sat_sum ws m t o ≡ then_element sat_sum [] 0 0 (then_element sat_sum ws m t o)
  behind-capped ws m t (refused n) = refl
  behind-capped ws m t (read vs p u s) = read_same s refl (omega arith) (omega arith)

  -- the elements as the loop reads them: that an element took no byte is asked only in a table
  unfoldable pub turns : Bool → Reader S → ℕ → Reader S
  turns once f zero at room s = read [] 0 0 s
  turns once f (suc n) at room s =
      bind (f at room s) (λ ws m t s'. cond (not once && eqb t 0) (refused 10) (then_element sat_sum ws m t (turns once f n (sat (at + t)) (room - length ws) s')))

  next-capped : (once : Bool) (f : Reader S) (n at room : ℕ) (o : Outcome S)
      → bind o (λ ws m t s. cond (not once && eqb t 0) (refused 10) (then_element sat_sum ws m t (turns once f n (sat (at + t)) (room - length ws) s)))
      ≡ then_element sat_sum [] 0 0 (bind o (λ ws m t s. cond (not once && eqb t 0) (refused 10) (then_element sat_sum ws m t (turns once f n (sat (at + t)) (room - length ws) s))))
  next-capped once f n at room (refused m) = refl
  next-capped once f n at room (read ws m t s) = go (not once && eqb t 0)
    where
      go : (b : Bool) → cond b (refused 10) (then_element sat_sum ws m t (turns once f n (sat (at + t)) (room - length ws) s)) ≡ then_element sat_sum [] 0 0 (cond b (refused 10) (then_element sat_sum ws m t (turns once f n (sat (at + t)) (room - length ws) s)))
      go true = refl
      go false = behind-capped ws m t (turns once f n (sat (at + t)) (room - length ws) s)

  pub behind-none : (once : Bool) (f : Reader S) (n at room : ℕ) (s : S) → turns once f n at room s ≡ then_element sat_sum [] 0 0 (turns once f n at room s)
  unfolding turns
  behind-none once f zero at room s = refl
  behind-none once f (suc n) at room s = next-capped once f n at room (f at room s)

  -- in a table the turns are its elements
  next-same : (f g : Reader S) (at room : ℕ) (o : Outcome S) → ((at' room' : ℕ) (s : S) → f at' room' s ≡ g at' room' s)
      → bind o (λ ws m t s. cond (eqb t 0) (refused 10) (then_element sat_sum ws m t (f (sat (at + t)) (room - length ws) s)))
      ≡ bind o (λ ws m t s. cond (eqb t 0) (refused 10) (then_element sat_sum ws m t (g (sat (at + t)) (room - length ws) s)))
  next-same f g at room (refused m) h = refl
  next-same f g at room (read ws m t s) h = ap (λ x. cond (eqb t 0) (refused 10) (then_element sat_sum ws m t x)) (h (sat (at + t)) (room - length ws) s)

  pub turns-table : (f : Reader S) (n at room : ℕ) (s : S) → turns false f n at room s ≡ elements sat_sum f n at room s
  unfolding turns elements
  turns-table f zero at room s = refl
  turns-table f (suc n) at room s = next-same (turns false f n) (elements sat_sum f n) at room (f at room s) (λ at' room' s'. turns-table f n at' room' s')

  -- an outcome whose bytes are at most 2^63
  abbrev pub Capped : Outcome S → Type 0
  Capped (refused n) = Unit {0}
  Capped (read ws m t s) = t ≤ 9223372036854775808

  -- a single entry's one turn is the entry itself
  pub turns-once : (f : Reader S) (at room : ℕ) (s : S) → Capped (f at room s) → turns true f 1 at room s ≡ f at room s
  unfolding turns
  turns-once f at room s h = go (f at room s) h
    where
      go : (o : Outcome S) → Capped o → bind o (λ ws m t s. then_element sat_sum ws m t (read [] 0 0 s)) ≡ o
      go (refused n) h = refl
      go (read ws m t s) h = behind-end ws m t s h

  -- ---- the turns of a sequence

  module _ (k : Codec S) (r l : List ℕ) (i hi base shift room : ℕ) (s : S) where
    pub seq_end : hi ≤ i → seq sat_sum k r (part l i hi) base shift room s ≡ read [] 0 0 s
    unfolding seq
    seq_end h = rw (tree-none (entry_at l) span_of i hi h) refl

    module _ (e : Entry) (en : ℕ) (h : i < hi) (p : e ≡ entry_at l i) (q : en ≡ end_of e.span i hi) where
      abbrev pub first : Outcome S
      first = field sat_sum k r e (λ b n s. seq sat_sum k r (part l (i + 1) en) b 0 n s) (sat (base + sat (e.offset + shift))) room s

      pub seq-refused : (n : ℕ) → first ≡ refused n → seq sat_sum k r (part l i hi) base shift room s ≡ refused n
      unfolding seq
      seq-refused n f = rw (tree-at (entry_at l) span_of i hi e en h p q, f) refl

      pub seq-read : (ws : List ℕ) (m t : ℕ) (s' : S) → first ≡ read ws m t s'
          → seq sat_sum k r (part l i hi) base shift room s ≡ then_entry ws m (sat (sat (e.offset + shift) + t)) (seq sat_sum k r (part l en hi) base (sat (shift + (t - reserved_width e))) (room - length ws) s')
      unfolding seq
      seq-read ws m t s' f = rw (tree-at (entry_at l) span_of i hi e en h p q, f) refl

  -- ---- the turns of an entry

  module _ (once : Bool) (f : Reader S) (n k place room : ℕ) (s : S) where
    pub turns-end : n ≤ k → turns once f (n - k) place room s ≡ read [] 0 0 s
    unfolding turns
    turns-end h = let z : n - k ≡ 0 = omega arith in rw z refl

    module _ (h : k < n) where
      left : n - k ≡ suc (n - (k + 1))
      left = omega arith

      pub turns-refused : (m : ℕ) → f place room s ≡ refused m → turns once f (n - k) place room s ≡ refused m
      unfolding turns
      turns-refused m e = rw (left, e) refl

      module _ (ws : List ℕ) (m t : ℕ) (s' : S) (e : f place room s ≡ read ws m t s') (b : Bool) (p : b ≡ (not once && eqb t 0)) where
        pub turns-empty : b ≡ true → turns once f (n - k) place room s ≡ refused 10
        unfolding turns
        turns-empty z = rw (left, e, sym p ∙ z) refl

        pub turns-read : b ≡ false → turns once f (n - k) place room s ≡ then_element sat_sum ws m t (turns once f (n - (k + 1)) (sat (place + t)) (room - length ws) s')
        unfolding turns
        turns-read z = rw (left, e, sym p ∙ z) refl

  -- ---- Lists and Structs

  pub inside-room : (name tag : ℕ) (inner : Reader S) (at room : ℕ) (s : S) → item_words ≤ room → container name tag inner at room s ≡ with_header name tag (inner at (room - item_words) s)
  unfolding container
  inside-room name tag inner at room s h = rw (le-leb item_words room h) refl

  pub inside_small : (name tag : ℕ) (inner : Reader S) (at room : ℕ) (s : S) → room < item_words → container name tag inner at room s ≡ refused 16
  unfolding container
  inside_small name tag inner at room s h = rw (lt-leb item_words room h) refl

  both-refuse : (b : Bool) (m : ℕ) → cond {A = Outcome S} b (refused m) (refused m) ≡ refused m
  both-refuse true m = refl
  both-refuse false m = refl

  -- ---- a table of n elements behind head words

  module _ (e : Entry) (f : Reader S) (n at room : ℕ) (s : S) (head : ℕ) (g : unrepeated e ≡ false) (p : head ≡ head_of e) where
    abbrev Turned : Outcome S
    Turned = turns false f n at (room - head) s

    abbrev Table : Bool → Outcome S
    Table c = cond c (elements sat_sum f n at room s) (container e.name 6 (elements sat_sum f n) at room s)

    table-ways : table sat_sum e f (times n) at room s ≡ Table (eqb e.kind 6)
    unfolding is_pad
    table-ways = refl

    bare-is : bare e ≡ eqb e.kind 6
    bare-is = ap (λ b. b || eqb e.kind 6) g

    head-is : head ≡ cond (eqb e.kind 6) 0 item_words
    head-is = p ∙ ap (λ b. cond {A = ℕ} b 0 item_words) bare-is

    pub table-small : room < head → table sat_sum e f (times n) at room s ≡ refused 16
    table-small h = table-ways ∙ go (eqb e.kind 6) head-is
      where
        go : (c : Bool) → head ≡ cond c 0 item_words → Table c ≡ refused 16
        go true q = absurd (omega arith)
        go false q = inside_small e.name 6 (elements sat_sum f n) at room s (omega arith)

    pub table_is : head ≤ room → table sat_sum e f (times n) at room s ≡ cond (bare e) Turned (with_header e.name 6 Turned)
    table_is h = table-ways ∙ go (eqb e.kind 6) head-is ∙ ap (λ c. cond c Turned (with_header e.name 6 Turned)) (sym bare-is)
      where
        go : (c : Bool) → head ≡ cond c 0 item_words → Table c ≡ cond c Turned (with_header e.name 6 Turned)
        go true q = let y : room ≡ room - head = omega arith in ap (λ x. elements sat_sum f n at x s) y ∙ sym (turns-table f n at (room - head) s)
        go false q = inside-room e.name 6 (elements sat_sum f n) at room s (omega arith)
            ∙ (let y : room - item_words ≡ room - head = omega arith in ap (λ x. with_header e.name 6 (elements sat_sum f n at x s)) y)
            ∙ ap (with_header e.name 6) (sym (turns-table f n at (room - head) s))

    pub table-refused : head ≤ room → (m : ℕ) → Turned ≡ refused m → table sat_sum e f (times n) at room s ≡ refused m
    table-refused h m q = table_is h ∙ rw q (both-refuse (bare e) m)

  -- ---- the ways of a field: once is whether the entry is single

  abbrev pub counts-to : Codec S → Entry → S → Many
  counts-to k e s = cond (unrepeated e) (times 1) (how_many k.held e s)

  module _ (k : Codec S) (r : List ℕ) (e : Entry) (inner : Reader S) (at room : ℕ) (s : S) where
    abbrev pub Element : Bool → Reader S
    Element once = one k r e inner (cond once e.name 65536) once

    abbrev Field : Outcome S
    Field = field sat_sum k r e inner at room s

    abbrev Ways : Bool → Many → Outcome S
    Ways b m = cond b (one k r e inner e.name true at room s) (table sat_sum e (one k r e inner 65536 false) m at room s)

    ways : Field ≡ Ways (unrepeated e) (how_many k.held e s)
    unfolding field
    ways = refl

    pub field-never : (n : ℕ) → counts-to k e s ≡ never n → Field ≡ refused n
    field-never n z = ways ∙ go (unrepeated e) z
      where
        go : (b : Bool) → cond b (times 1) (how_many k.held e s) ≡ never n → Ways b (how_many k.held e s) ≡ refused n
        go true q = absurd (subst IsNever (sym q) tt)
        go false q = ap (λ m. table sat_sum e (one k r e inner 65536 false) m at room s) q

    module _ (head : ℕ) (p : head ≡ head_of e) (n : ℕ) (z : counts-to k e s ≡ times n) where
      pub field-small : room < head → Field ≡ refused 16
      field-small h = ways ∙ go (unrepeated e) refl z
        where
          go : (b : Bool) → unrepeated e ≡ b → cond b (times 1) (how_many k.held e s) ≡ times n → Ways b (how_many k.held e s) ≡ refused 16
          go true w q = absurd (omega (arith, p ∙ ap (λ b. cond {A = ℕ} (b || eqb e.kind 6) 0 item_words) w))
          go false w q = ap (λ m. table sat_sum e (one k r e inner 65536 false) m at room s) q ∙ table-small e (one k r e inner 65536 false) n at room s head w p h

      -- what the turns read, with a table's own item around it
      abbrev pub All : Bool → Outcome S
      All once = turns once (Element once) n at (room - head) s

      pub field_is : (once : Bool) → once ≡ unrepeated e → head ≤ room → Capped (Element once at room s) → Field ≡ cond (bare e) (All once) (with_header e.name 6 (All once))
      field_is once o h g = ways ∙ go once (sym o) g
        where
          alone : n ≡ 1 → head ≡ 0 → Capped (Element true at room s) → one k r e inner e.name true at room s ≡ All true
          alone u v g = let y : room ≡ room - head = omega arith in sym (turns-once (Element true) at room s g) ∙ ap₂ (λ a x. turns true (Element true) a at x s) (sym u) y

          counted : (once : Bool) → unrepeated e ≡ once → cond once (times 1) (how_many k.held e s) ≡ times n
          counted once o = sym (ap (λ b. cond b (times 1) (how_many k.held e s)) o) ∙ z

          go : (once : Bool) → unrepeated e ≡ once → Capped (Element once at room s) → Ways (unrepeated e) (how_many k.held e s) ≡ cond (bare e) (All once) (with_header e.name 6 (All once))
          go true o g = rw o (alone (sym (same-times (counted true o))) (p ∙ ap (λ b. cond {A = ℕ} (b || eqb e.kind 6) 0 item_words) o) g)
          go false o g = ap (λ b. Ways b (how_many k.held e s)) o ∙ ap (λ m. table sat_sum e (one k r e inner 65536 false) m at room s) (counted false o)
              ∙ table_is e (one k r e inner 65536 false) n at room s head o p h

      pub field-refused : (once : Bool) → once ≡ unrepeated e → head ≤ room → Capped (Element once at room s) → (m : ℕ) → All once ≡ refused m → Field ≡ refused m
      field-refused once o h g m q = field_is once o h g ∙ rw q (both-refuse (bare e) m)

  -- ---- the bytes of one element are at most 2^63

  follow-most : (ws : List ℕ) (m t : ℕ) (o : Outcome S) → t ≤ 9223372036854775808 → Capped o → Capped (then_entry ws m t o)
  follow-most ws m t (refused n) h g = tt
  follow-most ws m t (read ws' m' far s) h g = omega arith

  next-most : (o : Outcome S) (f : List ℕ → ℕ → ℕ → S → Outcome S) → ((ws : List ℕ) (m t : ℕ) (s : S) → Capped (f ws m t s)) → Capped (bind o f)
  next-most (refused n) f h = tt
  next-most (read ws m t s) f h = h ws m t s

  pub seq-most : (k : Codec S) (r : List ℕ) (t : Tree Entry) (base shift room : ℕ) (s : S) → Capped (seq sat_sum k r t base shift room s)
  unfolding seq
  seq-most k r none base shift room s = omega arith
  seq-most k r (node e members rest) base shift room s = next-most (field sat_sum k r e (λ base' room' s'. seq sat_sum k r members base' 0 room' s') (sat (base + sat (e.offset + shift))) room s)
      (λ ws m t s'. then_entry ws m (sat (sat (e.offset + shift) + t)) (seq sat_sum k r rest base (sat (shift + (t - reserved_width e))) (room - length ws) s'))
      (λ ws m t s'. follow-most ws m (sat (sat (e.offset + shift) + t)) (seq sat_sum k r rest base (sat (shift + (t - reserved_width e))) (room - length ws) s') (omega arith) (seq-most k r rest base (sat (shift + (t - reserved_width e))) (room - length ws) s'))

  either : (P : Outcome S → Type 0) (b : Bool) (o p : Outcome S) → P o → P p → P (cond b o p)
  either P true o p g h = g
  either P false o p g h = h

  cond-most : (b : Bool) (o p : Outcome S) → Capped o → Capped p → Capped (cond b o p)
  cond-most = either Capped

  wrap-most : (name tag : ℕ) (o : Outcome S) → Capped o → Capped (with_header name tag o)
  wrap-most name tag (refused n) g = tt
  wrap-most name tag (read ws m t s) g = g

  placed-most : (name : ℕ) (once : Bool) (width room : ℕ) (v : Leaf S) → width ≤ 9223372036854775808 → Capped (placed name once width room v)
  placed-most name once width room (bad n) h = tt
  placed-most name once width room (leaf v s) h =
      cond-most (once || leb 1 width) (cond (leb item_words room) (read (words_of (item_of name v)) 1 width s) (refused 16)) (refused 10) (cond-most (leb item_words room) (read (words_of (item_of name v)) 1 width s) (refused 16) h tt) tt

  pub one-most : (k : Codec S) (r : List ℕ) (e : Entry) (inner : Reader S) (name : ℕ) (once : Bool) (at room : ℕ) (s : S) → e.width ≤ 9223372036854775808
      → ((b n : ℕ) (s : S) → Capped (inner b n s)) → Capped (one k r e inner name once at room s)
  unfolding one container pad scalar
  one-most k r e inner name once at room s h g =
      cond-most (is_group e) (container name 7 inner at room s) (cond (is_pad e) (pad r e at room s) (scalar k r e name once at room s))
      (cond-most (leb item_words room) (with_header name 7 (inner at (room - item_words) s)) (refused 16) (wrap-most name 7 (inner at (room - item_words) s) (g at (room - item_words) s)) tt)
      (cond-most (is_pad e) (pad r e at room s) (scalar k r e name once at room s)
      (cond-most (leb (at + e.width) (length r)) (read [] 0 e.width s) (refused 7) h tt)
      (cond-most (leb (at + e.width) (length r)) (placed name once e.width room (k.dec e (take e.width (drop at r)) s)) (refused 7) (placed-most name once e.width room (k.dec e (take e.width (drop at r)) s) h) tt))

  -- ---- a scalar or Pad takes its width, inside the record

  abbrev Took : List ℕ → ℕ → ℕ → Outcome S → Type 0
  Took r at w (refused n) = Unit {0}
  Took r at w (read ws m t s) = (t ≡ w) × (at + w ≤ length r)

  placed-took : (r : List ℕ) (at : ℕ) (name : ℕ) (once : Bool) (width room : ℕ) (v : Leaf S) → at + width ≤ length r → Took r at width (placed name once width room v)
  placed-took r at name once width room (bad n) h = tt
  placed-took r at name once width room (leaf v s) h =
      either (Took r at width) (once || leb 1 width) (cond (leb item_words room) (read (words_of (item_of name v)) 1 width s) (refused 16)) (refused 10)
      (either (Took r at width) (leb item_words room) (read (words_of (item_of name v)) 1 width s) (refused 16) (refl, h) tt) tt

  leaf-took : (k : Codec S) (r : List ℕ) (e : Entry) (name : ℕ) (once : Bool) (at room : ℕ) (s : S) → Took r at e.width (cond (is_pad e) (pad r e at room s) (scalar k r e name once at room s))
  unfolding pad scalar
  leaf-took k r e name once at room s = either (Took r at e.width) (is_pad e) (pad r e at room s) (scalar k r e name once at room s)
      (inside-only (leb (at + e.width) (length r)) refl (read [] 0 e.width s) (λ h. (refl, h)))
      (inside-only (leb (at + e.width) (length r)) refl (placed name once e.width room (k.dec e (take e.width (drop at r)) s))
      (placed-took r at name once e.width room (k.dec e (take e.width (drop at r)) s)))
    where
      inside-only : (b : Bool) → leb (at + e.width) (length r) ≡ b → (o : Outcome S) → (at + e.width ≤ length r → Took r at e.width o) → Took r at e.width (cond b o (refused 7))
      inside-only true q o f = f (leb-true (at + e.width) (length r) q)
      inside-only false q o f = tt

  pub leaf-takes : (k : Codec S) (r : List ℕ) (e : Entry) (name : ℕ) (once : Bool) (at room : ℕ) (s : S) (ws : List ℕ) (m t : ℕ) (s' : S)
      → cond (is_pad e) (pad r e at room s) (scalar k r e name once at room s) ≡ read ws m t s' → (t ≡ e.width) × (at + e.width ≤ length r)
  leaf-takes k r e name once at room s ws m t s' q = subst (Took r at e.width) q (leaf-took k r e name once at room s)
