-- The item at an entry's place is its own. By induction over the reader's walk: what an entry but a Pad yields is one item with all that stands below it, so that the
-- items behind it begin where its words end.
use Rattle.std.proofs.Common.{◌≡◌, ℕ, zero, suc, ◌+◌, ◌-◌, ◌*◌, ◌%◌, ◌<◌, ◌≤◌, max, Bool, true, false, cond, ◌&&◌, ◌||◌, eqb, leb, List, [], ◌++◌, length, get_or, take, drop, sym, refl, ap, ◌∙◌, subst, ap₂, append-nil, arith, length-append, get_or-append-add, le-ltb, lt-ltb, eqb-true, leb-true}
use mathlib.Core.Bool.{false≢true}
use native.Mathlib.Decide.{dec_lt}
use Rattle.lists.proofs.Logic.{and_left, and_right}
use Rattle.layout.specs.declared.Entry.{Entry}
use Rattle.layout.specs.Layout.{is_group, is_pad, unrepeated, reserved_width, span_of, entry_at, entry_count, entries, part}
use Rattle.spans.specs.Tree.{Tree, none, node, end_of, tree, tree_in, size}
use Rattle.spans.proofs.Tree.{tree-none, tree-at, size-tree}
use Rattle.items.specs.declared.Item.{Item}
use Rattle.items.proofs.Items.{head_in, rest-is}
use Rattle.items.specs.Items.{item_words, item_count, words_of, item_of, header, item_at, span_of as item_span, values, holds, head_of, rest_of}
use Rattle.value.specs.declared.Scalar.{Scalar}
use Rattle.value.specs.declared.Scalar.TheVariants.{Null, Text, Int, Decimal, Float as FloatV, FloatBits, Bool as BoolV}
use Rattle.value.specs.Scalar.{tag_of}
use Rattle.walks.specs.Walk.{Many, never, times, Leaf, bad, leaf, Codec, how_many}
use Rattle.walks.specs.Reading.{Outcome, refused, read, Reader, bind, with_header, container, placed, scalar, pad, one, then_element, elements, table, field, then_entry, seq}
use Rattle.walks.specs.Kinds.{State, kinds, start}
use Rattle.walks.specs.Records.{Decoded, decoded, asking, outcome, reader_asks, decode_record}
use Rattle.walks.specs.Records as Records
use Rattle.layout.specs.Layout.{depends_in}
use Rattle.window.specs.Pair.{is_top, items_for, items_before, is_summable, summed, values_from}
use Rattle.window.specs.Own.{Own, OwnItem}

-- ---- whole items

abbrev Full : List ℕ → Type 0
Full ws = length ws % item_words ≡ 0

full-both : (ws vs : List ℕ) → Full ws → Full vs → Full (ws ++ vs)
full-both ws vs h k = omega (arith, length-append ws vs)

-- one item with all that stands below it
pub record One (Q : Item → Type 0) (ws : List ℕ) : Type 0 where
  pub item : Item
  pub below : List ℕ
  pub words : ws ≡ words_of item ++ below
  pub whole : Full below
  pub span : item_span item ≡ item_count below + 1
  pub good : Q item

one-full : (Q : Item → Type 0) (ws : List ℕ) → One Q ws → Full ws
one-full Q ws o = omega (arith, ap length o.words, length-append (words_of o.item) o.below, o.whole)

-- ---- items behind an item

module _ {A : Type 0} (at : ℕ → A) (span : A → ℕ) (c : ℕ) where
  end-shift : (n lo hi : ℕ) → end_of n (c + lo) (c + hi) ≡ c + end_of n lo hi
  end-shift n lo hi = omega arith

  shifted : (f lo hi : ℕ) → tree_in f at span (c + lo) (c + hi) ≡ tree_in f (λ i. at (c + i)) span lo hi
  unfolding tree_in
  shifted zero lo hi = refl
  shifted (suc f) lo hi = go (dec_lt lo hi) (λ a b. shifted f a b)
    where
      go : Dec (lo < hi) → ((a b : ℕ) → tree_in f at span (c + a) (c + b) ≡ tree_in f (λ i. at (c + i)) span a b) → tree_in (suc f) at span (c + lo) (c + hi) ≡ tree_in (suc f) (λ i. at (c + i)) span lo hi
      go (yes h) ih =
          let e : end_of (span (at (c + lo))) (c + lo) (c + hi) ≡ c + end_of (span (at (c + lo))) lo hi = end-shift (span (at (c + lo))) lo hi in
          let d : suc (c + lo) ≡ c + suc lo = omega arith in
          rw (lt-ltb (c + lo) (c + hi) (omega arith), lt-ltb lo hi h)
          (ap₂ (λ m n. node (at (c + lo)) m n)
          (ap₂ (λ x y. tree_in f at span x y) d e ∙ ih (suc lo) (end_of (span (at (c + lo))) lo hi))
          (ap (λ x. tree_in f at span x (c + hi)) e ∙ ih (end_of (span (at (c + lo))) lo hi) hi))
      go (no h) ih = rw (le-ltb (c + lo) (c + hi) (omega arith), le-ltb lo hi (omega arith))

module _ (ws vs : List ℕ) (c : ℕ) (long : length ws ≡ c * item_words) where
  word-behind : (n m : ℕ) → n ≡ length ws + m → get_or (ws ++ vs) n 0 ≡ get_or vs m 0
  word-behind n m e = ap (λ j. get_or (ws ++ vs) j 0) e ∙ get_or-append-add ws vs m 0

  item-behind : (i : ℕ) → item_at (ws ++ vs) (c + i) ≡ item_at vs i
  item-behind i = λ t. record {
    name = word-behind ((c + i) * item_words) (i * item_words) (omega arith) t;
    tag = word-behind ((c + i) * item_words + 1) (i * item_words + 1) (omega arith) t;
    a = word-behind ((c + i) * item_words + 2) (i * item_words + 2) (omega arith) t;
    b = word-behind ((c + i) * item_words + 3) (i * item_words + 3) (omega arith) t;
  }

  values-behind : (n m : ℕ) → n ≡ c + m → values (ws ++ vs) c n ≡ values vs 0 m
  unfolding values tree
  values-behind n m h =
      let z : c ≡ c + 0 = omega arith in
      let d : n - c ≡ m - 0 = omega arith in
      ap₂ (λ x y. tree_in x (item_at (ws ++ vs)) item_span c y) d h ∙ ap (λ x. tree_in (m - 0) (item_at (ws ++ vs)) item_span x (c + m)) z
      ∙ shifted (item_at (ws ++ vs)) item_span c (m - 0) 0 m ∙ ap (λ (f : ℕ → Item). tree_in (m - 0) f item_span 0 m) (λ t i. item-behind i t)

module _ (Q : Item → Type 0) (ws vs : List ℕ) (o : One Q ws) (full : Full vs) where
  long : length ws ≡ item_words + length o.below
  long = ap length o.words ∙ length-append (words_of o.item) o.below

  count : item_count (ws ++ vs) ≡ item_count ws + item_count vs
  count = omega (arith, length-append ws vs, one-full Q ws o)

  first-is : o.item ≡ item_at (ws ++ vs) 0
  first-is = sym (ap (λ l. item_at (l ++ vs) 0) o.words)

  top_head : o.item ≡ head_of (values (ws ++ vs) 0 (item_count (ws ++ vs)))
  top_head = first-is ∙ head_in (ws ++ vs) 0 (item_count (ws ++ vs)) (omega (arith, count, long))

  top-rest : rest_of (values (ws ++ vs) 0 (item_count (ws ++ vs))) ≡ values vs 0 (item_count vs)
  top-rest =
      let w : item_count ws ≡ item_count o.below + 1 = omega (arith, long) in
      let e : item_count ws ≡ end_of (item_span o.item) 0 (item_count (ws ++ vs)) = span-ends (item_count ws) (item_span o.item) (item_count (ws ++ vs)) (omega (arith, w, o.span))
      (omega (arith, w)) (omega (arith, count)) in
      rest-is (ws ++ vs) 0 (item_count (ws ++ vs)) o.item (item_span o.item) (item_count ws) top_head refl e
      ∙ values-behind ws vs (item_count ws) (omega (arith, one-full Q ws o)) (item_count (ws ++ vs)) (item_count vs) count
    where
      span-ends : (a span n : ℕ) → a ≡ span → 1 ≤ a → a ≤ n → a ≡ end_of span 0 n
      span-ends a span n p q r = omega arith

-- ---- entries by number

-- the entry of a number, at the top level of a sequence
abbrev At : Tree Entry → ℕ → Entry → Type 0
At none i f = ⊥
At (node e ms rest) zero f = e ≡ f
At (node e ms rest) (suc i) f = At rest (i - size ms) f

module _ (l : List ℕ) (hi : ℕ) where
  top-none : (lo i : ℕ) → hi ≤ lo → is_top (part l lo hi) i ≡ true → At (part l lo hi) i (entry_at l (lo + i))
  unfolding is_top
  top-none lo i k h = absurd (false≢true (sym (ap (λ t. is_top t i) (tree-none (entry_at l) span_of lo hi k)) ∙ h))

  number-on : (lo en j n : ℕ) → lo + 1 ≤ en → n ≡ en - (lo + 1) → n ≤ j → en + (j - n) ≡ lo + suc j
  number-on lo en j n a b c = omega arith

  top-at : (fuel lo i : ℕ) → hi - lo ≤ fuel → is_top (part l lo hi) i ≡ true → At (part l lo hi) i (entry_at l (lo + i))
  unfolding is_top
  top-at zero lo i f h = top-none lo i (omega arith) h
  top-at (suc n) lo i f h = go (dec_lt lo hi) (λ lo' i'. top-at n lo' i')
    where
      go : Dec (lo < hi) → ((lo' i' : ℕ) → hi - lo' ≤ n → is_top (part l lo' hi) i' ≡ true → At (part l lo' hi) i' (entry_at l (lo' + i'))) → At (part l lo hi) i (entry_at l (lo + i))
      go (no k) ih = top-none lo i (omega arith) h
      go (yes k) ih = turn (end_of (span_of (entry_at l lo)) lo hi) refl (omega arith) i h
        where
          turn : (en : ℕ) → en ≡ end_of (span_of (entry_at l lo)) lo hi → lo + 1 ≤ en → (j : ℕ) → is_top (part l lo hi) j ≡ true → At (part l lo hi) j (entry_at l (lo + j))
          turn en q above zero t =
              let z : lo ≡ lo + 0 = omega arith in
              subst (λ x. At x zero (entry_at l (lo + 0))) (sym (tree-at (entry_at l) span_of lo hi (entry_at l lo) en k refl q)) (ap (entry_at l) z)
          turn en q above (suc j) t =
              let s : size (part l (lo + 1) en) ≡ en - (lo + 1) = size-tree (entry_at l) span_of (lo + 1) en in
              let u : (leb (size (part l (lo + 1) en)) j && is_top (part l en hi) (j - size (part l (lo + 1) en))) ≡ true =
              subst (λ x. is_top x (suc j) ≡ true) (tree-at (entry_at l) span_of lo hi (entry_at l lo) en k refl q) t in
              let b : size (part l (lo + 1) en) ≤ j = leb-true (size (part l (lo + 1) en)) j (and_left (leb (size (part l (lo + 1) en)) j) (is_top (part l en hi) (j - size (part l (lo + 1) en))) u) in
              subst (λ x. At x (suc j) (entry_at l (lo + suc j))) (sym (tree-at (entry_at l) span_of lo hi (entry_at l lo) en k refl q))
              (subst (λ m. At (part l en hi) (j - size (part l (lo + 1) en)) (entry_at l m)) (number-on lo en j (size (part l (lo + 1) en)) above s b)
              (ih en (j - size (part l (lo + 1) en)) (omega arith) (and_right (leb (size (part l (lo + 1) en)) j) (is_top (part l en hi) (j - size (part l (lo + 1) en))) u)))

-- ---- what an outcome yields

module _ {S : Type 0} where
  pub data Yields (P : List ℕ → Type 0) : Outcome S → Type 0 where
    nothing : (n : ℕ) → Yields P (refused n)
    yields : (ws : List ℕ) (m t : ℕ) (s : S) → P ws → Yields P (read ws m t s)

  by : {P : List ℕ → Type 0} (b : Bool) {o o' : Outcome S} → (b ≡ true → Yields P o) → (b ≡ false → Yields P o') → Yields P (cond b o o')
  by true f g = f refl
  by false f g = g refl

  weaker : {P Q : List ℕ → Type 0} {o : Outcome S} → ((ws : List ℕ) → P ws → Q ws) → Yields P o → Yields Q o
  weaker f (nothing n) = nothing n
  weaker f (yields ws m t s p) = yields ws m t s (f ws p)

  then : {P Q : List ℕ → Type 0} {o : Outcome S} {f : List ℕ → ℕ → ℕ → S → Outcome S} → Yields P o → ((ws : List ℕ) (m t : ℕ) (s : S) → P ws → Yields Q (f ws m t s)) → Yields Q (bind o f)
  then (nothing n) g = nothing n
  then (yields ws m t s p) g = g ws m t s p

  element : {P Q : List ℕ → Type 0} (ws : List ℕ) (m t : ℕ) {o : Outcome S} → ((vs : List ℕ) → P vs → Q (ws ++ vs)) → Yields P o → Yields Q (then_element ◌+◌ ws m t o)
  element ws m t f (nothing n) = nothing n
  element ws m t f (yields vs n u s p) = yields (ws ++ vs) (m + n) (t + u) s (f vs p)

  entry : {P Q : List ℕ → Type 0} (ws : List ℕ) (m stop : ℕ) {o : Outcome S} → ((vs : List ℕ) → P vs → Q (ws ++ vs)) → Yields P o → Yields Q (then_entry ws m stop o)
  entry ws m stop f (nothing n) = nothing n
  entry ws m stop f (yields vs n u s p) = yields (ws ++ vs) (m + n) (max stop u) s (f vs p)

  -- a List or Struct is one item
  headed : (Q : Item → Type 0) (name tag : ℕ) → holds tag ≡ true → ((it : Item) → Q it) → {o : Outcome S} → Yields Full o → Yields (One Q) (with_header name tag o)
  headed Q name tag h q (nothing n) = nothing n
  headed Q name tag h q (yields ws m t s p) =
      yields (words_of (header name tag m (item_count ws + 1)) ++ ws) 1 t s
      (record { item = header name tag m (item_count ws + 1); below = ws; words = refl; whole = p; span = rw h; good = q (header name tag m (item_count ws + 1)) })

  contained : (Q : Item → Type 0) (name tag : ℕ) → holds tag ≡ true → ((it : Item) → Q it) → (f : Reader S) (at room : ℕ) (s : S) → Yields Full (f at (room - item_words) s) → Yields (One Q)
      (container name tag f at room s)
  unfolding container
  contained Q name tag h q f at room s y = by (leb item_words room) (λ _. headed Q name tag h q y) (λ _. nothing 16)

-- no scalar has members
alone-tag : (v : Scalar) → holds (tag_of v) ≡ false
alone-tag Null = refl
alone-tag (Text a b) = refl
alone-tag (Int n s) = refl
alone-tag (Decimal n s c) = refl
alone-tag (FloatV x) = refl
alone-tag (FloatBits x) = refl
alone-tag (BoolV b) = refl

-- ---- the walk

module _ {S : Type 0} (k : Codec S) (r : List ℕ) where
  -- an entry that is one scalar
  pub record Lone (e : Entry) : Type 0 where
    pub single : unrepeated e ≡ true
    pub no_group : is_group e ≡ false
    pub no_pad : is_pad e ≡ false

  abbrev Owned : Entry → Item → Type 0
  Owned e it = Lone e → Own k r e it

  module _ (e : Entry) where
    placed_one : (name : ℕ) (once : Bool) (at room : ℕ) (s : S) (x : Leaf S) → ((v : Scalar) (s' : S) → x ≡ leaf v s' → Owned e (item_of name v)) → Yields (One (Owned e))
        (placed name once e.width room x)
    placed_one name once at room s (bad n) f = nothing n
    placed_one name once at room s (leaf v s') f =
        by (once || leb 1 e.width)
        (λ _. by (leb item_words room)
        (λ _. yields (words_of (item_of name v)) 1 e.width s'
        (record { item = item_of name v; below = []; words = sym (append-nil (words_of (item_of name v))); whole = refl; span = rw (alone-tag v); good = f v s' refl })) (λ _. nothing 16))
        (λ _. nothing 10)

    scalar-one : (once : Bool) (at room : ℕ) (s : S) → Yields (One (Owned e)) (scalar k r e e.name once at room s)
    unfolding scalar
    scalar-one once at room s =
        by (leb (at + e.width) (length r))
        (λ h. placed_one e.name once at room s (k.dec e (take e.width (drop at r)) s)
        (λ v s' q _. record { at = at; scalar = v; before = s; after = s'; inside = leb-true (at + e.width) (length r) h; says = q; is = refl })) (λ _. nothing 7)

    -- an element under another name, of a table
    element-full : (name : ℕ) (once : Bool) (at room : ℕ) (s : S) → Yields Full (scalar k r e name once at room s)
    unfolding scalar
    element-full name once at room s = by (leb (at + e.width) (length r)) (λ _. go (k.dec e (take e.width (drop at r)) s)) (λ _. nothing 7)
      where
        go : (x : Leaf S) → Yields Full (placed name once e.width room x)
        go (bad n) = nothing n
        go (leaf v s') = by (once || leb 1 e.width) (λ _. by (leb item_words room) (λ _. yields (words_of (item_of name v)) 1 e.width s' refl) (λ _. nothing 16)) (λ _. nothing 10)

    pad-none : (at room : ℕ) (s : S) → Yields (λ ws. ws ≡ []) (pad r e at room s)
    unfolding pad
    pad-none at room s = by (leb (at + e.width) (length r)) (λ _. yields [] 0 e.width s refl) (λ _. nothing 7)

    module _ (inner : Reader S) (inside : (at room : ℕ) (s : S) → Yields Full (inner at room s)) where
      one-any : (name : ℕ) (once : Bool) (at room : ℕ) (s : S) → Yields Full (one k r e inner name once at room s)
      unfolding one
      one-any name once at room s =
          by (is_group e) (λ _. weaker (one-full (λ _. ℕ)) (contained (λ _. ℕ) name 7 refl (λ _. 0) inner at room s (inside at (room - item_words) s)))
          (λ _. by (is_pad e) (λ _. weaker (λ ws z. ap (λ l. length l % item_words) z) (pad-none at room s)) (λ _. element-full name once at room s))

      elements-full : (f : Reader S) → ((at room : ℕ) (s : S) → Yields Full (f at room s)) → (n at room : ℕ) (s : S) → Yields Full (elements ◌+◌ f n at room s)
      unfolding elements
      elements-full f g zero at room s = yields [] 0 0 s refl
      elements-full f g (suc n) at room s =
          then (g at room s) (λ ws m t s' p. by (eqb t 0) (λ _. nothing 10) (λ _. element ws m t (λ vs q. full-both ws vs p q) (elements-full f g n (at + t) (room - length ws) s')))

      -- of Pads nothing is left
      elements-none : (f : Reader S) → ((at room : ℕ) (s : S) → Yields (λ ws. ws ≡ []) (f at room s)) → (n at room : ℕ) (s : S) → Yields (λ ws. ws ≡ []) (elements ◌+◌ f n at room s)
      unfolding elements
      elements-none f g zero at room s = yields [] 0 0 s refl
      elements-none f g (suc n) at room s =
          then (g at room s) (λ ws m t s' p. by (eqb t 0) (λ _. nothing 10) (λ _. element ws m t (λ vs q. ap₂ (λ a b. a ++ b) p q) (elements-none f g n (at + t) (room - length ws) s')))

      pad-one : is_pad e ≡ true → is_group e ≡ false → (name : ℕ) (once : Bool) (at room : ℕ) (s : S) → Yields (λ ws. ws ≡ []) (one k r e inner name once at room s)
      unfolding one
      pad-one p g name once at room s = rw (g, p) (pad-none at room s)

      -- one entry of a sequence: nothing of a Pad, else one item
      abbrev Field : List ℕ → Type 0
      Field ws = (is_pad e ≡ true → ws ≡ []) × (is_pad e ≡ false → One (Owned e) ws)

      as_none : is_pad e ≡ true → {o : Outcome S} → Yields (λ ws. ws ≡ []) o → Yields Field o
      as_none p = weaker (λ ws z. ((λ _. z), (λ q. absurd (false≢true (sym q ∙ p)))))

      as_one : is_pad e ≡ false → {o : Outcome S} → Yields (One (Owned e)) o → Yields Field o
      as_one p = weaker (λ ws z. ((λ q. absurd (false≢true (sym p ∙ q))), (λ _. z)))

      pad-no-group : is_pad e ≡ true → is_group e ≡ false
      unfolding is_pad
      pad-no-group h = ap (λ n. eqb n 9) (eqb-true e.kind 6 h)

      single-field : unrepeated e ≡ true → (at room : ℕ) (s : S) → Yields Field (one k r e inner e.name true at room s)
      unfolding one
      single-field u at room s = go (is_pad e) refl
        where
          go : (b : Bool) → is_pad e ≡ b → Yields Field (one k r e inner e.name true at room s)
          go true p = as_none p (pad-one p (pad-no-group p) e.name true at room s)
          go false p = as_one p (lone (is_group e) refl)
            where
              lone : (b : Bool) → is_group e ≡ b → Yields (One (Owned e)) (one k r e inner e.name true at room s)
              lone true g = rw g (contained (Owned e) e.name 7 refl (λ it l. absurd (false≢true (sym l.no_group ∙ g))) inner at room s (inside at (room - item_words) s))
              lone false g = rw (g, p) (scalar-one true at room s)

      table-field : unrepeated e ≡ false → (m : Many) (at room : ℕ) (s : S) → Yields Field (table ◌+◌ e (one k r e inner 65536 false) m at room s)
      table-field u (never n) at room s = nothing n
      table-field u (times n) at room s =
          by (is_pad e) (λ p. as_none p (elements-none (one k r e inner 65536 false) (pad-one p (pad-no-group p) 65536 false) n at room s))
          (λ p. as_one p (contained (Owned e) e.name 6 refl (λ it l. absurd (false≢true (sym u ∙ l.single))) (elements ◌+◌ (one k r e inner 65536 false) n) at room s
          (elements-full (one k r e inner 65536 false) (one-any 65536 false) n at (room - item_words) s)))

      field-yields : (at room : ℕ) (s : S) → Yields Field (field ◌+◌ k r e inner at room s)
      unfolding field
      field-yields at room s = by (unrepeated e) (λ u. single-field u at room s) (λ u. table-field u (how_many k.held e s) at room s)

      field-full : (ws : List ℕ) → Field ws → Full ws
      field-full ws f = go (is_pad e) refl
        where
          go : (b : Bool) → is_pad e ≡ b → Full ws
          go true p = ap (λ l. length l % item_words) (f.0 p)
          go false p = one-full (Owned e) ws (f.1 p)

  -- ---- a sequence

  abbrev Place : Tree Entry → List ℕ → ℕ → Entry → Type 0
  Place t ws i f = At t i f → Lone f → Own k r f (head_of (values_from (items_before t i) (values ws 0 (item_count ws))))

  abbrev Places : Tree Entry → List ℕ → Type 0
  Places t ws = Full ws × ((i : ℕ) (f : Entry) → Place t ws i f)

  module _ (e : Entry) (ms rest : Tree Entry) (inner : Reader S) (inside : (at room : ℕ) (s : S) → Yields Full (inner at room s)) (ws vs : List ℕ) (h : Field e inner inside ws)
      (p : Places rest vs) where
    place : (i : ℕ) (f : Entry) → Place (node e ms rest) (ws ++ vs) i f
    unfolding items_before values_from
    place zero f q l =
        let o : One (Owned e) ws = h.1 (ap is_pad q ∙ l.no_pad) in
        subst (λ g. Own k r g (head_of (values (ws ++ vs) 0 (item_count (ws ++ vs))))) q
        (subst (λ it. Own k r e it) (top_head (Owned e) ws vs o p.0) (o.good (subst Lone (sym q) l)))
    place (suc i) f q l = go (is_pad e) refl
      where
        go : (b : Bool) → is_pad e ≡ b → Own k r f (head_of (values_from (items_for e + items_before rest (i - size ms)) (values (ws ++ vs) 0 (item_count (ws ++ vs)))))
        go true t =
            let z : items_for e + items_before rest (i - size ms) ≡ items_before rest (i - size ms) = ap (λ b. cond b 0 1 + items_before rest (i - size ms)) t ∙ omega arith in
            subst (λ m. Own k r f (head_of (values_from m (values (ws ++ vs) 0 (item_count (ws ++ vs)))))) (sym z)
            (subst (λ us. Own k r f (head_of (values_from (items_before rest (i - size ms)) (values (us ++ vs) 0 (item_count (us ++ vs)))))) (sym (h.0 t)) (p.1 (i - size ms) f q l))
        go false t =
            let z : items_for e + items_before rest (i - size ms) ≡ suc (items_before rest (i - size ms)) = ap (λ b. cond b 0 1 + items_before rest (i - size ms)) t ∙ omega arith in
            subst (λ m. Own k r f (head_of (values_from m (values (ws ++ vs) 0 (item_count (ws ++ vs)))))) (sym z)
            (subst (λ us. Own k r f (head_of (values_from (items_before rest (i - size ms)) us))) (sym (top-rest (Owned e) ws vs (h.1 t) p.0)) (p.1 (i - size ms) f q l))

    places : Places (node e ms rest) (ws ++ vs)
    places = (full-both ws vs (field-full e inner inside ws h) p.0, place)

  seq-full : (t : Tree Entry) (base shift room : ℕ) (s : S) → Yields Full (seq ◌+◌ k r t base shift room s)
  unfolding seq
  seq-full none base shift room s = yields [] 0 0 s refl
  seq-full (node e ms rest) base shift room s =
      then (field-yields e (λ b n u. seq ◌+◌ k r ms b 0 n u) (λ b n u. seq-full ms b 0 n u) (base + (e.offset + shift)) room s)
      (λ ws m t s' h. entry ws m (e.offset + shift + t) (λ vs q. full-both ws vs (field-full e (λ b n u. seq ◌+◌ k r ms b 0 n u) (λ b n u. seq-full ms b 0 n u) ws h) q)
      (seq-full rest base (shift + (t - reserved_width e)) (room - length ws) s'))

  seq-places : (t : Tree Entry) (base shift room : ℕ) (s : S) → Yields (Places t) (seq ◌+◌ k r t base shift room s)
  unfolding seq
  seq-places none base shift room s = yields [] 0 0 s (refl, (λ i f q l. absurd q))
  seq-places (node e ms rest) base shift room s =
      then (field-yields e (λ b n u. seq ◌+◌ k r ms b 0 n u) (λ b n u. seq-full ms b 0 n u) (base + (e.offset + shift)) room s)
      (λ ws m t s' h. entry ws m (e.offset + shift + t) (λ vs q. places e ms rest (λ b n u. seq ◌+◌ k r ms b 0 n u) (λ b n u. seq-full ms b 0 n u) ws vs h q)
      (seq-places rest base (shift + (t - reserved_width e)) (room - length ws) s'))

-- ---- the record that was read

use-yields : {P : List ℕ → Type 0} {o : Outcome State} → Yields P o → (ws t : List ℕ) → outcome o ≡ decoded ws t → P ws
use-yields (nothing n) ws t e = let z : ◌≡◌ {A = ℕ} 0 1 = cc in absurd (omega arith)
use-yields {P = P} (yields vs m u s p) ws t e = let z : vs ≡ ws = cc in subst P z p

read-so : (n : ℕ) (d : Decoded) (ws t : List ℕ) → asking Records.refused n d ≡ decoded ws t → d ≡ decoded ws t
read-so n d ws t e = go (eqb n 0) refl
  where
    go : (b : Bool) → eqb n 0 ≡ b → d ≡ decoded ws t
    go true h = rw h at e
    go false h =
        let f : Records.refused n ≡ decoded ws t = rw h at e in
        let z : ◌≡◌ {A = ℕ} 0 1 = cc in
        absurd (omega arith)

summable-alone : (e : Entry) → is_summable e ≡ true → (unrepeated e ≡ true) × ((is_group e ≡ false) × (is_pad e ≡ false))
unfolding is_summable is_pad
summable-alone e h =
    let k : e.kind ≡ 7 = eqb-true e.kind 7 (and_right (unrepeated e) (eqb e.kind 7) h) in
    (and_left (unrepeated e) (eqb e.kind 7) h, (ap (λ n. eqb n 9) k, ap (λ n. eqb n 6) k))

pub own-item : OwnItem
unfolding decode_record summed
own-item l masks page r items text work ws t i e h =
    let o : outcome (seq ◌+◌ (kinds masks page [] text) r (entries l) 0 0 items start) ≡ decoded ws t =
    read-so (reader_asks l masks page (length r) work (depends_in l)) (outcome (seq ◌+◌ (kinds masks page [] text) r (entries l) 0 0 items start)) ws t e in
    let a : is_top (entries l) i ≡ true = and_left (is_top (entries l) i) (is_summable (entry_at l i)) h in
    let d : (unrepeated (entry_at l i) ≡ true) × ((is_group (entry_at l i) ≡ false) × (is_pad (entry_at l i) ≡ false)) = summable-alone (entry_at l i)
    (and_right (is_top (entries l) i) (is_summable (entry_at l i)) h) in
    let z : 0 + i ≡ i = omega arith in
    let at : At (entries l) i (entry_at l i) = subst (λ n. At (entries l) i (entry_at l n)) z (top-at l (entry_count l) (entry_count l) 0 i (omega arith) a) in
    (use-yields (seq-places (kinds masks page [] text) r (entries l) 0 0 items start) ws t o).1 i (entry_at l i) at (record { single = d.0; no_group = d.1.0; no_pad = d.1.1 })
