-- The walk with sums that stop and a state of its own, and the plain walk, come to the same: positions are the same or both past every
-- record, the states stand for each other, and all else is equal. Each level of nesting costs 2^32 of the 2^63 at which sums stop,
-- since reserved bytes are below 2^32.
use mathlib.Core.Path.{◌≡◌, refl, sym, ap, ◌∙◌}
use mathlib.Core.Bool.{Bool, true, false, ◌&&◌, ◌||◌, cond, false≢true}
use mathlib.Core.Logic.{◌⊎◌, inl, inr}
use mathlib.Core.List.{List, [], ◌++◌}
use Prim.Native.Nat.{ℕ, zero, suc, ◌+◌, ◌-◌, ◌*◌, ◌≤◌, max}
use native.Mathlib.Omega.{arith}
use lib.Dec.{eqb, leb}
use lib.ListN.{length, take, drop}
use borrow.Author.Tests.{lt-leb, leb-true, leb-false, ne_eqb}
use Rattle.layout.specs.declared.Entry.{Entry}
use Rattle.layout.specs.Layout.{is_group, reserved_width, span_of, unrepeated, is_pad}
use Rattle.spans.specs.Tree.{Tree, none, node, size, span_ok, nested}
use Rattle.lists.proofs.Logic.{and_left, and_right}
use Rattle.value.specs.declared.Scalar.{Scalar}
use Rattle.items.specs.Items.{item_words, item_count, words_of, item_of, header}
use Rattle.walks.specs.Walk.{Many, never, times, Leaf, bad, leaf, Codec, how_many}
use Rattle.walks.specs.Reading as R
use Rattle.walks.specs.Reading.{Outcome, refused, read, Reader, bind, with_header, container, placed, scalar, pad, one, then_entry}
use Rattle.positions.specs.Positions.{sat_sum, sat}

-- ---- numbers that are the same, or both from k on

abbrev pub Far : ℕ → ℕ → ℕ → Type 0
Far k x y = (x ≡ y) ⊎ ((k ≤ x) × (k ≤ y))

pub far-lower : {k : ℕ} (k' x y : ℕ) → k' ≤ k → Far k x y → Far k' x y
far-lower k' x y h (inl e) = inl e
far-lower k' x y h (inr p) = inr (omega (arith, h, p.0), omega (arith, h, p.1))

far-add : {k : ℕ} {a a' b b' : ℕ} → Far k a a' → Far k b b' → Far k (a + b) (a' + b')
far-add (inl e) (inl f) = inl (omega (arith, e, f))
far-add (inl e) (inr q) = inr (omega (arith, q.0), omega (arith, q.1))
far-add (inr p) f = inr (omega (arith, p.0), omega (arith, p.1))

far-sat : {k : ℕ} {x y : ℕ} → k ≤ 9223372036854775808 → Far k x y → Far k (sat x) y
far-sat {k} {x} {y} h (inr p) = inr (omega (arith, h, p.0), p.1)
far-sat {k} {x} {y} h (inl e) = go (leb x 9223372036854775808) refl
  where
    go : (b : Bool) → leb x 9223372036854775808 ≡ b → Far k (sat x) y
    go true q = inl (omega (arith, leb-true x 9223372036854775808 q, e))
    go false q = inr (omega (arith, leb-false x 9223372036854775808 q, h), omega (arith, leb-false x 9223372036854775808 q, h, e))

far-sum : {k : ℕ} {a a' b b' : ℕ} → k ≤ 9223372036854775808 → Far k a a' → Far k b b' → Far k (sat (a + b)) (a' + b')
far-sum h p q = far-sat h (far-add p q)

far-less : {k : ℕ} (k' r : ℕ) {x y : ℕ} → k' + r ≤ k → Far k x y → Far k' (x - r) (y - r)
far-less k' r h (inl e) = inl (ap (λ n. n - r) e)
far-less k' r h (inr p) = inr (omega (arith, h, p.0), omega (arith, h, p.1))

far-max : {k : ℕ} {a a' b b' : ℕ} → Far k a a' → Far k b b' → Far k (max a b) (max a' b')
far-max (inl e) (inl f) = inl (omega (arith, e, f))
far-max (inl e) (inr q) = inr (omega (arith, q.0), omega (arith, q.1))
far-max (inr p) f = inr (omega (arith, p.0), omega (arith, p.1))

-- positions that are past every record
abbrev pub past : ℕ
past = 4294967296

-- ---- outcomes

module _ {T S : Type 0} (Rel : T → S → Type 0) where
  pub data Alike (k : ℕ) : Outcome T → Outcome S → Type 0 where
    both-refused : (n : ℕ) → Alike k (refused n) (refused n)
    both_read : (ws : List ℕ) (m t t' : ℕ) (s : T) (s' : S) → Far k t t' → Rel s s' → Alike k (read ws m t s) (read ws m t' s')

  pub data Alike-leaf : Leaf T → Leaf S → Type 0 where
    both-bad : (n : ℕ) → Alike-leaf (bad n) (bad n)
    both-leaf : (v : Scalar) (s : T) (s' : S) → Rel s s' → Alike-leaf (leaf v s) (leaf v s')

  -- two readers that come to the same at positions that are the same, or both past every record
  abbrev Agree : ℕ → Reader T → Reader S → Type 0
  Agree k f g = (at at' room : ℕ) (s : T) (s' : S) → Far past at at' → Rel s s' → Alike k (f at room s) (g at' room s')

  by : (k : ℕ) (b : Bool) {o o' : Outcome T} {p p' : Outcome S} → (b ≡ true → Alike k o p) → (b ≡ false → Alike k o' p') → Alike k (cond b o o') (cond b p p')
  by k true f g = f refl
  by k false f g = g refl

  bind-alike : {k k' : ℕ} {o : Outcome T} {p : Outcome S} {F : List ℕ → ℕ → ℕ → T → Outcome T} {G : List ℕ → ℕ → ℕ → S → Outcome S} → Alike k o p
      → ((ws : List ℕ) (m t t' : ℕ) (s : T) (s' : S) → Far k t t' → Rel s s' → Alike k' (F ws m t s) (G ws m t' s')) → Alike k' (bind o F) (bind p G)
  bind-alike (both-refused n) f = both-refused n
  bind-alike (both_read ws m t t' s s' h r) f = f ws m t t' s s' h r

  header-alike : {k : ℕ} (name tag : ℕ) {o : Outcome T} {p : Outcome S} → Alike k o p → Alike k (with_header name tag o) (with_header name tag p)
  header-alike name tag (both-refused n) = both-refused n
  header-alike name tag (both_read ws m t t' s s' h r) = both_read (words_of (header name tag m (item_count ws + 1)) ++ ws) 1 t t' s s' h r

  entry-after : {k : ℕ} (ws : List ℕ) (m : ℕ) {a b : ℕ} {o : Outcome T} {p : Outcome S} → Far k a b → Alike k o p → Alike k (then_entry ws m a o) (then_entry ws m b p)
  entry-after ws m f (both-refused n) = both-refused n
  entry-after ws m {a} {b} f (both_read vs n t t' s s' h r) = both_read (ws ++ vs) (m + n) (max a t) (max b t') s s' (far-max f h) r

  element-after : {k : ℕ} (ws : List ℕ) (m : ℕ) {a b : ℕ} {o : Outcome T} {p : Outcome S} → k ≤ 9223372036854775808 → Far k a b → Alike k o p → Alike k (R.then_element sat_sum ws m a o) (R.then_element ◌+◌ ws m b p)
  element-after ws m c f (both-refused n) = both-refused n
  element-after ws m {a} {b} c f (both_read vs n t t' s s' h r) = both_read (ws ++ vs) (m + n) (sat (a + t)) (b + t') s s' (far-sum c f h) r

  placed_alike : {k : ℕ} (name : ℕ) (once : Bool) (width room : ℕ) {x : Leaf T} {y : Leaf S} → Alike-leaf x y → Alike k (placed name once width room x) (placed name once width room y)
  placed_alike name once width room (both-bad n) = both-refused n
  placed_alike {k} name once width room (both-leaf v s s' r) =
      by k (once || leb 1 width) (λ _. by k (leb item_words room) (λ _. both_read (words_of (item_of name v)) 1 width width s s' (inl refl) r) (λ _. both-refused 16)) (λ _. both-refused 10)

  -- ---- one element

  module _ (kt : Codec T) (ks : Codec S) (bytes : List ℕ) (short : length bytes ≤ 65536) (e : Entry)
      (reads : (bs : List ℕ) (s : T) (s' : S) → Rel s s' → Alike-leaf (kt.dec e bs s) (ks.dec e bs s')) where
    scalar-agrees : (k name : ℕ) (once : Bool) → Agree k (scalar kt bytes e name once) (scalar ks bytes e name once)
    unfolding scalar
    scalar-agrees k name once at at' room s s' (inl q) r = rw (← q)
        (by k (leb (at + e.width) (length bytes)) (λ _. placed_alike name once e.width room (reads (take e.width (drop at bytes)) s s' r)) (λ _. both-refused 7))
    scalar-agrees k name once at at' room s s' (inr p) r =
        rw (lt-leb (at + e.width) (length bytes) (omega (arith, short, p.0)), lt-leb (at' + e.width) (length bytes) (omega (arith, short, p.1))) (both-refused 7)

    pad-agrees : (k : ℕ) → Agree k (pad bytes e) (pad bytes e)
    unfolding pad
    pad-agrees k at at' room s s' (inl q) r = rw (← q) (by k (leb (at + e.width) (length bytes)) (λ _. both_read [] 0 e.width e.width s s' (inl refl) r) (λ _. both-refused 7))
    pad-agrees k at at' room s s' (inr p) r =
        rw (lt-leb (at + e.width) (length bytes) (omega (arith, short, p.0)), lt-leb (at' + e.width) (length bytes) (omega (arith, short, p.1))) (both-refused 7)

    container-agrees : (k name tag : ℕ) (f : Reader T) (g : Reader S) → Agree k f g → Agree k (container name tag f) (container name tag g)
    unfolding container
    container-agrees k name tag f g a at at' room s s' h r = by k (leb item_words room) (λ _. header-alike name tag (a at at' (room - item_words) s s' h r)) (λ _. both-refused 16)

    one-agrees : (k name : ℕ) (once : Bool) (f : Reader T) (g : Reader S) → Agree k f g → Agree k (one kt bytes e f name once) (one ks bytes e g name once)
    unfolding one
    one-agrees k name once f g a at at' room s s' h r =
        by k (is_group e) (λ _. container-agrees k name 7 f g a at at' room s s' h r)
        (λ _. by k (is_pad e) (λ _. pad-agrees k at at' room s s' h r) (λ _. scalar-agrees k name once at at' room s s' h r))

    -- ---- tables

    took : {k t t' : ℕ} → 1 ≤ k → Far k t t' → eqb t 0 ≡ eqb t' 0
    took h (inl q) = ap (λ n. eqb n 0) q
    took {t = t} {t' = t'} h (inr p) = ne_eqb t 0 (λ z. omega (arith, p.0, h, z)) ∙ sym (ne_eqb t' 0 (λ z. omega (arith, p.1, h, z)))

    elements-agree : (k : ℕ) → past ≤ k → k ≤ 9223372036854775808 → (f : Reader T) (g : Reader S) → Agree k f g → (n : ℕ) → Agree k (R.elements sat_sum f n) (R.elements ◌+◌ g n)
    unfolding R.elements
    elements-agree k lo hi f g a zero at at' room s s' h r = both_read [] 0 0 0 s s' (inl refl) r
    elements-agree k lo hi f g a (suc n) at at' room s s' h r =
        bind-alike (a at at' room s s' h r) (λ ws m t t' u u' q w.
        rw (took (omega (arith, lo)) q)
        (by k (eqb t' 0) (λ _. both-refused 10)
        (λ _. element-after ws m hi q (elements-agree k lo hi f g a n (sat (at + t)) (at' + t') (room - length ws) u u' (far-sum (omega arith) h (far-lower past t t' lo q)) w))))

    table-agrees : (k : ℕ) → past ≤ k → k ≤ 9223372036854775808 → (f : Reader T) (g : Reader S) → Agree k f g → (m : Many) → Agree k (R.table sat_sum e f m) (R.table ◌+◌ e g m)
    table-agrees k lo hi f g a (never n) at at' room s s' h r = both-refused n
    table-agrees k lo hi f g a (times n) at at' room s s' h r =
        by k (is_pad e) (λ _. elements-agree k lo hi f g a n at at' room s s' h r) (λ _. container-agrees k e.name 6 (R.elements sat_sum f n) (R.elements ◌+◌ g n) (elements-agree k lo hi f g a n) at at' room s s' h r)

    module _ (counts : (s : T) (s' : S) → Rel s s' → how_many kt.held e s ≡ how_many ks.held e s') where
      field-agrees : (k : ℕ) → past ≤ k → k ≤ 9223372036854775808 → (f : Reader T) (g : Reader S) → Agree k f g → Agree k (R.field sat_sum kt bytes e f) (R.field ◌+◌ ks bytes e g)
      unfolding R.field
      field-agrees k lo hi f g a at at' room s s' h r =
          by k (unrepeated e) (λ _. one-agrees k e.name true f g a at at' room s s' h r)
          (λ _. rw (counts s s' r) (table-agrees k lo hi (one kt bytes e f 65536 false) (one ks bytes e g 65536 false) (one-agrees k 65536 false f g a) (how_many ks.held e s') at at' room s s' h r))

  -- ---- sequences

  -- what each entry of a tree is known to be
  abbrev pub Each : (Entry → Type 0) → Tree Entry → Type 0
  Each P none = Unit {0}
  Each P (node e members rest) = P e × (Each P members × Each P rest)

  pub record Told (kt : Codec T) (ks : Codec S) (e : Entry) : Type 0 where
    pub reads : (bs : List ℕ) (s : T) (s' : S) → Rel s s' → Alike-leaf (kt.dec e bs s) (ks.dec e bs s')
    pub counts : (s : T) (s' : S) → Rel s s' → how_many kt.held e s ≡ how_many ks.held e s'
    pub reserved : reserved_width e ≤ 4294967296

  -- 2^63 less 2^32 for each level
  abbrev pub level : ℕ → ℕ
  level n = 9223372036854775808 - n * 4294967296

  module _ (kt : Codec T) (ks : Codec S) (bytes : List ℕ) (short : length bytes ≤ 65536) where
    -- an entry in front of the rest
    entry-alike : (n : ℕ) → suc n ≤ 8 → (e : Entry) (members rest : Tree Entry) → Told kt ks e
        → Agree (level n) (λ b m s. R.seq sat_sum kt bytes members b 0 m s) (λ b m s. R.seq ◌+◌ ks bytes members b 0 m s)
        → ((base base' shift shift' room : ℕ) (s : T) (s' : S) → Far past base base' → Far (level (suc n)) shift shift' → Rel s s' → Alike (level (suc n)) (R.seq sat_sum kt bytes rest base shift room s) (R.seq ◌+◌ ks bytes rest base' shift' room s'))
        → (base base' shift shift' room : ℕ) (s : T) (s' : S) → Far past base base' → Far (level (suc n)) shift shift' → Rel s s'
        → Alike (level (suc n)) (R.seq sat_sum kt bytes (node e members rest) base shift room s) (R.seq ◌+◌ ks bytes (node e members rest) base' shift' room s')
    unfolding R.seq
    entry-alike n h e members rest told inner behind base base' shift shift' room s s' b f r =
        let k₁ : level (suc n) ≤ 9223372036854775808 = omega arith in
        let k₂ : past ≤ level (suc n) = omega arith in
        let k₃ : level (suc n) + 4294967296 ≤ level n = omega arith in
        let off : Far (level (suc n)) (sat (e.offset + shift)) (e.offset + shift') = far-sum k₁ (inl refl) f in
        bind-alike (field-agrees kt ks bytes short e told.reads told.counts (level n) (omega arith) (omega arith) (λ b m s. R.seq sat_sum kt bytes members b 0 m s) (λ b m s. R.seq ◌+◌ ks bytes members b 0 m s) inner
        (sat (base + sat (e.offset + shift))) (base' + (e.offset + shift')) room s s' (far-sum (omega arith) b (far-lower past (sat (e.offset + shift)) (e.offset + shift') k₂ off)) r)
        (λ ws m t t' u u' q w.
        entry-after ws m (far-sum k₁ off (far-lower (level (suc n)) t t' (omega (arith, k₃)) q))
        (behind base base' (sat (shift + (t - reserved_width e))) (shift' + (t' - reserved_width e)) (room - length ws) u u' b
        (far-sum k₁ f (far-less (level (suc n)) (reserved_width e) (omega (arith, k₃, told.reserved)) q)) w))

    pub seq-alike : (t : Tree Entry) (n : ℕ) → n ≤ 8 → nested span_of is_group n t ≡ true → Each (Told kt ks) t
        → (base base' shift shift' room : ℕ) (s : T) (s' : S) → Far past base base' → Far (level n) shift shift' → Rel s s'
        → Alike (level n) (R.seq sat_sum kt bytes t base shift room s) (R.seq ◌+◌ ks bytes t base' shift' room s')
    unfolding nested R.seq
    seq-alike none n h ok each = λ base base' shift shift' room s s' b f r. both_read [] 0 0 0 s s' (inl refl) r
    seq-alike (node e members rest) zero h ok each = absurd (false≢true ok)
    seq-alike (node e members rest) (suc n) h ok each =
        let both : (span_ok (span_of e) (is_group e) (size members) && nested span_of is_group n members) ≡ true = and_left (span_ok (span_of e) (is_group e) (size members) && nested span_of is_group n members) (nested span_of is_group (suc n) rest) ok in
        entry-alike n h e members rest each.0
        (λ at at' room s s' q r. seq-alike members n (omega (arith, h)) (and_right (span_ok (span_of e) (is_group e) (size members)) (nested span_of is_group n members) both) each.1.0 at at' 0 0 room s s' q (inl refl) r)
        (seq-alike rest (suc n) h (and_right (span_ok (span_of e) (is_group e) (size members) && nested span_of is_group n members) (nested span_of is_group (suc n) rest) ok) each.1.1)
