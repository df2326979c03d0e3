-- A List around its elements, a Struct around its members, and the ways of one element.
use mathlib.Core.Path.{◌≡◌, refl, sym, ap, ap₂, ◌∙◌}
use mathlib.Core.Bool.{Bool, true, false, ◌||◌, not, cond, false≢true}
use mathlib.Core.List.{List, ◌++◌}
use Prim.Native.Nat.{ℕ, ◌+◌, ◌-◌, ◌/◌, ◌<◌, ◌≤◌}
use native.Mathlib.Omega.{arith}
use lib.Dec.{eqb}
use lib.IntN.{ℤ}
use lib.ListN.{length, take, drop, length-drop}
use lib.Seq.{length-take-le, drop_at}
use borrow.Author.Tests.{eq-eqb, ne_eqb}
use Rattle.layout.specs.declared.Entry.{Entry}
use Rattle.spans.specs.Tree.{Tree}
use Rattle.lists.proofs.Logic.{and_left, and_right}
use Rattle.layout.proofs.Entries.{leaf-other}
use Rattle.items.specs.Items.{item_words, words_of, header}
use Rattle.walks.specs.Walk.{Codec, Many, times, how_many}
use Rattle.layout.specs.Layout.{is_group, unrepeated_leaf, unrepeated}
use Rattle.walks.specs.Reading.{Outcome, refused, read, Reader, with_header, container, one, table, field, seq}
use Rattle.positions.specs.Positions.{sat_sum}
use Rattle.decode_leaf.specs.declared.Out.{Out}
use Rattle.decode_leaf.specs.Counts.{held_in}
use Rattle.decode_leaf.specs.Machine.{Held, out, state, kept, leaf_at, bare, head_of, Listed, Fine}
use Rattle.decode.proofs.Steps.{inside-room, table-small, table_is, table-refused, turns, counts-to, field_is, field-refused, Capped, seq-most, one-most}
use Rattle.decode.proofs.Tail.{back}
use Rattle.decode.proofs.Turns.{Written, tail, returned, returned-same, room-left, TurnsInv, turns-done, header_is, header-drop}

pub fine-as : {o p : Outcome Held} {r : Out} {items buffer : List ℕ} {run : List ℤ} → o ≡ p → Fine p r items buffer run → Fine o r items buffer run
fine-as q f = record { is = q ∙ f.is; within = f.within; told = f.told; few = f.few }

-- ---- an entry's elements

module _ {once : Bool} {F : ℕ → Reader Held} {i₀ t₀ : List ℕ} {c₀ : List ℤ} {n at told head : ℕ} {items text : List ℕ} {counts : List ℤ} {k used members place taken told₁ : ℕ}
    (e : Entry) (v : TurnsInv once F i₀ t₀ c₀ n at told head items text counts k used members place taken told₁) (h : n ≤ k) (p : head ≡ head_of e) where
  abbrev Read-all : Outcome Held
  Read-all = read (drop head (take used items)) members taken (state counts told₁ text)

  abbrev Turned : Outcome Held
  Turned = turns once (F (length t₀)) n at (length i₀ - head) (state c₀ told t₀)

  used-in : used ≤ length items
  used-in = omega (arith, v.written.within, v.written.same)

  words-is : (b : Bool) → head ≡ cond b 0 item_words → cond b Read-all (with_header e.name 6 Read-all)
      ≡ read (take used (cond b items (words_of (header e.name 6 members (used / item_words)) ++ drop item_words items))) (cond b members 1) taken (state counts told₁ text)
  words-is true z = rw z refl
  words-is false z = rw z (header-drop e.name 6 members used items (omega (arith, v.few, z)) used-in taken (state counts told₁ text))

  length-is : (b : Bool) → head ≡ cond b 0 item_words → used ≤ length (cond b items (words_of (header e.name 6 members (used / item_words)) ++ drop item_words items))
  length-is true z = used-in
  length-is false z = omega (arith, length-drop item_words items, used-in)

  few-is : (b : Bool) → head ≡ cond b 0 item_words → cond b members 1 ≤ used
  few-is true z = omega (arith, v.few)
  few-is false z = omega (arith, v.few)

  pub listed-met : {o : Outcome Held} {r : Out} {after : List ℕ} → o ≡ cond (bare e) Turned (with_header e.name 6 Turned) → Listed e used members taken told₁ r items after → Fine o r after text counts
  listed-met {o} {r} {after} q w = rw (w.answer, w.is) (record {
    is = q ∙ ap (λ x. cond (bare e) x (with_header e.name 6 x)) (turns-done v h) ∙ words-is (bare e) p;
    within = length-is (bare e) p;
    told = v.fits;
    few = few-is (bare e) p;
  })

pub head-is : (e : Entry) (once : Bool) (head : ℕ) → once ≡ unrepeated e → head ≡ cond (once || eqb e.kind 6) 0 item_words → head ≡ head_of e
head-is e once head o p = p ∙ ap (λ b. cond {A = ℕ} (b || eqb e.kind 6) 0 item_words) o

-- a group is no Pad
pub head-group : (e : Entry) (once : Bool) (head : ℕ) → once ≡ unrepeated e → e.kind ≡ 9 → head ≡ cond (once || false) 0 item_words → head ≡ head_of e
head-group e once head o k p = p ∙ ap₂ (λ b c. cond {A = ℕ} (b || c) 0 item_words) o (sym (ap (λ n. eqb n 6) k))

-- how many elements, on the run alone
pub counted_is : (l : List ℕ) (page room : ℕ) (deps : Bool) (e : Entry) (counts : List ℤ) (told : ℕ) (text : List ℕ)
    → counts-to (kept l page room deps) e (state counts told text) ≡ cond (unrepeated e) (times 1) (how_many (λ name run. held_in l name run) e counts)
unfolding how_many
counted_is l page room deps e counts told text = refl

-- ---- one element

module _ (k : Codec Held) (r : List ℕ) (e : Entry) (inner : Reader Held) (name : ℕ) (once : Bool) (at room : ℕ) (s : Held) where
  pub one-leaf : (e.kind ≡ 9 → ⊥) → one k r e inner name once at room s ≡ leaf_at k r e name once at room s
  unfolding one
  one-leaf n = rw (ne_eqb e.kind 9 n) refl

  -- a group under a name
  pub one-group : {name' : ℕ} → e.kind ≡ 9 → name' ≡ name → one k r e inner name once at room s ≡ container name' 7 inner at room s
  unfolding one
  one-group p q = rw (eq-eqb e.kind 9 p, q) refl

-- ---- the ways of an entry: a single scalar or Pad, a table of them, a group

module _ (e : Entry) {b : Bool} (p : b ≡ unrepeated_leaf e) where
  pub lone_is : b ≡ true → unrepeated e ≡ true
  lone_is q = and_left (unrepeated e) (not (is_group e)) (sym p ∙ q)

  pub lone-kind : b ≡ true → e.kind ≡ 9 → ⊥
  lone-kind q z = false≢true (ap not (sym (eq-eqb e.kind 9 z)) ∙ and_right (unrepeated e) (not (is_group e)) (sym p ∙ q))

pub not-lone : (e : Entry) → (unrepeated_leaf e) ≡ false → (e.kind ≡ 9 → ⊥) → unrepeated e ≡ false
not-lone e p n = leaf-other e n refl ∙ p

module _ (k : Codec Held) (r : List ℕ) (e : Entry) (inner : Reader Held) (at room : ℕ) (s : Held) (n : e.kind ≡ 9 → ⊥) where
  pub field-lone : unrepeated e ≡ true → field sat_sum k r e inner at room s ≡ leaf_at k r e e.name true at room s
  unfolding field
  field-lone q = rw q (one-leaf k r e inner e.name true at room s n)

  field-table : unrepeated e ≡ false → field sat_sum k r e inner at room s ≡ table sat_sum e (leaf_at k r e 65536 false) (how_many k.held e s) at room s
  unfolding field
  field-table q = rw q (ap (λ f. table sat_sum e f (how_many k.held e s) at room s) (λ i a b c. one-leaf k r e inner 65536 false a b c n i))

pub scalars-table : (l : List ℕ) (page : ℕ) (deps : Bool) (r : List ℕ) (e : Entry) (inner : Reader Held) (at room : ℕ) (counts : List ℤ) (told : ℕ) (text : List ℕ) → (e.kind ≡ 9 → ⊥) → unrepeated e ≡ false
    → field sat_sum (kept l page (length text) deps) r e inner at room (state counts told text)
    ≡ table sat_sum e (leaf_at (kept l page (length text) deps) r e 65536 false) (how_many (λ name run. held_in l name run) e counts) at room (state counts told text)
unfolding how_many
scalars-table l page deps r e inner at room counts told text n q = field-table (kept l page (length text) deps) r e inner at room (state counts told text) n q

-- a table of scalars or Pads, f reading one, by how many there are
module _ (e : Entry) (f : Reader Held) (m : Many) (at room : ℕ) (s : Held) where
  module _ (n : ℕ) (q : times n ≡ m) (head : ℕ) (g : unrepeated e ≡ false) (p : head ≡ cond (false || eqb e.kind 6) 0 item_words) where
    counted : table sat_sum e f m at room s ≡ table sat_sum e f (times n) at room s
    counted = ap (λ x. table sat_sum e f x at room s) (sym q)

    headed : head ≡ head_of e
    headed = head-is e false head (sym g) p

    pub scalars-small : room < head → table sat_sum e f m at room s ≡ refused 16
    scalars-small h = counted ∙ table-small e f n at room s head g headed h

    module _ (h : head ≤ room) where
      pub scalars-are : table sat_sum e f m at room s ≡ cond (bare e) (turns false f n at (room - head) s) (with_header e.name 6 (turns false f n at (room - head) s))
      scalars-are = counted ∙ table_is e f n at room s head g headed h

      pub scalars-refused : (k : ℕ) → turns false f n at (room - head) s ≡ refused k → table sat_sum e f m at room s ≡ refused k
      scalars-refused k t = counted ∙ table-refused e f n at room s head g headed h k t

-- an element of a walk takes at most 2^63 bytes
pub element-most : (k : Codec Held) (r : List ℕ) (e : Entry) (t : Tree Entry) (name : ℕ) (once : Bool) (at room : ℕ) (s : Held) → e.width < 4294967296
    → Capped (one k r e (λ b n s. seq sat_sum k r t b 0 n s) name once at room s)
element-most k r e t name once at room s h = one-most k r e (λ b n s. seq sat_sum k r t b 0 n s) name once at room s (omega arith) (λ b n s. seq-most k r t b 0 n s)

module _ (k : Codec Held) (r : List ℕ) (e : Entry) (t : Tree Entry) (at room : ℕ) (s : Held) (head : ℕ) (p : head ≡ head_of e) (n : ℕ) (z : counts-to k e s ≡ times n)
    (once : Bool) (o : once ≡ unrepeated e) (h : head ≤ room) (w : e.width < 4294967296) where
  abbrev Members : Reader Held
  Members b n s = seq sat_sum k r t b 0 n s

  abbrev Turning : Outcome Held
  Turning = turns once (one k r e Members (cond once e.name 65536) once) n at (room - head) s

  pub entry-is : field sat_sum k r e Members at room s ≡ cond (bare e) Turning (with_header e.name 6 Turning)
  entry-is = field_is k r e Members at room s head p n z once o h (element-most k r e t (cond once e.name 65536) once at room s w)

  pub entry-refused : (m : ℕ) → Turning ≡ refused m → field sat_sum k r e Members at room s ≡ refused m
  entry-refused m q = field-refused k r e Members at room s head p n z once o h (element-most k r e t (cond once e.name 65536) once at room s w) m q

module _ (i : List ℕ) (h : item_words ≤ length i) (x : List ℕ) (same : length x ≡ length (tail i item_words)) where
  whole-written : Written i i item_words
  whole-written = record { within = h; same = refl }

  pub header-same : length (returned i item_words x) ≡ length i
  header-same = returned-same whole-written x same

  pub used-fits : {u : ℕ} → u ≤ length x → u + item_words ≤ length i
  used-fits g = omega (arith, g, same, room-left whole-written x same)

  behind-header : drop item_words (returned i item_words x) ≡ x
  behind-header = ap (drop item_words) (back i x item_words) ∙ drop_at (take item_words i) x item_words (length-take-le item_words i h)

  module _ (inner : Reader Held) (name at : ℕ) (s : Held) where
    pub inside_is : container name 7 inner at (length i) s ≡ with_header name 7 (inner at (length (tail i item_words)) s)
    inside_is = inside-room name 7 inner at (length i) s h ∙ ap (λ n. with_header name 7 (inner at n s)) (sym (room-left whole-written x same))

    pub inside-stops : (n : ℕ) → inner at (length (tail i item_words)) s ≡ refused n → container name 7 inner at (length i) s ≡ refused n
    inside-stops n e = inside_is ∙ ap (with_header name 7) e

    pub inside-done : {o : Outcome Held} {r : Out} {after text : List ℕ} {run : List ℤ} {name' : ℕ} → name' ≡ name → Fine (inner at (length (tail i item_words)) s) r x text run
        → after ≡ words_of (header name' 7 r.members ((r.used + item_words) / item_words)) ++ drop item_words (returned i item_words x) → o ≡ container name 7 inner at (length i) s
        → Fine o (out (r.used + item_words) 1 r.taken r.told) after text run
    inside-done {o} {r} {after} {text} {run} {name'} named f p' q =
        let p : after ≡ words_of (header name 7 r.members ((r.used + item_words) / item_words)) ++ drop item_words (returned i item_words x)
        = p' ∙ ap (λ y. words_of (header y 7 r.members ((r.used + item_words) / item_words)) ++ drop item_words (returned i item_words x)) named in
        let u : r.used + item_words - item_words ≡ r.used = omega arith in
        let z : take (r.used + item_words - item_words) (drop item_words (returned i item_words x)) ≡ take r.used x = ap₂ take u behind-header in
        record {
          is = q ∙ inside_is ∙ ap (with_header name 7) (f.is ∙ ap (λ ws. read ws r.members r.taken (state run r.told text)) (sym z))
              ∙ header_is name 7 r.members (r.used + item_words) (returned i item_words x) (omega arith) (omega (arith, used-fits f.within, header-same)) r.taken (state run r.told text)
              ∙ ap (λ ws. read (take (r.used + item_words) ws) 1 r.taken (state run r.told text)) (sym p);
          within = omega (arith, ap length p, ap length behind-header, f.within);
          told = f.told;
          few = omega arith;
        }
