-- What is written is read back: the parts of the walk.
use mathlib.Core.Path.{◌≡◌, refl, sym, ap, ◌∙◌}
use mathlib.Core.Bool.{Bool, true, false, cond}
use mathlib.Core.List.{List, [], ◌∷◌, ◌++◌}
use Prim.Native.Nat.{ℕ, suc, ◌+◌, ◌-◌, ◌*◌, ◌≤◌, max}
use native.Mathlib.Omega.{arith}
use lib.ListN.{length, take, drop, length-append}
use borrow.Author.Tests.{le-leb, ne_eqb}
use Rattle.lists.proofs.Logic.{or-true}
use Rattle.items.proofs.Flat.{flat-long}
use Rattle.layout.specs.declared.Entry.{Entry}
use Rattle.layout.specs.Layout.{is_group, present, reserved_width, unrepeated, is_pad}
use Rattle.spans.specs.Tree.{Tree, none, node, size}
use Rattle.items.specs.declared.Item.{Item}
use Rattle.items.specs.Items.{header, item_words, item_count, flat, words_of, item_of, scalar_in, Values, count, head_of, rest_of, lookup}
use Rattle.walks.specs.Walk.{times, at_most, how_many, leaf, bytes, Codec}
use Rattle.walks.specs.Reading as R
use Rattle.walks.specs.Reading.{Outcome, read, Reader}
use Rattle.walks.specs.Writing as W
use Rattle.walks.specs.Writing.{Put, reach, Wrote, wrote, Writer}
use Rattle.walks.specs.Needs as N
use Rattle.walks.specs.Needs.{Extent, Measure}
use Rattle.walks.specs.Fitting.{holder}
use Rattle.walks.proofs.Puts.{Asc, Held, asc-from, asc-append, reach-append, held-left, held-right}

span_of : (vs : Values) → item_count (flat vs) + 1 ≡ suc (size vs)
span_of vs = let e : length (flat vs) ≡ item_words * size vs = flat-long vs in omega arith

-- A part of the writer w, by the buffer's room, and a part of the reader f, by the record and the items' room, of the extent x. It lies from lo on and ends by
-- base + the bytes taken; it takes at least so many bytes; and what is written is read as the words ws, m items at their own level, with the state s behind it.
pub record Goes {S : Type 0} (w : ℕ → Wrote) (f : List ℕ → ℕ → Outcome S) (x : Extent) (lo base least : ℕ) (ws : List ℕ) (m : ℕ) (s : S) : Type 0 where
  pub puts : List Put
  pub writes : (room : ℕ) → reach puts ≤ room → w room ≡ wrote puts x.taken
  pub far : reach puts ≡ x.far
  pub above : Asc lo puts
  pub below : reach puts ≤ base + x.taken
  pub some : least ≤ x.taken
  pub reads : (r : List ℕ) (room : ℕ) → Held r puts → length ws ≤ room → f r room ≡ read ws m x.taken s

-- the same with another writer, reader and extent that come to the same
pub along : {S : Type 0} {w w' : ℕ → Wrote} {f f' : List ℕ → ℕ → Outcome S} {x x' : Extent} (lo lo' base least least' : ℕ) {ws : List ℕ} {m : ℕ} {s : S}
    → ((room : ℕ) → w' room ≡ w room) → ((r : List ℕ) (room : ℕ) → f' r room ≡ f r room) → x' ≡ x → lo' ≤ lo → least' ≤ least
    → Goes w f x lo base least ws m s → Goes w' f' x' lo' base least' ws m s
along {x = x} {x' = x'} lo lo' base least least' {ws = ws} {m = m} {s = s} p q e h l g =
    let t : x'.taken ≡ x.taken = ap (λ (y : Extent). y.taken) e in
    let u : x'.far ≡ x.far = ap (λ (y : Extent). y.far) e in
    record {
      puts = g.puts;
      writes = λ room d. p room ∙ g.writes room d ∙ ap (wrote g.puts) (sym t);
      far = g.far ∙ sym u;
      above = asc-from g.puts h g.above;
      below = omega (arith, g.below);
      some = omega (arith, g.some);
      reads = λ r room d n. q r room ∙ g.reads r room d n ∙ ap (λ (y : ℕ). read ws m y s) (sym t);
    }

-- the same with the items counted otherwise
pub counted : {S : Type 0} {w : ℕ → Wrote} {f : List ℕ → ℕ → Outcome S} {x : Extent} {lo base least : ℕ} {ws : List ℕ} (m m' : ℕ) {s : S}
    → m' ≡ m → Goes w f x lo base least ws m s → Goes w f x lo base least ws m' s
counted m m' e g = rw e g

-- the law of a scalar: it is written in as many bytes as the entry is wide, and read back
abbrev pub Law : {S : Type 0} → Codec S → Codec S → Entry → Item → S → S → Type 0
Law kw kr e it s s' =
    (bs : List ℕ) × (kw.enc e it ≡ bytes bs) × (length bs ≡ e.width) × (kr.dec e bs s ≡ leaf (scalar_in it) s') × (item_of it.name (scalar_in it) ≡ it)

-- the law of a Pad: whatever value stands there, it is written in as many bytes as the entry is wide
abbrev pub PadLaw : {S : Type 0} → Codec S → Type 0
PadLaw kw = (e : Entry) → is_pad e ≡ true → (it : Item) → (bs : List ℕ) × (kw.enc e it ≡ bytes bs) × (length bs ≡ e.width)

module _ {S : Type 0} (kw kr : Codec S) where
  pub scalar-goes : (e : Entry) (inw : ℕ → Writer) (inr : List ℕ → Reader S) (inm : Measure) (name : ℕ) (it : Item) (vs : Values) (once : Bool) (s s' : S) (at : ℕ)
      → it.name ≡ name → is_pad e ≡ false → is_group e ≡ false → 1 ≤ e.width → Law kw kr e it s s'
      → Goes (λ room. W.one kw room e (inw room) (node it none vs) at) (λ r room. R.one kr r e (inr r) name once at room s) (N.one e inm (node it none vs) at)
      at at 1 (words_of it) 1 s'
  unfolding R.one R.scalar W.one N.one
  scalar-goes e inw inr inm name it vs once s s' at n p g wide l =
      record {
        puts = record { at = at; bs = l.0 } ∷ [];
        writes = λ room h. rw (g, l.1, le-leb (at + length l.0) room (omega arith)) refl;
        far = rw g (omega (arith, l.2));
        above = (omega arith, tt);
        below = rw g (omega (arith, l.2));
        some = rw g wide;
        reads = λ r room h f.
            rw (
              g,
              p,
              le-leb (at + e.width) (length r) (omega (arith, h.0, l.2)),
              ap (λ n. take n (drop at r)) (sym l.2) ∙ h.1,
              l.3,
              le-leb 1 e.width wide,
              or-true once,
              le-leb item_words room f,
            ) (ap (λ (n : ℕ). read (words_of (item_of n (scalar_in it))) 1 e.width s') (sym n) ∙ ap (λ (x : Item). read (words_of x) 1 e.width s') l.4);
      }

  pub pad-goes : PadLaw kw → (e : Entry) (inw : ℕ → Writer) (inr : List ℕ → Reader S) (inm : Measure) (name : ℕ) (vs : Values) (once : Bool) (s : S) (at : ℕ)
      → is_pad e ≡ true → is_group e ≡ false → 1 ≤ e.width
      → Goes (λ room. W.one kw room e (inw room) vs at) (λ r room. R.one kr r e (inr r) name once at room s) (N.one e inm vs at) at at 1 [] 0 s
  unfolding R.one R.pad W.one N.one
  pad-goes law e inw inr inm name vs once s at p g wide =
      let l : (bs : List ℕ) × (kw.enc e (head_of vs) ≡ bytes bs) × (length bs ≡ e.width) = law e p (head_of vs) in
      record {
        puts = record { at = at; bs = l.0 } ∷ [];
        writes = λ room h. rw (g, l.1, le-leb (at + length l.0) room (omega arith)) refl;
        far = rw g (omega (arith, l.2));
        above = (omega arith, tt);
        below = rw g (omega (arith, l.2));
        some = rw g wide;
        reads = λ r room h f. rw (g, p, le-leb (at + e.width) (length r) (omega (arith, h.0, l.2))) refl;
      }

pub inside-goes : {S : Type 0} (name tag : ℕ) (w : ℕ → Wrote) (f : List ℕ → Reader S) (x : Extent) (lo base least : ℕ) (ns : Values) (s s' : S) (at : ℕ)
    → Goes w (λ r room. f r at room s) x lo base least (flat ns) (count ns) s'
    → Goes w (λ r room. R.container name tag (f r) at room s) x lo base least (words_of (holder name tag ns) ++ flat ns) 1 s'
unfolding R.container
inside-goes name tag w f x lo base least ns s s' at g =
    record {
      puts = g.puts;
      writes = g.writes;
      far = g.far;
      above = g.above;
      below = g.below;
      some = g.some;
      reads = λ r room h l.
          rw (le-leb item_words room (omega arith), g.reads r (room - item_words) h (omega arith))
          (ap (λ (n : ℕ). read (words_of (header name tag (count ns) n) ++ flat ns) 1 x.taken s') (span_of ns));
    }

-- no elements, and one more element
pub elements-none : {S : Type 0} (g : ℕ → Writer) (f : List ℕ → Reader S) (i : Measure) (vs : Values) (s : S) (at : ℕ)
    → Goes (λ room. W.elements (g room) 0 vs at) (λ r room. R.elements ◌+◌ (f r) 0 at room s) (N.elements i 0 vs at) at at 0 [] 0 s
unfolding W.elements R.elements N.elements
elements-none g f i vs s at = record { puts = []; writes = λ room h. refl; far = refl; above = tt; below = omega arith; some = omega arith; reads = λ r room h l. refl }

pub elements-more : {S : Type 0} (g : ℕ → Writer) (f : List ℕ → Reader S) (i : Measure) (n : ℕ) (vs : Values) (ws ws' : List ℕ) (m m' : ℕ) (s s₁ s' : S) (at : ℕ)
    → Goes (λ room. g room vs at) (λ r room. f r at room s) (i vs at) at at 1 ws m s₁
    → Goes (λ room. W.elements (g room) n (rest_of vs) (at + (i vs at).taken)) (λ r room. R.elements ◌+◌ (f r) n (at + (i vs at).taken) room s₁)
    (N.elements i n (rest_of vs) (at + (i vs at).taken)) (at + (i vs at).taken) (at + (i vs at).taken) 0 ws' m' s'
    → Goes (λ room. W.elements (g room) (suc n) vs at) (λ r room. R.elements ◌+◌ (f r) (suc n) at room s) (N.elements i (suc n) vs at) at at 0 (ws ++ ws') (m + m') s'
unfolding W.elements R.elements N.elements
elements-more g f i n vs ws ws' m m' s s₁ s' at x y =
    let ra : reach (x.puts ++ y.puts) ≡ max (reach x.puts) (reach y.puts) = reach-append x.puts y.puts in
    let la : length (ws ++ ws') ≡ length ws + length ws' = length-append ws ws' in
    record {
      puts = x.puts ++ y.puts;
      writes = λ room h. rw (x.writes room (omega arith), y.writes room (omega arith)) refl;
      far = omega (arith, x.far, y.far);
      above = asc-append at (at + (i vs at).taken) x.puts y.puts (omega arith) x.below x.above y.above;
      below = omega (arith, x.below, y.below);
      some = omega arith;
      reads = λ r room h l.
          rw (
            x.reads r room (held-left r x.puts y.puts h) (omega arith),
            ne_eqb (i vs at).taken 0 (omega (arith, x.some)),
            y.reads r (room - length ws) (held-right r x.puts y.puts h) (omega arith),
          ) refl;
    }

module _ {S : Type 0} (kw kr : Codec S) where
  -- one more entry of a sequence
  pub entry-goes : (e : Entry) (ms rest : Tree Entry) (all : Values) (lo base shift least₁ least : ℕ) (ws ws' : List ℕ) (m m' : ℕ) (s s₁ s' : S)
      → lo ≤ e.offset
      → (y : Extent) → y ≡ N.field e (λ vs b. N.seq ms vs b 0) (lookup e.name all) (base + (e.offset + shift))
      → Goes (λ room. W.field kw room e (λ vs b. W.seq kw room ms vs b 0) (lookup e.name all) (base + (e.offset + shift)))
      (λ r room. R.field ◌+◌ kr r e (λ b n c. R.seq ◌+◌ kr r ms b 0 n c) (base + (e.offset + shift)) room s) y (base + (e.offset + shift)) (base + (e.offset + shift)) least₁ ws m s₁
      → Goes (λ room. W.seq kw room rest all base (shift + (y.taken - reserved_width e))) (λ r room. R.seq ◌+◌ kr r rest base (shift + (y.taken - reserved_width e)) room s₁)
      (N.seq rest all base (shift + (y.taken - reserved_width e)))
      (base + (e.offset + reserved_width e + (shift + (y.taken - reserved_width e)))) base least ws' m' s'
      → Goes (λ room. W.seq kw room (node e ms rest) all base shift) (λ r room. R.seq ◌+◌ kr r (node e ms rest) base shift room s) (N.seq (node e ms rest) all base shift)
      (base + (lo + shift)) base (max least₁ least) (ws ++ ws') (m + m') s'
  unfolding W.seq R.seq N.seq
  entry-goes e ms rest all lo base shift least₁ least ws ws' m m' s s₁ s' from y ey x z =
      let ra : reach (x.puts ++ z.puts) ≡ max (reach x.puts) (reach z.puts) = reach-append x.puts z.puts in
      let la : length (ws ++ ws') ≡ length ws + length ws' = length-append ws ws' in
      rw (← ey)
      (record {
        puts = x.puts ++ z.puts;
        writes = λ room h. rw (x.writes room (omega arith), z.writes room (omega arith)) refl;
        far = omega (arith, x.far, z.far);
        above = asc-append (base + (lo + shift)) (base + (e.offset + reserved_width e + (shift + (y.taken - reserved_width e)))) x.puts z.puts
            (omega arith) (omega (arith, x.below)) (asc-from x.puts (omega arith) x.above) z.above;
        below = omega (arith, x.below, z.below);
        some = omega (arith, x.some, z.some);
        reads = λ r room h l.
            rw (x.reads r room (held-left r x.puts z.puts h) (omega arith), z.reads r (room - length ws) (held-right r x.puts z.puts h) (omega arith)) refl;
      })

  pub group-goes : (e : Entry) (inw : ℕ → Writer) (inr : List ℕ → Reader S) (inm : Measure) (name : ℕ) (ns vs : Values) (once : Bool) (s s' : S) (lo at least : ℕ)
      → is_group e ≡ true → at ≤ lo → Goes (λ room. inw room ns at) (λ r room. inr r at room s) (inm ns at) lo at least (flat ns) (count ns) s'
      → Goes (λ room. W.one kw room e (inw room) (node (holder name 7 ns) ns vs) at) (λ r room. R.one kr r e (inr r) name once at room s)
      (N.one e inm (node (holder name 7 ns) ns vs) at) at at least (words_of (holder name 7 ns) ++ flat ns) 1 s'
  unfolding R.one W.one N.one
  group-goes e inw inr inm name ns vs once s s' lo at least g h x =
      along lo at at least least (λ room. rw g refl) (λ r room. rw g refl) (rw g refl) h (omega arith)
      (inside-goes name 7 (λ room. inw room ns at) inr (inm ns at) lo at least ns s s' at x)

  pub field-one : (e : Entry) (inw : ℕ → Writer) (inr : List ℕ → Reader S) (inm : Measure) (v v' : Values) (s s' : S) (at least least' : ℕ) (ws : List ℕ) (m : ℕ)
      → unrepeated e ≡ true → v' ≡ v → least' ≤ least
      → Goes (λ room. W.one kw room e (inw room) v at) (λ r room. R.one kr r e (inr r) e.name true at room s) (N.one e inm v at) at at least ws m s'
      → Goes (λ room. W.field kw room e (inw room) v' at) (λ r room. R.field ◌+◌ kr r e (inr r) at room s) (N.field e inm v' at) at at least' ws m s'
  unfolding R.field W.field N.field
  field-one e inw inr inm v v' s s' at least least' ws m o q l x =
      along at at at least least' (λ room. rw (o, q) refl) (λ r room. rw o refl) (rw (o, q) refl) (omega arith) l x

  -- as many elements are written as are read
  same-many : (e : Entry) (s : S) (n : ℕ) (ns : Values) → how_many kr.held e s ≡ times n → count ns ≡ n → W.table_length e ns ≡ n
  unfolding how_many W.table_length
  same-many e s n ns h q = go (present e.depending) h
    where
      go : (d : Bool) → cond d (at_most e.occurs (kr.held e.depending s)) (times e.occurs) ≡ times n → cond d (count ns) e.occurs ≡ n
      go true h' = q
      go false h' = cc

  pub field-table : (e : Entry) (inw : ℕ → Writer) (inr : List ℕ → Reader S) (inm : Measure) (ns vs v' : Values) (s s' : S) (at least' : ℕ)
      → is_pad e ≡ false → unrepeated e ≡ false → how_many kr.held e s ≡ times (count ns) → v' ≡ node (holder e.name 6 ns) ns vs → least' ≤ 0
      → Goes (λ room. W.elements (W.one kw room e (inw room)) (count ns) ns at) (λ r room. R.elements ◌+◌ (R.one kr r e (inr r) 65536 false) (count ns) at room s)
      (N.elements (N.one e inm) (count ns) ns at) at at 0 (flat ns) (count ns) s'
      → Goes (λ room. W.field kw room e (inw room) v' at) (λ r room. R.field ◌+◌ kr r e (inr r) at room s) (N.field e inm v' at) at at least'
      (words_of (holder e.name 6 ns) ++ flat ns) 1 s'
  unfolding R.field W.field W.table N.field N.long
  field-table e inw inr inm ns vs v' s s' at least' p o n q l x =
      along at at at 0 least' (λ room. rw (o, q, same-many e s (count ns) ns n refl) refl) (λ r room. rw (o, n, p) refl) (rw (o, q, p) refl) (omega arith) l
      (inside-goes e.name 6 (λ room. W.elements (W.one kw room e (inw room)) (count ns) ns at) (λ r. R.elements ◌+◌ (R.one kr r e (inr r) 65536 false) (count ns))
      (N.elements (N.one e inm) (count ns) ns at) at at 0 ns s s' at x)

  pub seq-none : (all : Values) (lo base shift : ℕ) (s : S)
      → Goes (λ room. W.seq kw room none all base shift) (λ r room. R.seq ◌+◌ kr r none base shift room s) (N.seq none all base shift) lo base 0 [] 0 s
  unfolding W.seq R.seq N.seq
  seq-none all lo base shift s = record { puts = []; writes = λ room h. refl; far = refl; above = tt; below = omega arith; some = omega arith; reads = λ r room h l. refl }
