-- Demand 3.
use mathlib.Core.Path.{◌≡◌, refl, sym, ap, ◌∙◌}
use mathlib.Core.Bool.{Bool, true, false, ◌&&◌, ◌||◌, cond, false≢true}
use mathlib.Core.List.{List, [], ◌++◌, append-nil}
use Prim.Native.Nat.{ℕ, ◌+◌, ◌≤◌, min, max}
use native.Mathlib.Omega.{arith}
use lib.ListN.{length, take, replicate, length-append, length-replicate}
use lib.Seq.{take_at}
use lib.Dec.{eqb}
use borrow.Author.Tests.{le-leb}
use Rattle.lists.proofs.Logic.{or_right}
use Rattle.layout.specs.declared.Entry.{Entry}
use Rattle.layout.proofs.Laws.{lawful-asked}
use Rattle.layout.specs.Layout.{work_for, entries, record_length, depends_in, is_pad}
use Rattle.spans.specs.Tree.{Tree, none, node}
use Rattle.items.specs.declared.Item.{Item}
use Rattle.items.specs.Items.{item_count, Values, values, count, lookup}
use Rattle.items.proofs.Exact.{whole-count}
use Rattle.walks.specs.Walk.{Codec}
use Rattle.walks.specs.Kinds.{State, start, kinds}
use Rattle.walks.specs.Reading as R
use Rattle.walks.specs.Writing as W
use Rattle.walks.specs.Writing.{reach, apply}
use Rattle.walks.specs.Records.{most, decode_record, decoded, found, supplied, writer_asks, encode_record, encoded}
use Rattle.walks.specs.Plain.{plain}
use Rattle.walks.specs.Fitting.{holder, sequence, Fits, done, pads, scalar, group, table, Fitting}
use Rattle.walks.specs.Needs as N
use Rattle.walks.specs.Needs.{needed}
use Rattle.walks.specs.Demand.{Kept, Demand3}
use Rattle.walks.proofs.Puts.{Held, apply-length, apply-held, held-front}
use Rattle.walks.proofs.Plainly.{least, plain-lawful, plain-tree}
use Rattle.walks.proofs.Goes.{Goes}
use Rattle.items.specs.Items.{flat}
use Rattle.walks.proofs.Trip.{trip, looks-self, self-found}
use Rattle.items.proofs.Flat.{flat-values}
use Rattle.walks.proofs.Scalars.{scalar-law, pad-law}

-- ---- question 12: every top-level name but Pads is supplied

found_first : (it : Item) (ms vs : Values) (name : ℕ) → it.name ≡ name → found (lookup name (node it ms vs)) ≡ true
found_first it ms vs name n = ap found (self-found it name ms vs n)

found-more : (it : Item) (ms vs : Values) (name : ℕ) → found (lookup name vs) ≡ true → found (lookup name (node it ms vs)) ≡ true
unfolding lookup
found-more it ms vs name h = go (eqb it.name name)
  where
    go : (b : Bool) → found (cond b (node it ms vs) (lookup name vs)) ≡ true
    go true = refl
    go false = h

supplied-more : (t : Tree Entry) (it : Item) (ms vs : Values) → supplied t vs ≡ true → supplied t (node it ms vs) ≡ true
unfolding supplied
supplied-more none it ms vs h = refl
supplied-more (node e es rest) it ms vs h = both (is_pad e) (found (lookup e.name vs)) (supplied rest vs) h (λ q. found-more it ms vs e.name q) (λ q. supplied-more rest it ms vs q)
  where
    both : (a b c : Bool) → ((a || b) && c) ≡ true → (b ≡ true → found (lookup e.name (node it ms vs)) ≡ true) → (c ≡ true → supplied rest (node it ms vs) ≡ true)
        → ((a || found (lookup e.name (node it ms vs))) && supplied rest (node it ms vs)) ≡ true
    both true b true h f g = g refl
    both true b false h f g = absurd (false≢true h)
    both false true true h f g = rw (f refl, g refl) refl
    both false true false h f g = absurd (false≢true h)
    both false false c h f g = absurd (false≢true h)

module _ (masks source : List ℕ) where
  all-supplied : {t : Tree Entry} {vs : Values} {s s' : State} → Fits masks source (sequence t) vs s s' → supplied t vs ≡ true
  unfolding supplied
  all-supplied done = refl
  all-supplied (pads p x) = rw (p, all-supplied x) refl
  all-supplied (scalar {e} {ms} {rest} {it} {vs} p o g n k x) =
      rw (found_first it none vs e.name n, or_right (is_pad e) true refl, supplied-more rest it none vs (all-supplied x)) refl
  all-supplied (group {e} {ms} {rest} {ns} {vs} p o g x y) =
      rw (found_first (holder e.name 7 ns) ns vs e.name refl, or_right (is_pad e) true refl, supplied-more rest (holder e.name 7 ns) ns vs (all-supplied y)) refl
  all-supplied (table {e} {ms} {rest} {ns} {vs} p o n x y) =
      rw (found_first (holder e.name 6 ns) ns vs e.name refl, or_right (is_pad e) true refl, supplied-more rest (holder e.name 6 ns) ns vs (all-supplied y)) refl

-- ---- the two calls

module _ (l masks : List ℕ) (page : ℕ) (items text : List ℕ) (p : plain l masks page ≡ true) (f : Fitting l masks items text) (small : needed l items ≤ most) where
  abbrev vs : Values
  vs = values items 0 (item_count items)

  abbrev kw : Codec State
  kw = kinds masks page text 0

  module _ (text_room : ℕ) (enough : length text ≤ text_room) where
    abbrev kr : Codec State
    kr = kinds masks page [] text_room

    goes : Goes (λ room. W.seq kw room (entries l) vs 0 0) (λ r room. R.seq ◌+◌ kr r (entries l) 0 0 room start) (N.seq (entries l) vs 0 0) (0 + (0 + 0)) 0 (least (entries l)) (flat vs) (count vs) f.counts
    goes = trip kw kr (pad-law masks page text 0 text_room enough) (λ e s. refl) masks text (λ e it s g. scalar-law masks page text 0 text_room enough e it s g)
        f.fits 0 0 0 vs (plain-tree l masks page p) (looks-self (entries l) vs)

  self : length text ≤ length text
  self = omega arith

  abbrev ps : List W.Put
  ps = (goes (length text) self).puts

  abbrev size : ℕ
  size = max (record_length l) (reach ps)

  size-needed : size ≡ needed l items
  unfolding needed
  size-needed = ap (max (record_length l)) (goes (length text) self).far

  abbrev record-bytes : List ℕ
  record-bytes = apply ps (replicate size 0)

  zeros-long : length (replicate {A = ℕ} size 0) ≡ size
  zeros-long = length-replicate size 0

  bytes-are : length record-bytes ≡ size
  bytes-are = apply-length ps (replicate size 0) (omega (arith, zeros-long)) ∙ zeros-long

  writes : (room work : ℕ) → needed l items ≤ room → work_for l ≤ work → encode_record l masks page items text room work ≡ encoded record-bytes
  unfolding encode_record writer_asks
  writes room work h k =
      rw (
        lawful-asked l masks page work (plain-lawful l masks page p) k,
        f.well_formed,
        all-supplied masks text f.fits,
        le-leb (record_length l) (min room most) (omega (arith, size-needed)),
        (goes (length text) self).writes (min room most) (omega (arith, size-needed)),
      ) refl

  -- the same puts, whatever the room of the text buffer
  same-puts : (text_room : ℕ) (enough : length text ≤ text_room) → (goes text_room enough).puts ≡ ps
  same-puts text_room enough =
      ap puts_of (sym ((goes text_room enough).writes size (omega (arith, (goes text_room enough).far, (goes (length text) self).far))) ∙ (goes (length text) self).writes size (omega arith))
    where
      puts_of : W.Wrote → List W.Put
      puts_of (W.refused n) = []
      puts_of (W.wrote qs t) = qs

  take_whole : take size record-bytes ≡ record-bytes
  take_whole = ap (take size) (sym (append-nil record-bytes)) ∙ take_at record-bytes [] size bytes-are

  holds : (more : List ℕ) → Held (record-bytes ++ more) ps
  holds more = held-front size record-bytes (record-bytes ++ more) ps
      (take_whole ∙ sym (take_at record-bytes more size bytes-are)) (omega (arith, length-append record-bytes more, bytes-are)) (omega arith)
      (apply-held (0 + (0 + 0)) ps (replicate size 0) (goes (length text) self).above (omega (arith, zeros-long)))

  reads : (more : List ℕ) (item_room text_room work : ℕ) → length record-bytes + length more ≤ most → length items ≤ item_room → length text ≤ text_room → work_for l ≤ work
      → decode_record l masks page (record-bytes ++ more) item_room text_room work ≡ decoded items text
  unfolding decode_record
  reads more item_room text_room work h i t k =
      let n : length (record-bytes ++ more) ≡ length record-bytes + length more = length-append record-bytes more in
      let w : flat vs ≡ items = flat-values items (whole-count items (length text) f.well_formed) in
      let lw : length (flat vs) ≡ length items = ap (λ (x : List ℕ). length x) w in
      rw (
        lawful-asked l masks page work (plain-lawful l masks page p) k,
        le-leb (length (record-bytes ++ more)) most (omega arith),
        le-leb (record_length l) (length (record-bytes ++ more)) (omega (arith, bytes-are)),
        or_right (depends_in l) true refl,
        (goes text_room t).reads (record-bytes ++ more) item_room (rw (same-puts text_room t) (holds more)) (omega arith),
      )
      (ap (λ (x : List ℕ). decoded x f.counts.text) w ∙ ap (decoded items) f.texts)

  pub kept : Kept l masks page items text
  kept = record { bytes = record-bytes; long = bytes-are ∙ size-needed; written = writes; read_back = reads }

-- For every plain layout, either page, and every fitting list that needs at most 65,536 bytes: writing accepts, and reading returns the same list, whatever stands behind.
pub demand-3 : Demand3
demand-3 l masks page items text p f small = kept l masks page items text p f small
