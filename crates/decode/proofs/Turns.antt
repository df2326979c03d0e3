-- The invariants of the two loops, and what a turn makes of them; the items of Lists and Structs around what was read.
use mathlib.Core.Path.{◌≡◌, refl, sym, ap, ap₂, ◌∙◌}
use mathlib.Core.Bool.{Bool, true, false, ◌&&◌, not}
use mathlib.Core.List.{List, [], ◌++◌}
use Prim.Native.Nat.{ℕ, ◌+◌, ◌-◌, ◌/◌, ◌<◌, ◌≤◌, max}
use native.Mathlib.Omega.{arith}
use lib.Dec.{eqb}
use lib.IntN.{ℤ}
use lib.ListN.{length, take, drop, length-drop, length-take, drop_of_length-le}
use lib.Seq.{length-take-le, drop-append-le, take-append-add}
use Rattle.layout.specs.declared.Entry.{Entry}
use Rattle.layout.specs.Layout.{entry_at, part, reserved_width, unrepeated}
use Rattle.spans.specs.Tree.{end_of}
use Rattle.walks.specs.Walk.{Codec}
use Rattle.items.specs.Items.{item_words, item_count, words_of, header}
use Rattle.walks.specs.Reading.{Outcome, refused, read, Reader, with_header, then_entry, then_element, field, seq}
use Rattle.walks.proofs.Single.{single-reserves}
use Rattle.decode_leaf.specs.declared.Out.{Out}
use Rattle.positions.specs.Positions.{sat_sum, sat}
use Rattle.decode_leaf.specs.Machine.{Held, out, state, leaf_at, Fine}
use Rattle.decode.proofs.Steps.{follow-none, follow-end, follow-follow, behind-none, behind-end, behind-behind, seq_end, seq-refused, seq-read, turns, turns-end, turns-refused, turns-empty, turns-read, leaf-takes}
use Rattle.lists.proofs.Part.{drop-take}
use Rattle.lists.proofs.Scan.{tail-part}
use Rattle.decode.proofs.Tail.{back, back-length, back-take}

-- ---- a tail lent and come back

-- what the items are: `used` words written
pub record Written (i₀ items : List ℕ) (used : ℕ) : Type 0 where
  pub within : used ≤ length i₀
  pub same : length items ≡ length i₀

-- the part lent to a callee from `used` on, and what the items are once it is back
abbrev pub tail : List ℕ → ℕ → List ℕ
tail items used = take (length items - used) (drop used items)

abbrev pub returned : List ℕ → ℕ → List ℕ → List ℕ
returned items used ys = take used items ++ (ys ++ drop (length items - used) (drop used items))

module _ {i₀ items : List ℕ} {used : ℕ} (w : Written i₀ items used) (ys : List ℕ) (same : length ys ≡ length (tail items used)) where
  within' : used ≤ length items
  within' = omega (arith, w.within, w.same)

  pub room-left : length (tail items used) ≡ length i₀ - used
  room-left = ap length (tail-part items used) ∙ length-drop used items ∙ omega (arith, w.same)

  same' : length ys ≡ length (drop used items)
  same' = same ∙ ap length (tail-part items used)

  pub returned-same : length (returned items used ys) ≡ length items
  returned-same = ap length (back items ys used) ∙ back-length items ys used 0 within' same'

  pub returned-take : (u : ℕ) → take (used + u) (returned items used ys) ≡ take used items ++ take u ys
  returned-take u = ap (take (used + u)) (back items ys used) ∙ back-take items ys used u within' same'

  pub returned-written : (u : ℕ) → u ≤ length ys → Written i₀ (returned items used ys) (used + u)
  returned-written u h = record { within = omega (arith, h, same, room-left, w.within); same = returned-same ∙ w.same }

ap₃ : {A B C D : Type 0} (f : A → B → C → D) {a a' : A} {b b' : B} {c c' : C} → a ≡ a' → b ≡ b' → c ≡ c' → f a b c ≡ f a' b' c'
ap₃ f p q r = λ i. f (p i) (q i) (r i)

-- ---- the loop of a sequence: K gives the codec for a text buffer of so many bytes

pub record SeqInv (K : ℕ → Codec Held) (r l i₀ t₀ : List ℕ) (c₀ : List ℤ) (lo hi base told : ℕ) (items text : List ℕ) (counts : List ℤ) (i used members shift far told₁ : ℕ) : Type 0 where
  pub whole : seq sat_sum (K (length t₀)) r (part l lo hi) base 0 (length i₀) (state c₀ told t₀)
      ≡ then_entry (take used items) members far (seq sat_sum (K (length t₀)) r (part l i hi) base shift (length i₀ - used) (state counts told₁ text))
  pub written : Written i₀ items used
  pub texts : length text ≡ length t₀
  pub kept : length counts ≡ length c₀
  pub fits : told₁ ≤ length text
  pub few : members ≤ used
  pub past : lo ≤ i
  pub capped : shift ≤ 9223372036854775808

pub seq-starts : (K : ℕ → Codec Held) (r l i₀ t₀ : List ℕ) (c₀ : List ℤ) (lo hi base told : ℕ) → told ≤ length t₀ → SeqInv K r l i₀ t₀ c₀ lo hi base told i₀ t₀ c₀ lo 0 0 0 0 told
seq-starts K r l i₀ t₀ c₀ lo hi base told h = record {
  whole = (let z : length i₀ - 0 ≡ length i₀ = omega arith in follow-none (seq sat_sum (K (length t₀)) r (part l lo hi) base 0 (length i₀) (state c₀ told t₀)) ∙ ap (λ n. then_entry [] 0 0 (seq sat_sum (K (length t₀)) r (part l lo hi) base 0 n (state c₀ told t₀))) (sym z));
  written = record { within = omega arith; same = refl };
  texts = refl;
  kept = refl;
  fits = h;
  few = omega arith;
  past = omega arith;
  capped = omega arith;
}

module _ {K : ℕ → Codec Held} {r l i₀ t₀ : List ℕ} {c₀ : List ℤ} {lo hi base told : ℕ} {items text : List ℕ} {counts : List ℤ} {i used members shift far told₁ : ℕ}
    (v : SeqInv K r l i₀ t₀ c₀ lo hi base told items text counts i used members shift far told₁) where
  abbrev Seq-whole : Outcome Held
  Seq-whole = seq sat_sum (K (length t₀)) r (part l lo hi) base 0 (length i₀) (state c₀ told t₀)

  pub seq-done : hi ≤ i → Fine Seq-whole (out used members far told₁) items text counts
  seq-done h = record {
    is = v.whole ∙ ap (then_entry (take used items) members far) (seq_end (K (length t₀)) r l i hi base shift (length i₀ - used) (state counts told₁ text) h) ∙ follow-end (take used items) members far (state counts told₁ text);
    within = omega (arith, v.written.within, v.written.same);
    told = v.fits;
    few = v.few;
  }

  module _ (e : Entry) (en off at : ℕ) (h : i < hi) (p : e ≡ entry_at l i) (q : en ≡ end_of e.span i hi) (o1 : off ≡ sat (e.offset + shift)) (o2 : at ≡ sat (base + off))
      (ys : List ℕ) (same : length ys ≡ length (tail items used)) where
    abbrev pub called : Outcome Held
    called = field sat_sum (K (length text)) r e (λ b n s. seq sat_sum (K (length text)) r (part l (i + 1) en) b 0 n s) at (length (tail items used)) (state counts told₁ text)

    called_is : called ≡ field sat_sum (K (length t₀)) r e (λ b n s. seq sat_sum (K (length t₀)) r (part l (i + 1) en) b 0 n s) (sat (base + sat (e.offset + shift))) (length i₀ - used) (state counts told₁ text)
    called_is = ap₃ (λ m a n. field sat_sum (K m) r e (λ b n s. seq sat_sum (K m) r (part l (i + 1) en) b 0 n s) a n (state counts told₁ text))
        v.texts (o2 ∙ ap (λ x. sat (base + x)) o1) (room-left v.written ys same)

    pub seq_stops : (n : ℕ) → called ≡ refused n → Seq-whole ≡ refused n
    seq_stops n f = v.whole ∙ ap (then_entry (take used items) members far)
        (seq-refused (K (length t₀)) r l i hi base shift (length i₀ - used) (state counts told₁ text) e en h p q n (sym called_is ∙ f))

    module _ (o : Out) (text' : List ℕ) (counts' : List ℤ) (f : Fine called o ys text' counts') where
      grown : {res grown shift' : ℕ} → res ≡ reserved_width e → grown ≡ o.taken - res → shift' ≡ sat (shift + grown) → shift' ≡ sat (shift + (o.taken - reserved_width e))
      grown r1 r2 r3 = r3 ∙ ap (λ x. sat (shift + x)) (r2 ∙ ap (λ x. o.taken - x) r1)

      further : {end' far' : ℕ} → end' ≡ sat (off + o.taken) → far' ≡ max far end' → far' ≡ max far (sat (sat (e.offset + shift) + o.taken))
      further r4 r5 = r5 ∙ ap (max far) (r4 ∙ ap (λ x. sat (x + o.taken)) o1)

      pub seq-goes : (res grown shift' end' far' : ℕ) → length text' ≡ length text → length counts' ≡ length counts
          → res ≡ reserved_width e → grown ≡ o.taken - res → shift' ≡ sat (shift + grown) → end' ≡ sat (off + o.taken) → far' ≡ max far end'
          → SeqInv K r l i₀ t₀ c₀ lo hi base told (returned items used ys) text' counts' en (used + o.used) (members + o.members) shift' far' o.told
      seq-goes res grows shift' end' far' ht hc r1 r2 r3 r4 r5 =
          let z : length i₀ - used - length (take o.used ys) ≡ length i₀ - (used + o.used) = omega (arith, length-take-le o.used ys f.within) in
          record {
            whole = v.whole
                ∙ ap (then_entry (take used items) members far) (seq-read (K (length t₀)) r l i hi base shift (length i₀ - used) (state counts told₁ text) e en h p q (take o.used ys) o.members o.taken (state counts' o.told text') (sym called_is ∙ f.is))
                ∙ follow-follow (take used items) (take o.used ys) members o.members far (sat (sat (e.offset + shift) + o.taken))
                (seq sat_sum (K (length t₀)) r (part l en hi) base (sat (shift + (o.taken - reserved_width e))) (length i₀ - used - length (take o.used ys)) (state counts' o.told text'))
                ∙ ap₂ (λ ws x. then_entry ws (members + o.members) x (seq sat_sum (K (length t₀)) r (part l en hi) base (sat (shift + (o.taken - reserved_width e))) (length i₀ - used - length (take o.used ys)) (state counts' o.told text')))
                (sym (returned-take v.written ys same o.used)) (sym (further r4 r5))
                ∙ ap₂ (λ x y. then_entry (take (used + o.used) (returned items used ys)) (members + o.members) far' (seq sat_sum (K (length t₀)) r (part l en hi) base x y (state counts' o.told text')))
                (sym (grown r1 r2 r3)) z;
            written = returned-written v.written ys same o.used f.within;
            texts = ht ∙ v.texts;
            kept = hc ∙ v.kept;
            fits = f.told;
            few = omega (arith, v.few, f.few);
            past = omega (arith, v.past, h);
            capped = omega (arith, r3);
          }

      -- one scalar or Pad takes its reserved bytes, and the shift stays
      pub seq-passes : unrepeated e ≡ true → called ≡ leaf_at (K (length text)) r e e.name true at (length (tail items used)) (state counts told₁ text)
          → (end' far' : ℕ) → length text' ≡ length text → length counts' ≡ length counts → end' ≡ sat (off + o.taken) → far' ≡ max far end'
          → SeqInv K r l i₀ t₀ c₀ lo hi base told (returned items used ys) text' counts' en (used + o.used) (members + o.members) shift far' o.told
      seq-passes sg q end' far' ht hc r4 r5 =
          let w : o.taken ≡ e.width = (leaf-takes (K (length text)) r e e.name true at (length (tail items used)) (state counts told₁ text) (take o.used ys) o.members o.taken (state counts' o.told text') (sym q ∙ f.is)).0 in
          seq-goes (reserved_width e) (o.taken - reserved_width e) shift end' far' ht hc refl refl (omega (arith, w, single-reserves e sg, v.capped)) r4 r5

-- ---- the loop of an entry, whose elements stand behind `head` words

pub record TurnsInv (once : Bool) (F : ℕ → Reader Held) (i₀ t₀ : List ℕ) (c₀ : List ℤ) (n at told head : ℕ) (items text : List ℕ) (counts : List ℤ) (k used members place taken told₁ : ℕ) : Type 0 where
  pub whole : turns once (F (length t₀)) n at (length i₀ - head) (state c₀ told t₀)
      ≡ then_element sat_sum (drop head (take used items)) members taken (turns once (F (length t₀)) (n - k) place (length i₀ - used) (state counts told₁ text))
  pub written : Written i₀ items used
  pub texts : length text ≡ length t₀
  pub kept : length counts ≡ length c₀
  pub fits : told₁ ≤ length text
  pub few : members + head ≤ used
  pub capped : taken ≤ 9223372036854775808

drop-taken : (n : ℕ) (xs : List ℕ) → drop n (take n xs) ≡ []
drop-taken n xs = drop_of_length-le (take n xs) {i = n} (omega (arith, length-take n xs))

pub turns-starts : (once : Bool) (F : ℕ → Reader Held) (i₀ t₀ : List ℕ) (c₀ : List ℤ) (n at told head : ℕ) → told ≤ length t₀ → head ≤ length i₀
    → TurnsInv once F i₀ t₀ c₀ n at told head i₀ t₀ c₀ 0 head 0 at 0 told
turns-starts once F i₀ t₀ c₀ n at told head h g = record {
  whole = (let z : n ≡ n - 0 = omega arith in behind-none once (F (length t₀)) n at (length i₀ - head) (state c₀ told t₀)
      ∙ ap₂ (λ ws m. then_element sat_sum ws 0 0 (turns once (F (length t₀)) m at (length i₀ - head) (state c₀ told t₀))) (sym (drop-taken head i₀)) z);
  written = record { within = g; same = refl };
  texts = refl;
  kept = refl;
  fits = h;
  few = omega arith;
  capped = omega arith;
}

module _ {once : Bool} {F : ℕ → Reader Held} {i₀ t₀ : List ℕ} {c₀ : List ℤ} {n at told head : ℕ} {items text : List ℕ} {counts : List ℤ} {k used members place taken told₁ : ℕ}
    (v : TurnsInv once F i₀ t₀ c₀ n at told head items text counts k used members place taken told₁) where
  abbrev Turns-whole : Outcome Held
  Turns-whole = turns once (F (length t₀)) n at (length i₀ - head) (state c₀ told t₀)

  pub turns-done : n ≤ k → Turns-whole ≡ read (drop head (take used items)) members taken (state counts told₁ text)
  turns-done h = v.whole ∙ ap (then_element sat_sum (drop head (take used items)) members taken) (turns-end once (F (length t₀)) n k place (length i₀ - used) (state counts told₁ text) h)
      ∙ behind-end (drop head (take used items)) members taken (state counts told₁ text) v.capped

  module _ (h : k < n) (ys : List ℕ) (same : length ys ≡ length (tail items used)) where
    abbrev Element : Outcome Held
    Element = F (length text) place (length (tail items used)) (state counts told₁ text)

    element-is : Element ≡ F (length t₀) place (length i₀ - used) (state counts told₁ text)
    element-is = ap₂ (λ m x. F m place x (state counts told₁ text)) v.texts (room-left v.written ys same)

    pub turns-stop : (m : ℕ) → Element ≡ refused m → Turns-whole ≡ refused m
    turns-stop m e = v.whole ∙ ap (then_element sat_sum (drop head (take used items)) members taken) (turns-refused once (F (length t₀)) n k place (length i₀ - used) (state counts told₁ text) h m (sym element-is ∙ e))

    module _ (o : Out) (text' : List ℕ) (counts' : List ℤ) (f : Fine Element o ys text' counts') (b : Bool) (p : b ≡ (not once && eqb o.taken 0)) where
      pub turns-nothing : b ≡ true → Turns-whole ≡ refused 10
      turns-nothing z = v.whole ∙ ap (then_element sat_sum (drop head (take used items)) members taken)
          (turns-empty once (F (length t₀)) n k place (length i₀ - used) (state counts told₁ text) h (take o.used ys) o.members o.taken (state counts' o.told text') (sym element-is ∙ f.is) b p z)

      head_in : head ≤ length (take used items)
      head_in = omega (arith, length-take-le used items (omega (arith, v.written.within, v.written.same)), v.few)

      words : drop head (take used items) ++ take o.used ys ≡ drop head (take (used + o.used) (returned items used ys))
      words = sym (drop-append-le head (take used items) (take o.used ys) head_in) ∙ ap (drop head) (sym (returned-take v.written ys same o.used))

      pub turns_go : (place' taken' : ℕ) → length text' ≡ length text → length counts' ≡ length counts → b ≡ false
          → place' ≡ sat (place + o.taken) → taken' ≡ sat (taken + o.taken)
          → TurnsInv once F i₀ t₀ c₀ n at told head (returned items used ys) text' counts' (k + 1) (used + o.used) (members + o.members) place' taken' o.told
      turns_go place' taken' ht hc z r1 r2 =
          let y : length i₀ - used - length (take o.used ys) ≡ length i₀ - (used + o.used) = omega (arith, length-take-le o.used ys f.within) in
          record {
            whole = v.whole
                ∙ ap (then_element sat_sum (drop head (take used items)) members taken)
                (turns-read once (F (length t₀)) n k place (length i₀ - used) (state counts told₁ text) h (take o.used ys) o.members o.taken (state counts' o.told text') (sym element-is ∙ f.is) b p z)
                ∙ behind-behind (drop head (take used items)) (take o.used ys) members o.members taken o.taken
                (turns once (F (length t₀)) (n - (k + 1)) (sat (place + o.taken)) (length i₀ - used - length (take o.used ys)) (state counts' o.told text'))
                ∙ ap₂ (λ ws x. then_element sat_sum ws (members + o.members) x (turns once (F (length t₀)) (n - (k + 1)) (sat (place + o.taken)) (length i₀ - used - length (take o.used ys)) (state counts' o.told text'))) words (sym r2)
                ∙ ap₂ (λ x w. then_element sat_sum (drop head (take (used + o.used) (returned items used ys))) (members + o.members) taken' (turns once (F (length t₀)) (n - (k + 1)) x w (state counts' o.told text'))) (sym r1) y;
            written = returned-written v.written ys same o.used f.within;
            texts = ht ∙ v.texts;
            kept = hc ∙ v.kept;
            fits = f.told;
            few = omega (arith, v.few, f.few);
            capped = omega (arith, r2);
          }

-- ---- the items of Lists and Structs

-- the words of a header and those behind it
module _ (name tag members used : ℕ) (xs : List ℕ) (h : item_words ≤ used) (g : used ≤ length xs) where
  abbrev Head : ℕ → List ℕ
  Head span = words_of (header name tag members span)

  more : used ≡ item_words + (used - item_words)
  more = omega arith

  take_head : (span : ℕ) → take used (Head span ++ drop item_words xs) ≡ Head span ++ take (used - item_words) (drop item_words xs)
  take_head span = ap (λ n. take n (Head span ++ drop item_words xs)) more ∙ take-append-add (Head span) (drop item_words xs) (used - item_words)

  behind-head : drop item_words (take used xs) ≡ take (used - item_words) (drop item_words xs)
  behind-head = ap (λ n. drop item_words (take n xs)) more ∙ drop-take item_words (used - item_words) xs

  head-length : length (take (used - item_words) (drop item_words xs)) ≡ used - item_words
  head-length = length-take-le (used - item_words) (drop item_words xs) (omega (arith, length-drop item_words xs))

  span-is : item_count (take (used - item_words) (drop item_words xs)) + 1 ≡ used / item_words
  span-is = ap (λ n. n / item_words + 1) head-length ∙ omega arith

  pub header_is : (taken : ℕ) (s : Held) → with_header name tag (read (take (used - item_words) (drop item_words xs)) members taken s)
      ≡ read (take used (Head (used / item_words) ++ drop item_words xs)) 1 taken s
  header_is taken s =
      ap (λ n. read (Head n ++ take (used - item_words) (drop item_words xs)) 1 taken s) span-is ∙ ap (λ ws. read ws 1 taken s) (sym (take_head (used / item_words)))

  pub header-drop : (taken : ℕ) (s : Held) → with_header name tag (read (drop item_words (take used xs)) members taken s)
      ≡ read (take used (Head (used / item_words) ++ drop item_words xs)) 1 taken s
  header-drop taken s = ap (λ ws. with_header name tag (read ws members taken s)) behind-head ∙ header_is taken s
