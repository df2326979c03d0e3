-- The pass that stores words and masks: what is known before an entry.
use mathlib.Core.Path.{◌≡◌, refl, sym, ap, ◌∙◌, subst}
use mathlib.Core.Bool.{Bool, true, false, ◌&&◌, cond, false≢true}
use mathlib.Core.List.{List, [], ◌∷◌, ◌++◌, map, append_assoc, map-append}
use Prim.Native.Nat.{ℕ, suc, ◌+◌, ◌-◌, ◌*◌, ◌%◌, ◌≤◌, ◌<◌}
use native.Mathlib.Omega.{arith}
use native.Mathlib.Numerals.{add-one}
use lib.Dec.{eqb}
use lib.ListN.{length, get_or, take, drop, length-append, length-drop, take-append-drop}
use lib.Seq.{drop-drop, take-append_seam, drop-append-add, length-take-le}
use Rattle.lists.proofs.Logic.{and_left}
use Rattle.layout.specs.declared.Entry.{Entry}
use Rattle.layout.specs.Layout.{absent, all_below}
use Rattle.layout.proofs.Laws.{all-at}
use Rattle.std.specs.Prelude.{Option, Some, None, Result, Ok, Err}
use Rattle.codes.specs.declared.Refusal.{Refusal}
use Rattle.lines.specs.Lines.{line_from}
use Rattle.lines.specs.Names.{index_in, see, distinct, number_in, names_at, see_at}
use Rattle.lines.proofs.Sight.{number-sight, distinct_append}
use Rattle.lists.proofs.Lists.{later}
use Rattle.layout_text.specs.declared.Said.{Said}
use Rattle.layout_text.specs.Form.{lines_of, ended, is_none, is_number, says, count_of, value_start, all, entry_lawful, lawful, page_word, name_word, depending_word}
use Rattle.layout_text.specs.Reading.{Sight, sights_in, sights_below, sights_of, or_absent, name_said, depending_said, mask_said, names_of, masks_below, masks_of, scale_of, precision_of, mask_word_of, entry_said, twelve, words_below}
use Rattle.layout_text.specs.Walk.{Here, DependsOn, Told, Tells, entry_with, Lasts}
use Rattle.layout_text.specs.Firsts.{see_both, depending_in, see_all_at, firsts_of, Firsts}
use Rattle.layout_text.proofs.Starts.{names_from, all_after, all-names, see-inside, firsts_at}
use Rattle.layout_text.proofs.Words.{words_long, names_below, names_said, names-suc, names-from, masks-before}

-- ---- a part of a buffer

-- a buffer that holds `done`, then what it held before: one more part behind `done`
pub put_next : (at w : ℕ) (xs xs₀ done new : List ℕ) → length done ≡ at → length new ≡ w → xs ≡ done ++ drop at xs₀
    → take at xs ++ (new ++ drop (at + w) xs) ≡ (done ++ new) ++ drop (at + w) xs₀
put_next at w xs xs₀ done new a b e =
    let t : take at xs ≡ done = ap (take at) e ∙ ap (λ (n : ℕ). take n (done ++ drop at xs₀)) (sym a) ∙ take-append_seam done (drop at xs₀) in
    let d : drop (at + w) xs ≡ drop (at + w) xs₀ = ap (drop (at + w)) e ∙ ap (λ (n : ℕ). drop (n + w) (done ++ drop at xs₀)) (sym a) ∙ drop-append-add done (drop at xs₀) w ∙ drop-drop w at xs₀ in
    rw (t, d) (sym (append_assoc done new (drop (at + w) xs₀)))

-- ---- a lawful text tells every entry

lawful-ended : (text : List ℕ) → lawful text ≡ true → ended text ≡ true
unfolding lawful all
lawful-ended text e = and_left (ended text) _ e

fourth : (a b c d : Bool) → (a && (b && (c && (d && true)))) ≡ true → d ≡ true
fourth true true true true e = refl
fourth true true true false e = absurd (false≢true e)
fourth true true false d e = absurd (false≢true e)
fourth true false c d e = absurd (false≢true e)
fourth false b c d e = absurd (false≢true e)

pub lawful-entry : (text : List ℕ) (k : ℕ) → lawful text ≡ true → k < count_of (lines_of text) → entry_lawful (lines_of text) k ≡ true
unfolding lawful all
lawful-entry text k e h =
    all-at (entry_lawful (lines_of text)) (count_of (lines_of text)) k h
    (fourth (ended text) (eqb (length (lines_of text) % 11) 1) (says page_word is_number (get_or (lines_of text) 0 [])) (all_below (entry_lawful (lines_of text)) (count_of (lines_of text))) e)

-- in a text that is stored no line is refused
pub lines_there : {text : List ℕ} {k at count : ℕ} (r : Result Said Refusal) → Tells text at r → Lasts text count → k < count → Here text (k * 11 + 1) at → ((x : Said) → r ≡ Ok x → ⊥) → ⊥
lines_there (Ok s) t w h r f = f s refl
lines_there {text} {k} (Err e) t w h r f = false≢true (sym (t.1 k r) ∙ both)
  where
    both : (ended text && entry_lawful (lines_of text) k) ≡ true
    both = rw (lawful-ended text w.is_lawful, lawful-entry text k w.is_lawful (omega (arith, w.counted))) refl

-- ---- what is known before the k-th entry

-- of the table of names, which was starts₀
pub record Seen-to (text : List ℕ) (at k seen : ℕ) (starts starts₀ : List ℕ) : Type 0 where
  pub here : Here text (k * 11 + 1) at
  pub spelled : names_below (lines_of text) k ≡ names_from text (sights_below (lines_of text) k)
  pub firsts : take seen starts ≡ see_all_at text [] (sights_below (lines_of text) k)
  pub kept : drop seen starts ≡ drop seen starts₀
  pub inside : (n : ℕ) → get_or (take seen starts) n 0 ≤ length text
  pub few : seen ≤ k * 2
  pub long : length starts ≡ 1024

-- of the words and masks besides
pub record Stored (text : List ℕ) (at k seen m : ℕ) (starts words masks starts₀ words₀ masks₀ : List ℕ) : Type 0 where
  pub table : Seen-to text at k seen starts starts₀
  pub words_are : words ≡ words_below (lines_of text) k ++ drop (k * 12) words₀
  pub masks-are : masks ≡ masks_below (lines_of text) k ++ drop m masks₀
  pub masks-long : m ≡ length (masks_below (lines_of text) k)
  pub room : m ≤ at

-- the names that the table then points at
seen-distinct : {text : List ℕ} {at k seen : ℕ} {starts starts₀ : List ℕ} → Seen-to text at k seen starts starts₀ → names_at text starts seen ≡ distinct (names_below (lines_of text) k)
seen-distinct {text} {k} g = ap (map (line_from text)) g.firsts ∙ all-names text [] (sights_below (lines_of text) k) ∙ ap distinct (sym g.spelled)

-- ---- the numbers of an entry's names

module _ (text : List ℕ) (k at : ℕ) (s : Said) (t : Told text k at s) (starts : List ℕ) (seen : ℕ) (e : names_at text starts seen ≡ distinct (names_below (lines_of text) k)) where
  abbrev l : List (List ℕ)
  l = lines_of text

  module _ (h : k < count_of l) where
    pub name-number : (n : ℕ) → n ≡ index_in (line_from text s.name) (names_at text starts seen) → n ≡ number_in (names_of l) (name_said l k)
    name-number n q =
        let r = names-from l (count_of l) k h in
        q ∙ rw (t.name, e, r.1) (sym (number-sight (names_below l k) (cond (is_none (depending_said l k)) [] (depending_said l k ∷ []) ++ r.0) (name_said l k)))

    second : (b : Bool) (more : List (List ℕ)) → b ≡ false
        → number_in (names_below l k ++ ((name_said l k ∷ cond b [] (depending_said l k ∷ [])) ++ more)) (depending_said l k) ≡ index_in (depending_said l k) (see (distinct (names_below l k)) (name_said l k))
    second true more f = absurd (false≢true (sym f))
    second false more f =
        ap (λ (x : List (List ℕ)). number_in x (depending_said l k)) (sym (append_assoc (names_below l k) (name_said l k ∷ []) (depending_said l k ∷ more)))
        ∙ number-sight (names_below l k ++ (name_said l k ∷ [])) more (depending_said l k)
        ∙ ap (index_in (depending_said l k)) (distinct_append (names_below l k) (name_said l k ∷ []))

    pub depending-number : (d : ℕ) → d ≡ depending_in text (names_at text starts seen) s.name s.depending → d ≡ or_absent (depending_said l k) (number_in (names_of l) (depending_said l k))
    depending-number d q = by s.depending t.depending q
      where
        by : (o : Option ℕ) → DependsOn text k o → d ≡ depending_in text (names_at text starts seen) s.name o → d ≡ cond (is_none (depending_said l k)) absent (number_in (names_of l) (depending_said l k))
        by None f g = rw f g
        by (Some x) f g =
            let r = names-from l (count_of l) k h in
            let n : is_none (depending_said l k) ≡ false = f.named in
            rw n (g ∙ rw (f.name, t.name, e, r.1) (sym (second (is_none (depending_said l k)) r.0 n)))

    pub entry-is : (n d m : ℕ) (x : Entry) → n ≡ index_in (line_from text s.name) (names_at text starts seen)
        → d ≡ depending_in text (names_at text starts seen) s.name s.depending
        → m ≡ length (masks_below l k) → x ≡ entry_with s n d m → x ≡ entry_said l k
    unfolding entry_with entry_said
    entry-is n d m x a b c q = q ∙ (λ i. record {
      name = name-number n a i;
      offset = t.offset i;
      width = t.width i;
      kind = t.kind i;
      occurs = t.occurs i;
      depending = depending-number d b i;
      span = t.span i;
      p = t.p i;
      q = t.q i;
      r = scale_of (t.kind i) (t.r i);
      s = precision_of (t.kind i) (t.r i);
      mask = mask_word_of (t.kind i) (c i);
    })

-- ---- the table after the names of an entry

module _ (text : List ℕ) (k at : ℕ) (s : Said) (t : Told text k at s) where
  sights-said : names_from text (sights_in (lines_of text) k) ≡ names_said (lines_of text) k
  sights-said = rw (sym t.name-at, t.name) (ap (λ (x : List (List ℕ)). name_said (lines_of text) k ∷ x) (by s.depending t.depending))
    where
      by : (o : Option ℕ) → DependsOn text k o
          → names_from text (cond (is_none (depending_said (lines_of text) k)) [] (record { name = depending_said (lines_of text) k; at = value_start depending_word (lines_of text) k 5 } ∷ []))
          ≡ cond (is_none (depending_said (lines_of text) k)) [] (depending_said (lines_of text) k ∷ [])
      by None f = rw f refl
      by (Some x) f = rw f.named (ap (λ (n : List ℕ). n ∷ []) (ap (line_from text) (sym f.place) ∙ f.name))

  spelled-next : names_below (lines_of text) k ≡ names_from text (sights_below (lines_of text) k)
      → names_below (lines_of text) (suc k) ≡ names_from text (sights_below (lines_of text) (suc k))
  unfolding sights_below
  spelled-next e =
      names-suc (lines_of text) k ∙ (λ i. e i ++ sym sights-said i)
      ∙ sym (map-append (λ (s : Sight). line_from text s.at) (sights_below (lines_of text) k) (sights_in (lines_of text) k))

  both-seen : (starts : List ℕ) → see_both text starts s.name s.depending ≡ see_all_at text starts (sights_in (lines_of text) k)
  unfolding see_all_at
  both-seen starts = rw t.name-at (by s.depending t.depending)
    where
      at_name : List ℕ
      at_name = see_at text starts (value_start name_word (lines_of text) k 0)

      by : (o : Option ℕ) → DependsOn text k o
          → see_both text starts (value_start name_word (lines_of text) k 0) o
          ≡ see_all_at text at_name (cond (is_none (depending_said (lines_of text) k)) [] (record { name = depending_said (lines_of text) k; at = value_start depending_word (lines_of text) k 5 } ∷ []))
      by None f = rw f refl
      by (Some x) f = rw f.named (ap (see_at text at_name) f.place)

  firsts-next : (starts : List ℕ) → starts ≡ see_all_at text [] (sights_below (lines_of text) k) → see_both text starts s.name s.depending ≡ see_all_at text [] (sights_below (lines_of text) (suc k))
  unfolding sights_below
  firsts-next starts e =
      both-seen starts ∙ ap (λ (x : List ℕ). see_all_at text x (sights_in (lines_of text) k)) e
      ∙ sym (all_after text [] (sights_below (lines_of text) k) (sights_in (lines_of text) k))

  inside-next : (starts : List ℕ) → ((n : ℕ) → get_or starts n 0 ≤ length text) → (n : ℕ) → get_or (see_both text starts s.name s.depending) n 0 ≤ length text
  inside-next starts h n = by s.depending t.depending
    where
      one : (n : ℕ) → get_or (see_at text starts s.name) n 0 ≤ length text
      one n = see-inside text starts s.name (length text) h (omega (arith, t.name-inside)) n

      by : (o : Option ℕ) → DependsOn text k o → get_or (see_both text starts s.name o) n 0 ≤ length text
      by None f = one n
      by (Some x) f = see-inside text (see_at text starts s.name) x (length text) one (omega (arith, f.inside)) n

pub seen_start : (text : List ℕ) (at : ℕ) (starts : List ℕ) → Here text 1 at → length starts ≡ 1024 → Seen-to text at 0 0 starts starts
unfolding sights_below see_all_at
seen_start text at starts h e = record {
  here = h;
  spelled = refl;
  firsts = refl;
  kept = refl;
  inside = λ n. omega arith;
  few = omega arith;
  long = e;
}

module _ {text : List ℕ} {at k seen : ℕ} {starts starts₀ : List ℕ} (g : Seen-to text at k seen starts starts₀) {count : ℕ} (w : Lasts text count) (h : k < count) (s : Said) (t : Tells text at (Ok s)) where
  pub seen-told : Told text k at s
  seen-told = t k g.here

  pub seen_next : (same : List ℕ) → same ≡ text → (c : ℕ) (starts' : List ℕ) → take c starts' ≡ see_both same (take seen starts) s.name s.depending → drop c starts' ≡ drop c starts
      → (seen ≤ c) × (c ≤ seen + 2) → length starts' ≡ length starts → Seen-to text s.next (k + 1) c starts' starts₀
  seen_next same e c starts' x' d y z = let x : take c starts' ≡ see_both text (take seen starts) s.name s.depending = x' ∙ ap (λ t. see_both t (take seen starts) s.name s.depending) e in record {
    here = let i : suc k * 11 + 1 ≡ (k + 1) * 11 + 1 = omega arith in subst (λ (j : ℕ). Here text j s.next) i seen-told.here;
    spelled = rw add-one (spelled-next text k at s seen-told g.spelled);
    firsts = rw add-one (x ∙ firsts-next text k at s seen-told (take seen starts) g.firsts);
    kept = d ∙ later starts starts₀ seen c y.0 g.kept;
    inside = λ n. rw x (inside-next text k at s seen-told (take seen starts) g.inside n);
    few = omega (arith, g.few, y.1);
    long = z ∙ g.long;
  }

-- ---- words and masks

pub stored-start : (text : List ℕ) (at : ℕ) (starts words masks : List ℕ) → Here text 1 at → length starts ≡ 1024 → Stored text at 0 0 0 starts words masks starts words masks
unfolding words_below masks_below
stored-start text at starts words masks h e = record {
  table = seen_start text at starts h e;
  words_are = refl;
  masks-are = refl;
  masks-long = refl;
  room = omega arith;
}

twelve-long : (e : Entry) → length (twelve e) ≡ 12
unfolding twelve
twelve-long e = refl

module _ {text : List ℕ} {at k seen m : ℕ} {starts words masks starts₀ words₀ masks₀ : List ℕ} (g : Stored text at k seen m starts words masks starts₀ words₀ masks₀) where
  pub words_same : k * 12 ≤ length words₀ → length words ≡ length words₀
  words_same h =
      let a : length words ≡ length (words_below (lines_of text) k) + length (drop (k * 12) words₀) = ap length g.words_are ∙ length-append (words_below (lines_of text) k) (drop (k * 12) words₀) in
      omega (arith, words_long (lines_of text) k, length-drop (k * 12) words₀)

  pub masks-same : m ≤ length masks₀ → length masks ≡ length masks₀
  masks-same h =
      let a : length masks ≡ length (masks_below (lines_of text) k) + length (drop m masks₀) = ap length g.masks-are ∙ length-append (masks_below (lines_of text) k) (drop m masks₀) in
      omega (arith, g.masks-long, length-drop m masks₀)

  module _ {count : ℕ} (w : Lasts text count) (h : k < count) (s : Said) (t : Tells text at (Ok s)) where
    pub told : Told text k at s
    told = seen-told g.table w h s t

    pub inside : k < count_of (lines_of text)
    inside = omega (arith, w.counted)

    pub masks-room : m + s.length ≤ length (masks_of (lines_of text))
    masks-room = omega (arith, g.masks-long, told.long, masks-before (lines_of text) (count_of (lines_of text)) k inside)

    -- the mask's bytes as the code cuts them out
    pub part-is : take (s.mask + s.length - s.mask) (drop s.mask text) ≡ mask_said (lines_of text) k
    part-is = let e : s.mask + s.length - s.mask ≡ s.length = omega arith in ap (λ (n : ℕ). take n (drop s.mask text)) e ∙ told.mask

    pub part-long : length (take (s.mask + s.length - s.mask) (drop s.mask text)) ≡ s.length
    part-long = ap length part-is ∙ sym told.long

    pub stored_next : (same : List ℕ) → same ≡ text → {n d c : ℕ} {e : Entry} (starts' words' masks' : List ℕ)
        → n ≡ index_in (line_from same s.name) (names_at same starts seen)
        → d ≡ depending_in same (names_at same starts seen) s.name s.depending
        → Seen-to text s.next (k + 1) c starts' starts₀ → e ≡ entry_with s n d m
        → words' ≡ take (k * 12) words ++ (twelve e ++ drop (k * 12 + 12) words)
        → masks' ≡ take m masks ++ (take (s.mask + s.length - s.mask) (drop s.mask text) ++ drop (m + length (take (s.mask + s.length - s.mask) (drop s.mask text))) masks)
        → Stored text s.next (k + 1) c (m + s.length) starts' words' masks' starts₀ words₀ masks₀
    unfolding words_below masks_below
    stored_next same z {n} {d} {c} {e} starts' words' masks' a' b' x q u v =
        let a : n ≡ index_in (line_from text s.name) (names_at text starts seen) = a' ∙ ap (λ t. index_in (line_from t s.name) (names_at t starts seen)) z in
        let b : d ≡ depending_in text (names_at text starts seen) s.name s.depending = b' ∙ ap (λ t. depending_in t (names_at t starts seen) s.name s.depending) z in
        let l = lines_of text in
        let r : e ≡ entry_said l k = entry-is text k at s told starts seen (seen-distinct g.table) inside n d m e a b g.masks-long q in
        let k1 : k * 12 + 12 ≡ (k + 1) * 12 = omega arith in
        record {
          table = x;
          words_are =
              u ∙ put_next (k * 12) 12 words words₀ (words_below l k) (twelve e) (words_long l k) (twelve-long e) g.words_are
              ∙ ap (λ (j : ℕ). (words_below l k ++ twelve e) ++ drop j words₀) k1
              ∙ ap (λ (p : Entry). (words_below l k ++ twelve p) ++ drop ((k + 1) * 12) words₀) r
              ∙ ap (λ (j : ℕ). words_below l j ++ drop ((k + 1) * 12) words₀) (sym (add-one k));
          masks-are =
              v ∙ rw part-long (rw part-is (put_next m s.length masks masks₀ (masks_below l k) (mask_said l k) (sym g.masks-long) (sym told.long) g.masks-are))
              ∙ ap (λ (j : ℕ). masks_below l j ++ drop (m + s.length) masks₀) (sym (add-one k));
          masks-long = rw (add-one, length-append) (omega (arith, g.masks-long, told.long));
          room = omega (arith, g.room, told.room);
        }

-- ---- the whole table

module _ {text : List ℕ} {at k seen : ℕ} {starts starts₀ : List ℕ} (g : Seen-to text at k seen starts starts₀) {count : ℕ} (w : Lasts text count) (e : k ≡ count) where
  seen-firsts : take seen starts ≡ firsts_of text
  seen-firsts = g.firsts ∙ ap (λ (j : ℕ). see_all_at text [] (sights_below (lines_of text) j)) (e ∙ w.counted)

  pub seen_count : seen ≡ length (firsts_of text)
  seen_count = sym (length-take-le seen starts (omega (arith, g.few, g.long, w.few))) ∙ ap length seen-firsts

  pub seen_table : starts ≡ firsts_of text ++ drop (length (firsts_of text)) starts₀
  seen_table = sym (take-append-drop seen starts) ∙ (λ i. seen-firsts i ++ g.kept i) ∙ ap (λ (n : ℕ). firsts_of text ++ drop n starts₀) seen_count

  pub seen_known : Firsts text
  seen_known =
      let sp : names_of (lines_of text) ≡ names_from text (sights_of (lines_of text)) =
      subst (λ (j : ℕ). names_below (lines_of text) j ≡ names_from text (sights_below (lines_of text) j)) (e ∙ w.counted) g.spelled in
      record {
        names = all-names text [] (sights_of (lines_of text)) ∙ ap distinct (sym sp);
        places = λ number. firsts_at text (sights_of (lines_of text)) sp number;
        inside = λ number. subst (λ (s : List ℕ). get_or s number 0 ≤ length text) seen-firsts (g.inside number);
        few = omega (arith, seen_count, g.few, w.few);
      }
