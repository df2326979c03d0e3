-- What the calls leave, from what their parts leave: each law takes the facts of one way out of a function and makes the record that its contract cites.
use Rattle.std.proofs.Common.{◌≡◌, ℕ, zero, suc, ◌-◌, ◌<◌, ◌≤◌, true, List, [], ◌++◌, length, get_or, take, drop, set, replicate, ℤ, pos, sym, ap, ◌∙◌, subst, ap₂, arith, length-append, length-take, refl, eq-eqb, ne_eqb}
use lib.ListN.{length-replicate}
use Rattle.codes.specs.declared.Refusal.{Refusal}
use Rattle.codes.specs.Refusals.{number_of as number_of_refusal}
use Rattle.codes.proofs.Refusals.{some_number}
use Rattle.layout.specs.Layout.{entries}
use Rattle.spans.specs.Tree.{none}
use Rattle.spans.proofs.Tree.{tree-none}
use Rattle.items.specs.Items.{item_count, item_at, span_of as item_span, values, head_of}
use Rattle.walks.specs.Records.{Decoded, items_of, read_into, RecordRead}
use Rattle.walks.specs.Records as Records
use Rattle.window.specs.Window.{Pair, pair, firsts, seconds, whole_of, sum_of, held_in, display_in, window_words, small_pair, lawful_in, started, accepted, rule_in, contributed_pair}
use Rattle.window.specs.Pair.{scale_at, items_before, values_from, word_at, pair_in}
use Rattle.window.specs.Steps.{pushed}
use Rattle.window.specs.Calls.{before_asks, Added, refused, judged, pair_given, add_record, added_to, number_of, window_after, sum_after, WindowWritten, WindowAdded}
use Rattle.window.specs.Parts.{PairRead, PairTaken}
use Rattle.window.proofs.Laws.{pushed-accepted}
use Rattle.window.proofs.Steps.{start-put}
use Rattle.window.proofs.Totals.{first-true, second-true}
use Rattle.window.proofs.Runs.{accepted-lawful}
use Rattle.window.proofs.Rules.{contributed-pair}

-- ---- a start, a changeover

module _ (asked number : ℕ) (written window : List ℕ) (counts counts' : List ℤ) (n : number ≡ asked) (c : counts' ≡ replicate (length counts) (pos 0)) where
  pub write_done : number ≡ 0 → (window' : List ℕ) → window' ≡ written → WindowWritten asked 0 written window window' counts counts'
  write_done z window' e = record { numbered = sym z ∙ n; window_left = rw (eq-eqb asked 0 (sym n ∙ z)) e; counts_left = c }

-- the front cleared with what stands behind it, and the display word
module _ (window : List ℕ) (w : ℕ) (front : List ℕ) (k : ℕ) (e : k ≡ window_words w) (long : window_words w ≤ length window) (f : front ≡ replicate (length (take k window)) 0) where
  front-is : front ≡ replicate k 0
  front-is = let m : length (take k window) ≡ k = omega (arith, length-take k window) in f ∙ ap (λ i. replicate i 0) m

  pub start-long : 3 < length (front ++ drop k window)
  start-long = omega (arith, length-append front (drop k window), ap length front-is ∙ length-replicate k 0)

  pub start-cleared : (display : ℕ) → set (front ++ drop k window) 3 display ≡ started w display window
  start-cleared display = ap (λ p. set (p ++ drop k window) 3 display) front-is ∙ start-put window w display k e

-- ---- a pair into a window

module _ (p : Pair ℕ) (scale w : ℕ) (window : List ℕ) where
  module _ (some : 0 < w) (few : w ≤ 4096) (long : window_words w ≤ length window) (ok : lawful_in w scale window ≡ true) (h : small_pair p ≡ true) where
    abbrev given : Pair ℕ
    given = contributed_pair scale (display_in window) (rule_in window) p

    pub taken-small : (q : Pair ℕ) → q ≡ given → (window' : List ℕ) → window' ≡ pushed w q.first q.second window
        → (one two : ℤ) → one ≡ whole_of (get_or window' 1 0) → two ≡ whole_of (get_or window' 2 0) → PairTaken p scale w 0 one two window window'
    taken-small q s window' e one two a b =
        let is : window' ≡ accepted w given window = e ∙ ap (λ c. pushed w c.first c.second window) s ∙ pushed-accepted w scale window given.first given.second ok some long in
        let good : lawful_in w scale window' ≡ true = ap (lawful_in w scale) is ∙ accepted-lawful w scale window ok given (contributed-pair scale (display_in window) (rule_in window) p h) in
        record {
          numbered = rw h;
          first_sum = rw h (a ∙ first-true w scale window' few good ∙ ap (λ l. sum_of (firsts (held_in l))) is);
          second_sum = rw h (b ∙ second-true w scale window' few good ∙ ap (λ l. sum_of (seconds (held_in l))) is);
          window_left = rw h is;
        }

-- ---- a record's pair

-- no list, no pair
nothing-from : (k : ℕ) → values_from k none ≡ none
unfolding values_from
nothing-from zero = refl
nothing-from (suc k) = nothing-from k

no_word : (k : ℕ) → word_at k [] ≡ 0
unfolding word_at values
no_word k = ap (λ vs. (head_of (values_from k vs)).a) (tree-none (item_at []) item_span 0 (item_count []) (omega arith)) ∙ ap (λ vs. (head_of vs).a) (nothing-from k)

-- what the reader leaves where it refuses
pub pair_refused : (l : List ℕ) (first second : ℕ) (d : Decoded) (e : Refusal) (items items' text text' : List ℕ) (counts counts' : List ℤ)
    → RecordRead d (number_of_refusal e) 0 0 items items' text text' counts counts' → PairRead d l first second (number_of_refusal e) (pair 0 0) items items' text text' counts counts'
unfolding pair_in
pair_refused l first second (Records.refused n) e items items' text text' counts counts' r =
    let m : length items - 0 ≡ length items = omega arith in
    let k : length text - 0 ≡ length text = omega arith in
    record {
      numbered = r.numbered;
      pair_read = ap₂ pair (sym (no_word (items_before (entries l) first))) (sym (no_word (items_before (entries l) second)));
      items_left = r.items_left ∙ ap (λ i. replicate i 0) m;
      text_left = r.text_left ∙ ap (λ i. replicate i 0) k;
      counts_left = r.counts_left;
    }
pair_refused l first second (Records.decoded ws t) e items items' text text' counts counts' r = absurd (some_number e r.numbered)

-- ---- the call

module _ (l masks : List ℕ) (page : ℕ) (r : List ℕ) (w first second : ℕ) (window items text : List ℕ) (counts : List ℤ) where
  abbrev outcome : Added
  outcome = added_to l masks page r w first second window items text counts

  abbrev before : ℕ
  before = before_asks l masks page w first second window (length counts)

  abbrev list : Decoded
  list = read_into l masks page r items text counts

  outcome-before : (n : ℕ) → n ≡ before → (n ≡ 0 → ⊥) → outcome ≡ refused n
  unfolding add_record
  outcome-before n e h = rw (ne_eqb before 0 (λ z. h (e ∙ z))) (ap refused (sym e))

  module _ (z : before ≡ 0) where
    outcome-read : outcome ≡ pair_given l first second list
    unfolding add_record
    outcome-read = rw (eq-eqb before 0 z)

    outcome-reader : (n : ℕ) → n ≡ Records.number_of list → (n ≡ 0 → ⊥) → outcome ≡ refused n
    outcome-reader n e h = outcome-read ∙ rw (ne_eqb (Records.number_of list) 0 (λ k. h (e ∙ k))) (ap refused (sym e))

    outcome-judged : (p : Pair ℕ) → Records.number_of list ≡ 0 → p ≡ pair_in l first second (items_of list) → outcome ≡ judged p
    outcome-judged p k e = outcome-read ∙ rw (eq-eqb (Records.number_of list) 0 k) (ap judged (sym e))

  -- refused before anything is read
  module _ (number : ℕ) (one two : ℤ) (f : (one ≡ pos 0) × (two ≡ pos 0)) where
    refused-so : outcome ≡ refused number → (items' text' : List ℕ) (counts' : List ℤ) → items' ≡ replicate (length items) 0 → text' ≡ replicate (length text) 0
        → counts' ≡ replicate (length counts) (pos 0) → WindowAdded outcome (scale_at l first) w number one two window window items items' text text' counts counts'
    refused-so e items' text' counts' a b c =
        record {
          numbered = sym (ap number_of e);
          first_sum = f.0 ∙ sym (ap (sum_after firsts (scale_at l first) w window) e);
          second_sum = f.1 ∙ sym (ap (sum_after seconds (scale_at l first) w window) e);
          window_left = sym (ap (window_after (scale_at l first) w window) e);
          items_left = a;
          text_left = b;
          counts_left = c;
        }

    pub add-refused : number ≡ before → (number ≡ 0 → ⊥) → (items' text' : List ℕ) (counts' : List ℤ)
        → items' ≡ replicate (length items) 0 → text' ≡ replicate (length text) 0 → counts' ≡ replicate (length counts) (pos 0)
        → WindowAdded outcome (scale_at l first) w number one two window window items items' text text' counts counts'
    add-refused e h items' text' counts' a b c = refused-so (outcome-before number e h) items' text' counts' a b c

    -- refused by the reader
    pub add-unread : before ≡ 0 → (n : ℕ) (p : Pair ℕ) (items' text' : List ℕ) (counts' : List ℤ) → PairRead list l first second n p items items' text text' counts counts' → number ≡ n → (n ≡ 0 → ⊥)
        → WindowAdded outcome (scale_at l first) w number one two window window items items' text text' counts counts'
    add-unread z n p items' text' counts' r e h = refused-so (outcome-reader z number (e ∙ r.numbered) (λ k. h (sym e ∙ k))) items' text' counts' r.items_left r.text_left r.counts_left

  -- judged
  pub add-judged : before ≡ 0 → (n : ℕ) (p : Pair ℕ) (items' text' : List ℕ) (counts' : List ℤ) → PairRead list l first second n p items items' text text' counts counts' → n ≡ 0
      → (scale : ℕ) → scale ≡ scale_at l first → (number : ℕ) (one two : ℤ) (window' : List ℕ) → PairTaken p scale w number one two window window'
      → WindowAdded outcome (scale_at l first) w number one two window window' items items' text text' counts counts'
  add-judged z n p items' text' counts' r h scale s number one two window' u =
      let t : PairTaken p (scale_at l first) w number one two window window' = subst (λ k. PairTaken p k w number one two window window') s u in
      let e : outcome ≡ judged p = outcome-judged z p (sym r.numbered ∙ h) r.pair_read in
      record {
        numbered = t.numbered ∙ sym (ap number_of e);
        first_sum = t.first_sum ∙ sym (ap (sum_after firsts (scale_at l first) w window) e);
        second_sum = t.second_sum ∙ sym (ap (sum_after seconds (scale_at l first) w window) e);
        window_left = t.window_left ∙ sym (ap (window_after (scale_at l first) w window) e);
        items_left = r.items_left;
        text_left = r.text_left;
        counts_left = r.counts_left;
      }
