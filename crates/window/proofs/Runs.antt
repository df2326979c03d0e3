-- Windows after runs: from pairs laid into a fresh window under a rule, a record and a changeover make such a one again, so the run is an induction over its events.
use Rattle.std.proofs.Common.{◌≡◌, ℕ, zero, suc, ◌+◌, ◌-◌, ◌*◌, ◌≤◌, Bool, true, false, cond, ◌&&◌, eqb, List, [], ◌∷◌, ◌++◌, map, length, get_or, drop, replicate, sym, refl, ap, ◌∙◌, subst, ap₂, append_assoc, append-nil, arith, length-append, length-drop, get_or-set_other, drop-drop, eq-eqb, eqb-true, le-leb}
use native.Mathlib.Decide.{dec_le}
use lib.ListN.{length-replicate}
use lib.Seq.{drop-append-le, drop-append-add}
use Rattle.lists.proofs.Logic.{and, and_left, and_right}
use Rattle.walks.specs.Records.{first_of, decode_record, items_of}
use Rattle.walks.specs.Records as Records
use Rattle.window.specs.Window.{Pair, firsts, seconds, flat, last_of, sum_in, sum_of, window_words, held_in, display_in, laid, small_pair, all_small, words_ok, lawful_in, started, changed, accepted}
use Rattle.window.specs.Window.{Rule, cutting, half_even, rule_in, contributed_pair}
use Rattle.window.specs.Pair.{scale_at, pair_in}
use Rattle.window.specs.Calls.{window_asks, before_asks, Added, refused, added, add_record, window_after, sum_after}
use Rattle.window.specs.Runs.{Given, Event, comes, changeover, pairs_in, tell, under, call, asked, behind, run, brings, rule_behind, rule_after, told_in, ended, told, rule_now, told_with}
use Rattle.window.specs.Runs.{Kept, RunsKept, WithoutDisplay, ChangeKeeps}
use Rattle.window.proofs.Laws.{flat-length, held-laid, drop-five, snoc-length, smalls-lawful, lawful-shown, lawful-passed}
use Rattle.window.proofs.Totals.{first-true, second-true}
use Rattle.window.proofs.Asked.{added-small, asks-few, asks-shown, asks-long}
use Rattle.window.proofs.Rules.{contributed-pair, pair-itself}

-- ---- the last W

last-few : (w : ℕ) (ps : List (Pair ℕ)) → length ps ≤ w → last_of w ps ≡ ps
last-few w ps h = let z : length ps - w ≡ 0 = omega arith in rw z

last-length : (w : ℕ) (ps : List (Pair ℕ)) → length (last_of w ps) ≤ w
last-length w ps = omega (arith, length-drop (length ps - w) ps)

last-last : (w : ℕ) (ps qs : List (Pair ℕ)) → last_of w (last_of w ps ++ qs) ≡ last_of w (ps ++ qs)
last-last w ps qs = go (dec_le (length ps) w)
  where
    go : Dec (length ps ≤ w) → last_of w (last_of w ps ++ qs) ≡ last_of w (ps ++ qs)
    go (yes h) = ap (λ rs. last_of w (rs ++ qs)) (last-few w ps h)
    go (no h) =
        let e : drop (length ps - w) ps ++ qs ≡ drop (length ps - w) (ps ++ qs) = sym (drop-append-le (length ps - w) ps qs (omega arith)) in
        let n : (length ps - w) + (length (drop (length ps - w) ps ++ qs) - w) ≡ length (ps ++ qs) - w =
        omega (arith, length-append (drop (length ps - w) ps) qs, length-append ps qs, length-drop (length ps - w) ps) in
        ap (drop (length (drop (length ps - w) ps ++ qs) - w)) e
        ∙ drop-drop (length (drop (length ps - w) ps ++ qs) - w) (length ps - w) (ps ++ qs)
        ∙ ap (λ i. drop i (ps ++ qs)) n

-- one pair, then more
one_more : (w : ℕ) (qs ps : List (Pair ℕ)) (p : Pair ℕ) → last_of w (last_of w (qs ++ (p ∷ [])) ++ ps) ≡ last_of w (qs ++ (p ∷ ps))
one_more w qs ps p = last-last w (qs ++ (p ∷ [])) ps ∙ ap (last_of w) (append_assoc qs (p ∷ []) ps)

-- ---- small pairs

small-drop : (k : ℕ) (ps : List (Pair ℕ)) → all_small ps ≡ true → all_small (drop k ps) ≡ true
small-drop zero ps h = h
small-drop (suc k) [] h = refl
small-drop (suc k) (p ∷ ps) h = small-drop k ps (and_right (small_pair p) (all_small ps) h)

small-snoc : (qs : List (Pair ℕ)) (p : Pair ℕ) → all_small qs ≡ true → small_pair p ≡ true → all_small (qs ++ (p ∷ [])) ≡ true
small-snoc [] p h k = rw k
small-snoc (q ∷ qs) p h k = and (and_left (small_pair q) (all_small qs) h) (small-snoc qs p (and_right (small_pair q) (all_small qs) h) k)

small-last : (w : ℕ) (qs : List (Pair ℕ)) (p : Pair ℕ) → all_small qs ≡ true → small_pair p ≡ true → all_small (last_of w (qs ++ (p ∷ []))) ≡ true
small-last w qs p h k = small-drop (length (qs ++ (p ∷ [])) - w) (qs ++ (p ∷ [])) (small-snoc qs p h k)

-- ---- what is laid is lawful

laid-words : (w scale : ℕ) (l : List ℕ) (ps : List (Pair ℕ)) → length ps ≤ w → display_in l ≤ scale → get_or l 4 0 ≤ 1 → words_ok w scale (laid ps l) ≡ true
unfolding laid
laid-words w scale l ps few shown passed = rw (le-leb (length ps) w few, le-leb (display_in l) scale shown, le-leb (get_or l 4 0) 1 passed)

laid-sums : (l : List ℕ) (ps : List (Pair ℕ)) → (eqb (get_or (laid ps l) 1 0) (sum_in (firsts ps)) && eqb (get_or (laid ps l) 2 0) (sum_in (seconds ps))) ≡ true
unfolding laid
laid-sums l ps = rw (eq-eqb (sum_in (firsts ps)) (sum_in (firsts ps)) refl, eq-eqb (sum_in (seconds ps)) (sum_in (seconds ps)) refl)

laid-lawful : (w scale : ℕ) (l : List ℕ) (ps : List (Pair ℕ)) → length ps ≤ w → display_in l ≤ scale → get_or l 4 0 ≤ 1 → all_small ps ≡ true → lawful_in w scale (laid ps l) ≡ true
unfolding lawful_in
laid-lawful w scale l ps few shown passed smalls = rw (held-laid ps l, smalls, laid-words w scale l ps few shown passed) (laid-sums l ps)

-- an accepted pair leaves a lawful window lawful
module _ (w scale : ℕ) (l : List ℕ) (ok : lawful_in w scale l ≡ true) where
  pub accepted-lawful : (p : Pair ℕ) → small_pair p ≡ true → lawful_in w scale (accepted w p l) ≡ true
  unfolding accepted
  accepted-lawful p h =
      laid-lawful w scale l (last_of w (held_in l ++ (p ∷ []))) (last-length w (held_in l ++ (p ∷ []))) (lawful-shown w scale l ok) (lawful-passed w scale l ok)
      (small-last w (held_in l) p (smalls-lawful w scale l ok) h)

-- ---- a pair accepted by pairs laid

-- pairs laid over fewer
laid-again : (ps qs : List (Pair ℕ)) (l : List ℕ) → length qs ≤ length ps → laid ps (laid qs l) ≡ laid ps l
unfolding laid
laid-again ps qs l h =
    let e : length ps * 2 ≡ length (flat qs) + (length ps * 2 - length qs * 2) = omega (arith, flat-length qs) in
    let f : 5 + length qs * 2 + (length ps * 2 - length qs * 2) ≡ 5 + length ps * 2 = omega arith in
    let d : drop (5 + length ps * 2) (laid qs l) ≡ drop (5 + length ps * 2) l =
    drop-five _ _ _ _ _ (length ps * 2) (flat qs ++ drop (5 + length qs * 2) l)
    ∙ ap (λ k. drop k (flat qs ++ drop (5 + length qs * 2) l)) e ∙ drop-append-add (flat qs) (drop (5 + length qs * 2) l) (length ps * 2 - length qs * 2)
    ∙ drop-drop (length ps * 2 - length qs * 2) (5 + length qs * 2) l ∙ ap (λ k. drop k l) f in
    ap (λ m. length ps ∷ sum_in (firsts ps) ∷ sum_in (seconds ps) ∷ display_in l ∷ get_or l 4 0 ∷ (flat ps ++ m)) d

module _ (w : ℕ) (l : List ℕ) (qs : List (Pair ℕ)) (few : length qs ≤ w) (p : Pair ℕ) where
  last-most : length qs ≤ length (last_of w (qs ++ (p ∷ [])))
  last-most = omega (arith, length-drop (length (qs ++ (p ∷ [])) - w) (qs ++ (p ∷ [])), snoc-length p.first p.second qs)

  accepted-laid : accepted w p (laid qs l) ≡ laid (last_of w (qs ++ (p ∷ []))) l
  unfolding accepted
  accepted-laid = ap (λ ps. laid (last_of w (ps ++ (p ∷ []))) (laid qs l)) (held-laid qs l) ∙ laid-again (last_of w (qs ++ (p ∷ []))) qs l last-most

laid-length : (ps : List (Pair ℕ)) (l : List ℕ) → window_words (length ps) ≤ length l → length (laid ps l) ≡ length l
unfolding laid
laid-length ps l h = omega (arith, flat-length ps, length-append (flat ps) (drop (window_words (length ps)) l), length-drop (window_words (length ps)) l)

-- told one behind the other
tell-laid : (w : ℕ) (l : List ℕ) (ps qs : List (Pair ℕ)) → length qs ≤ w → tell w ps (laid qs l) ≡ laid (last_of w (qs ++ ps)) l
tell-laid w l [] qs few = ap (λ rs. laid rs l) (sym (ap (last_of w) (append-nil qs) ∙ last-few w qs few))
tell-laid w l (p ∷ ps) qs few =
    ap (tell w ps) (accepted-laid w l qs few p) ∙ tell-laid w l ps (last_of w (qs ++ (p ∷ []))) (last-length w (qs ++ (p ∷ []))) ∙ ap (λ rs. laid rs l) (one_more w qs ps p)

-- ---- a fresh window under a rule

module _ (w display : ℕ) (lent : List ℕ) where
  abbrev base : Rule → List ℕ
  base rule = under rule (started w display lent)

  -- it holds nothing
  begun : (rule : Rule) → laid [] (base rule) ≡ base rule
  unfolding laid started changed
  begun cutting = refl
  begun half_even = refl

  base-display : (rule : Rule) → display_in (base rule) ≡ display
  unfolding started changed
  base-display cutting = refl
  base-display half_even = refl

  base-passed : (rule : Rule) → get_or (base rule) 4 0 ≤ 1
  unfolding started changed
  base-passed cutting = omega arith
  base-passed half_even = omega arith

  base-length : (rule : Rule) → window_words w ≤ length lent → length (base rule) ≡ length lent
  unfolding started changed
  base-length cutting long = omega (arith, length-append (replicate (w * 2) 0) (drop (window_words w) lent), length-replicate {A = ℕ} (w * 2) 0, length-drop (window_words w) lent)
  base-length half_even long = omega (arith, length-append (replicate (w * 2) 0) (drop (window_words w) lent), length-replicate {A = ℕ} (w * 2) 0, length-drop (window_words w) lent)

  module _ (qs : List (Pair ℕ)) where
    laid-display : (rule : Rule) → display_in (laid qs (base rule)) ≡ display
    unfolding laid
    laid-display rule = base-display rule

    laid-rule : (rule : Rule) → rule_in (laid qs (base rule)) ≡ rule
    unfolding laid started changed
    laid-rule cutting = refl
    laid-rule half_even = refl

    behind-pairs : drop (window_words (length qs)) (base cutting) ≡ drop (window_words (length qs)) (base half_even)
    unfolding started changed
    behind-pairs = let rest = replicate (w * 2) 0 ++ drop (window_words w) lent in drop-five 0 0 0 display 0 (length qs * 2) rest ∙ sym (drop-five 0 0 0 display 1 (length qs * 2) rest)

    -- the changeover
    changed-laid : (rule : Rule) → changed (laid qs (base rule)) ≡ laid qs (base half_even)
    unfolding laid started changed
    changed-laid cutting = ap (λ m. length qs ∷ sum_in (firsts qs) ∷ sum_in (seconds qs) ∷ display ∷ 1 ∷ (flat qs ++ m)) behind-pairs
    changed-laid half_even = refl

-- ---- runs

-- a question behind which nothing is asked
asked-alone : (a : ℕ) → first_of a 0 ≡ a
asked-alone a = go (eqb a 0) refl
  where
    go : (b : Bool) → eqb a 0 ≡ b → first_of a 0 ≡ a
    go true e = rw e (sym (eqb-true a 0 e))
    go false e = rw e

module _ (l masks : List ℕ) (page w first second : ℕ) where
  abbrev scale : ℕ
  scale = scale_at l first

  -- what is accepted is small
  call-small : (g : Given) (m : List ℕ) (p : Pair ℕ) → call l masks page w first second g m ≡ added p → small_pair p ≡ true
  unfolding add_record
  call-small g m p e =
      let d = decode_record l masks page g.bytes g.items g.text g.work in
      added-small (before_asks l masks page w first second m g.work) (Records.number_of d) (pair_in l first second (items_of d)) p e

  module _ (display : ℕ) where
    abbrev tells : List Event → List ℕ → Rule → List (Pair ℕ)
    tells = told_in l masks page w first second display

    -- what is told is small
    told-small : (es : List Event) (m : List ℕ) (rule : Rule) → all_small (tells es m rule) ≡ true
    told-small [] m rule = refl
    told-small (comes g ∷ es) m rule = go (call l masks page w first second g m) refl (λ m'. told-small es m' rule)
      where
        go : (x : Added) → call l masks page w first second g m ≡ x → ((m' : List ℕ) → all_small (tells es m' rule) ≡ true)
            → all_small (map (contributed_pair scale display rule) (pairs_in x) ++ tells es (window_after scale w m x) rule) ≡ true
        go (refused n) e ih = ih m
        go (added p) e ih = and (contributed-pair scale display rule p (call-small g m p e)) (ih (window_after scale w m (added p)))
    told-small (changeover work ∷ es) m rule = told-small es (behind l masks page w first second (changeover work) m) (rule_behind l masks page w first second (changeover work) m rule)

    module _ (lent : List ℕ) where
      abbrev fresh-under : Rule → List ℕ
      fresh-under rule = base w display lent rule

      -- the run from a window m is what these pairs and then the told ones make
      abbrev Runs : List Event → List (Pair ℕ) → List ℕ → Rule → Type 0
      Runs es qs m rule = run l masks page w first second es m ≡ laid (last_of w (qs ++ tells es m rule)) (fresh-under (rule_after l masks page w first second es m rule))

      run-laid : (es : List Event) (rule : Rule) (qs : List (Pair ℕ)) → length qs ≤ w → Runs es qs (laid qs (fresh-under rule)) rule
      run-laid [] rule qs few = ap (λ rs. laid rs (fresh-under rule)) (sym (ap (last_of w) (append-nil qs) ∙ last-few w qs few))
      run-laid (comes g ∷ es) rule qs few = go (call l masks page w first second g m) (λ rs. run-laid es rule rs)
        where
          m : List ℕ
          m = laid qs (fresh-under rule)

          go : (x : Added) → ((rs : List (Pair ℕ)) → length rs ≤ w → Runs es rs (laid rs (fresh-under rule)) rule)
              → run l masks page w first second es (window_after scale w m x)
              ≡ laid (last_of w (qs ++ (map (contributed_pair scale display rule) (pairs_in x) ++ tells es (window_after scale w m x) rule)))
              (fresh-under (rule_after l masks page w first second es (window_after scale w m x) rule))
          go (refused n) ih = ih qs few
          go (added p) ih =
              let c : Pair ℕ = contributed_pair scale display rule p in
              let e : window_after scale w m (added p) ≡ laid (last_of w (qs ++ (c ∷ []))) (fresh-under rule) =
              (λ i. accepted w (contributed_pair scale (laid-display w display lent qs rule i) (laid-rule w display lent qs rule i) p) m) ∙ accepted-laid w (fresh-under rule) qs few c in
              subst (λ n. run l masks page w first second es n ≡ laid (last_of w (qs ++ (c ∷ tells es n rule))) (fresh-under (rule_after l masks page w first second es n rule))) (sym e)
              (ih (last_of w (qs ++ (c ∷ []))) (last-length w (qs ++ (c ∷ [])))
              ∙ ap (λ ps. laid ps (fresh-under (rule_after l masks page w first second es (laid (last_of w (qs ++ (c ∷ []))) (fresh-under rule)) rule)))
              (one_more w qs (tells es (laid (last_of w (qs ++ (c ∷ []))) (fresh-under rule)) rule) c))
      run-laid (changeover work ∷ es) rule qs few = go (eqb (asked l masks page w first second work m) 0) (run-laid es rule qs few) (run-laid es half_even qs few)
        where
          m : List ℕ
          m = laid qs (fresh-under rule)

          go : (b : Bool) → Runs es qs m rule → Runs es qs (laid qs (fresh-under half_even)) half_even → Runs es qs (cond b (changed m) m) (cond b half_even rule)
          go true stays passes = subst (λ n. Runs es qs n half_even) (sym (changed-laid w display lent qs rule)) passes
          go false stays passes = stays

module _ (l masks : List ℕ) (page w first second display : ℕ) (lent : List ℕ) (es : List Event) (few : w ≤ 4096) (shown : display ≤ scale_at l first)
    (long : window_words w ≤ length lent) where
  pairs : List (Pair ℕ)
  pairs = told l masks page w first second display lent es

  rule : Rule
  rule = rule_now l masks page w first second display lent es

  end : List ℕ
  end = ended l masks page w first second display lent es

  start : List ℕ
  start = base w display lent rule

  words : end ≡ laid (last_of w pairs) start
  unfolding pairs rule end start
  words =
      subst
      (λ m. run l masks page w first second es m ≡ laid (last_of w (told_in l masks page w first second display es m cutting)) (base w display lent (rule_after l masks page w first second es m cutting)))
      (begun w display lent cutting) (run-laid l masks page w first second display lent es cutting [] (omega arith))

  held : held_in end ≡ last_of w pairs
  held = ap held_in words ∙ held-laid (last_of w pairs) start

  -- what a pair contributes to this window, and what it holds with it
  contributes : (p : Pair ℕ) → contributed_pair (scale_at l first) (display_in end) (rule_in end) p ≡ contributed_pair (scale_at l first) display rule p
  unfolding start
  contributes p =
      let shows : display_in end ≡ display = ap display_in words ∙ laid-display w display lent (last_of w pairs) rule in
      let rules : rule_in end ≡ rule = ap rule_in words ∙ laid-rule w display lent (last_of w pairs) rule in
      λ i. contributed_pair (scale_at l first) (shows i) (rules i) p

  held_with : (p : Pair ℕ) → held_in (window_after (scale_at l first) w end (added p)) ≡ last_of w (pairs ++ (contributed_pair (scale_at l first) display rule p ∷ []))
  unfolding accepted
  held_with p =
      let c : Pair ℕ = contributed_pair (scale_at l first) display rule p in
      ap (λ q. held_in (accepted w q end)) (contributes p) ∙ held-laid (last_of w (held_in end ++ (c ∷ []))) end
      ∙ ap (λ ps. last_of w (ps ++ (c ∷ []))) held ∙ last-last w pairs (c ∷ [])

  returned : (half : List (Pair ℕ) → List ℕ) (g : Given) (p : Pair ℕ) → call l masks page w first second g end ≡ added p
      → sum_after half (scale_at l first) w end (call l masks page w first second g end) ≡ sum_of (half (last_of w (told_with l masks page w first second display lent es p)))
  unfolding pairs rule
  returned half g p e = ap (sum_after half (scale_at l first) w end) e ∙ ap (λ ps. sum_of (half ps)) (held_with p)

  lawful : lawful_in w (scale_at l first) end ≡ true
  unfolding pairs start
  lawful =
      ap (lawful_in w (scale_at l first)) words
      ∙ laid-lawful w (scale_at l first) start (last_of w pairs) (last-length w pairs) (subst (λ d. d ≤ scale_at l first) (sym (base-display w display lent rule)) shown) (base-passed w display lent rule)
      (small-drop (length pairs - w) pairs (told-small l masks page w first second display es (started w display lent) cutting))

  end-length : length end ≡ length lent
  unfolding start
  end-length =
      let b : length start ≡ length lent = base-length w display lent rule long in
      ap length words ∙ laid-length (last_of w pairs) start (omega (arith, last-length w pairs, b)) ∙ b

  asks : (work : ℕ) → before_asks l masks page w first second end work ≡ window_asks l masks page w first second 0 (length lent) work
  unfolding before_asks
  asks work = rw lawful (asked-alone (window_asks l masks page w first second 0 (length end) work)) ∙ ap (λ n. window_asks l masks page w first second 0 n work) end-length

  as-told : end ≡ tell w pairs start
  unfolding start
  as-told = words ∙ sym (tell-laid w start pairs [] (omega arith)) ∙ ap (tell w pairs) (begun w display lent rule)

  again : rule ≡ half_even → changed end ≡ end
  unfolding start
  again h = ap changed words ∙ changed-laid w display lent (last_of w pairs) rule ∙ ap (λ r. laid (last_of w pairs) (base w display lent r)) (sym h) ∙ sym words

  kept : Kept l masks page w first second display lent es
  unfolding pairs rule end start
  kept = record {
    as_told = as-told;
    words = words;
    held = held;
    first_sum = first-true w (scale_at l first) end few lawful ∙ ap (λ ps. sum_of (firsts ps)) held;
    second_sum = second-true w (scale_at l first) end few lawful ∙ ap (λ ps. sum_of (seconds ps)) held;
    returned = returned;
    lawful = rw lawful;
    asks = asks;
    again = again;
  }

pub runs-kept : RunsKept
runs-kept l masks page w first second display work lent es passed =
    kept l masks page w first second display lent es (asks-few l masks page w first second display (length lent) work passed).1
    (asks-shown l masks page w first second display (length lent) work passed)
    (asks-long l masks page w first second display (length lent) work passed)

-- ---- without a display scale

pub without-display : WithoutDisplay
without-display l masks page w first second [] m _ = refl
without-display l masks page w first second (e ∷ es) m rule =
    ap₂ (λ ps qs. ps ++ qs) (map-itself (brings l masks page w first second e m))
    (without-display l masks page w first second es (behind l masks page w first second e m) (rule_behind l masks page w first second e m rule))
  where
    map-itself : (ps : List (Pair ℕ)) → map (contributed_pair (scale_at l first) 0 rule) ps ≡ ps
    map-itself [] = refl
    map-itself (p ∷ ps) = ap₂ (λ q qs. q ∷ qs) (pair-itself (scale_at l first) rule p) (map-itself ps)

-- ---- a changeover leaves the other words

pub change-keeps : ChangeKeeps
unfolding changed
change-keeps m k h = get_or-set_other m 4 k 1 0 (λ z. h z)
