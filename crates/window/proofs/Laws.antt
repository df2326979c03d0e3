-- Laws of windows: pairs and their words, what is laid is held, what a pair makes of a window; each is an equation between two windows laid.
use Rattle.std.proofs.Common.{◌≡◌, ℕ, zero, suc, ◌+◌, ◌-◌, ◌*◌, ◌%◌, ◌^◌, ◌<◌, ◌≤◌, Bool, true, cond, ◌&&◌, eqb, ltb, leb, List, [], ◌∷◌, ◌++◌, length, get_or, take, drop, sym, refl, ap, ◌∙◌, append_assoc, arith, length-append, length-drop, drop-drop, take_at, drop_at, le-ltb, lt-ltb, eqb-true, leb-true}
use native.Mathlib.Decide.{dec_lt}
use Rattle.lists.proofs.Logic.{and_left, and_right}
use Rattle.window.specs.Window.{Pair, pair, firsts, seconds, flat, pairs_of, last_of, total, sum_in, window_words, held_in, display_in, laid, all_small, words_ok, sums_ok, lawful_in, accepted}
use Rattle.window.specs.Steps.{put_at, moved_down, word_plus, word_minus, with_head, grown, rolled, pushed}

-- ---- pairs and their words

pub flat-length : (ps : List (Pair ℕ)) → length (flat ps) ≡ length ps * 2
flat-length [] = refl
flat-length (p ∷ ps) = let h : length (flat ps) ≡ length ps * 2 = flat-length ps in omega arith

pub pairs-flat : (ps : List (Pair ℕ)) (r : List ℕ) → pairs_of (length ps) (flat ps ++ r) ≡ ps
pairs-flat [] r = refl
pairs-flat (p ∷ ps) r = ap (λ qs. p ∷ qs) (pairs-flat ps r)

pub pairs-length : (n : ℕ) (l : List ℕ) → length (pairs_of n l) ≡ n
pairs-length zero l = refl
pairs-length (suc n) l = ap suc (pairs-length n (drop 2 l))

pub flat-pairs : (n : ℕ) (l : List ℕ) → n * 2 ≤ length l → flat (pairs_of n l) ++ drop (n * 2) l ≡ l
flat-pairs zero l h = refl
flat-pairs (suc n) [] h = absurd (omega arith)
flat-pairs (suc n) (x ∷ []) h = absurd (omega arith)
flat-pairs (suc n) (x ∷ y ∷ l) h =
    let e : suc n * 2 ≡ suc (suc (n * 2)) = omega arith in
    rw e (ap (λ t. x ∷ y ∷ t) (flat-pairs n l (omega arith)))

module _ (a b : ℕ) where
  pub flat-snoc : (ps : List (Pair ℕ)) → flat (ps ++ (pair a b ∷ [])) ≡ flat ps ++ (a ∷ b ∷ [])
  flat-snoc [] = refl
  flat-snoc (p ∷ ps) = ap (λ t. p.first ∷ p.second ∷ t) (flat-snoc ps)

  pub firsts-snoc : (ps : List (Pair ℕ)) → total (firsts (ps ++ (pair a b ∷ []))) ≡ total (firsts ps) + a
  firsts-snoc [] = omega arith
  firsts-snoc (p ∷ ps) = let h : total (firsts (ps ++ (pair a b ∷ []))) ≡ total (firsts ps) + a = firsts-snoc ps in omega arith

  pub seconds-snoc : (ps : List (Pair ℕ)) → total (seconds (ps ++ (pair a b ∷ []))) ≡ total (seconds ps) + b
  seconds-snoc [] = omega arith
  seconds-snoc (p ∷ ps) = let h : total (seconds (ps ++ (pair a b ∷ []))) ≡ total (seconds ps) + b = seconds-snoc ps in omega arith

  pub snoc-length : (ps : List (Pair ℕ)) → length (ps ++ (pair a b ∷ [])) ≡ 1 + length ps
  snoc-length ps = length-append ps (pair a b ∷ []) ∙ omega arith

-- ---- sums

pub sum_more : (t a s : ℕ) → s ≡ t + a → word_plus (t % 2 ^ 64) a ≡ s % 2 ^ 64
sum_more t a s h = omega arith

pub sum-rolled : (x t a s : ℕ) → s ≡ t + a → word_plus (word_minus ((x + t) % 2 ^ 64) x) a ≡ s % 2 ^ 64
sum-rolled x t a s h = omega arith

-- ---- what is laid

pub held-laid : (ps : List (Pair ℕ)) (l : List ℕ) → held_in (laid ps l) ≡ ps
unfolding laid
held-laid ps l = pairs-flat ps (drop (5 + length ps * 2) l)

-- a window of five words at least, by its words
five : (l : List ℕ) → 5 ≤ length l → l ≡ get_or l 0 0 ∷ get_or l 1 0 ∷ get_or l 2 0 ∷ display_in l ∷ get_or l 4 0 ∷ drop 5 l
five [] h = absurd (omega arith)
five (x0 ∷ []) h = absurd (omega arith)
five (x0 ∷ x1 ∷ []) h = absurd (omega arith)
five (x0 ∷ x1 ∷ x2 ∷ []) h = absurd (omega arith)
five (x0 ∷ x1 ∷ x2 ∷ x3 ∷ []) h = absurd (omega arith)
five (x0 ∷ x1 ∷ x2 ∷ x3 ∷ x4 ∷ l) h = refl

-- places behind the five words
module _ (x0 x1 x2 x3 x4 k : ℕ) (l : List ℕ) where
  pub take-five : take (5 + k) (x0 ∷ x1 ∷ x2 ∷ x3 ∷ x4 ∷ l) ≡ x0 ∷ x1 ∷ x2 ∷ x3 ∷ x4 ∷ take k l
  take-five = let e : 5 + k ≡ suc (suc (suc (suc (suc k)))) = omega arith in rw e

  pub drop-five : drop (5 + k) (x0 ∷ x1 ∷ x2 ∷ x3 ∷ x4 ∷ l) ≡ drop k l
  drop-five = let e : 5 + k ≡ suc (suc (suc (suc (suc k)))) = omega arith in rw e

  pub drop-seven : drop (2 + (5 + k)) (x0 ∷ x1 ∷ x2 ∷ x3 ∷ x4 ∷ l) ≡ drop 2 (drop k l)
  drop-seven = let e : 2 + (5 + k) ≡ suc (suc (suc (suc (suc (k + 2))))) = omega arith in rw e (sym (drop-drop 2 k l))

  -- a pair put behind them
  pub put_five : (a b : ℕ) → put_at (5 + k) a b (x0 ∷ x1 ∷ x2 ∷ x3 ∷ x4 ∷ l) ≡ x0 ∷ x1 ∷ x2 ∷ x3 ∷ x4 ∷ (take k l ++ (a ∷ b ∷ drop 2 (drop k l)))
  unfolding put_at
  put_five a b = rw (take-five, drop-seven)

-- behind the pairs
pub pairs-behind : (ps : List (Pair ℕ)) (r : List ℕ) → drop (length ps * 2) (flat ps ++ r) ≡ r
pairs-behind ps r = drop_at (flat ps) r (length ps * 2) (flat-length ps)

pub pairs-before : (ps : List (Pair ℕ)) (r : List ℕ) → take (length ps * 2) (flat ps ++ r) ≡ flat ps
pairs-before ps r = take_at (flat ps) r (length ps * 2) (flat-length ps)

module _ (a b : ℕ) (l : List ℕ) (ps : List (Pair ℕ)) where
  behind_more : drop 2 (drop (5 + length ps * 2) l) ≡ drop (5 + (1 + length ps) * 2) l
  behind_more = let e : 5 + length ps * 2 + 2 ≡ 5 + (1 + length ps) * 2 = omega arith in drop-drop 2 (5 + length ps * 2) l ∙ ap (λ k. drop k l) e

  -- one pair behind others, laid by hand
  laid-snoc : (n x y : ℕ) → n ≡ 1 + length ps → x ≡ (total (firsts ps) + a) % 2 ^ 64 → y ≡ (total (seconds ps) + b) % 2 ^ 64
      → n ∷ x ∷ y ∷ display_in l ∷ get_or l 4 0 ∷ (flat ps ++ (a ∷ b ∷ drop (5 + (1 + length ps) * 2) l)) ≡ laid (ps ++ (pair a b ∷ [])) l
  unfolding laid
  laid-snoc n x y p q r = rw (p, q, r, snoc-length a b ps, flat-snoc a b ps, firsts-snoc a b ps, seconds-snoc a b ps, append_assoc (flat ps) (a ∷ b ∷ []))

  -- a pair more, while there are fewer than W
  pub grown-laid : grown a b (laid ps l) ≡ laid (ps ++ (pair a b ∷ [])) l
  unfolding laid
  grown-laid =
      ap (with_head (1 + length ps) (word_plus (sum_in (firsts ps)) a) (word_plus (sum_in (seconds ps)) b))
      (put_five _ _ _ _ _ (length ps * 2) (flat ps ++ drop (5 + length ps * 2) l) a b)
      ∙ rw (pairs-before ps (drop (5 + length ps * 2) l), pairs-behind ps (drop (5 + length ps * 2) l), behind_more)
      (laid-snoc (1 + length ps) (word_plus (sum_in (firsts ps)) a) (word_plus (sum_in (seconds ps)) b) refl (sum_more _ _ _ refl) (sum_more _ _ _ refl))

-- the oldest goes, where there are W
pub moved-five : (w x0 x1 x2 x3 x4 y z : ℕ) (m : List ℕ) → moved_down w (x0 ∷ x1 ∷ x2 ∷ x3 ∷ x4 ∷ y ∷ z ∷ m) ≡ x0 ∷ x1 ∷ x2 ∷ x3 ∷ x4 ∷ (take (w * 2 - 2) m ++ drop (w * 2 - 2) (y ∷ z ∷ m))
unfolding moved_down
moved-five w x0 x1 x2 x3 x4 y z m = rw (drop-five x0 x1 x2 x3 x4 (w * 2 - 2) (y ∷ z ∷ m))

module _ (a b : ℕ) (l : List ℕ) (q : Pair ℕ) (qs : List (Pair ℕ)) where
  moved : List ℕ → List ℕ
  moved d = take (length qs * 2) (flat qs ++ d) ++ drop (length qs * 2) (flat (q ∷ qs) ++ d)

  moved-is : (d : List ℕ) → take (length qs * 2) (moved d) ++ (a ∷ b ∷ drop 2 (drop (length qs * 2) (moved d))) ≡ flat qs ++ (a ∷ b ∷ d)
  unfolding moved
  moved-is d =
      let e : length qs * 2 + 2 ≡ length (q ∷ qs) * 2 = omega arith in
      let f : drop 2 (drop (length qs * 2) (flat (q ∷ qs) ++ d)) ≡ d = drop-drop 2 (length qs * 2) (flat (q ∷ qs) ++ d) ∙ ap (λ k. drop k (flat (q ∷ qs) ++ d)) e ∙ pairs-behind (q ∷ qs) d in
      rw (pairs-before qs d, pairs-before qs (drop (length qs * 2) (flat (q ∷ qs) ++ d)), pairs-behind qs (drop (length qs * 2) (flat (q ∷ qs) ++ d)), f)

  rolled-laid : (w : ℕ) → w ≡ length (q ∷ qs) → rolled w a b (laid (q ∷ qs) l) ≡ laid (qs ++ (pair a b ∷ [])) l
  unfolding laid moved
  rolled-laid w h =
      let k : w * 2 - 2 ≡ length qs * 2 = omega arith in
      let d : List ℕ = drop (5 + length (q ∷ qs) * 2) l in
      let e : 5 + length (q ∷ qs) * 2 ≡ 5 + (1 + length qs) * 2 = omega arith in
      let n : w ≡ 1 + length qs = omega arith in
      ap (λ m. with_head w (word_plus (word_minus (sum_in (firsts (q ∷ qs))) q.first) a) (word_plus (word_minus (sum_in (seconds (q ∷ qs))) q.second) b) (put_at (5 + (w * 2 - 2)) a b m))
      (moved-five w _ _ _ _ _ _ _ (flat qs ++ d))
      ∙ ap (with_head w (word_plus (word_minus (sum_in (firsts (q ∷ qs))) q.first) a) (word_plus (word_minus (sum_in (seconds (q ∷ qs))) q.second) b))
      (put_five _ _ _ _ _ (w * 2 - 2) (take (w * 2 - 2) (flat qs ++ d) ++ drop (w * 2 - 2) (flat (q ∷ qs) ++ d)) a b)
      ∙ rw (k, moved-is d, e) (laid-snoc a b l qs w _ _ n (sum-rolled _ _ _ _ refl) (sum-rolled _ _ _ _ refl))

-- ---- a pair more, whatever the window holds

module _ (w a b : ℕ) (l : List ℕ) (ps : List (Pair ℕ)) (few : length ps ≤ w) (some : 0 < w) where
  all-last : length ps < w → last_of w (ps ++ (pair a b ∷ [])) ≡ ps ++ (pair a b ∷ [])
  all-last h = let z : length (ps ++ (pair a b ∷ [])) - w ≡ 0 = omega (arith, snoc-length a b ps) in rw z

  pub pushed-laid : pushed w a b (laid ps l) ≡ laid (last_of w (ps ++ (pair a b ∷ []))) l
  unfolding pushed laid
  pushed-laid = go (dec_lt (length ps) w)
    where
      full : (rs : List (Pair ℕ)) → length rs ≡ w → rolled w a b (laid rs l) ≡ laid (last_of w (rs ++ (pair a b ∷ []))) l
      full [] h = absurd (omega arith)
      full (q ∷ qs) h =
          let z : length (q ∷ qs ++ (pair a b ∷ [])) - w ≡ 1 = omega (arith, snoc-length a b (q ∷ qs)) in
          rolled-laid a b l q qs w (sym h) ∙ ap (λ k. laid (drop k (q ∷ qs ++ (pair a b ∷ []))) l) (sym z)

      go : Dec (length ps < w) → cond (ltb (get_or (laid ps l) 0 0) w) (grown a b (laid ps l)) (rolled w a b (laid ps l)) ≡ laid (last_of w (ps ++ (pair a b ∷ []))) l
      go (yes h) = rw (lt-ltb (length ps) w h) (grown-laid a b l ps ∙ ap (λ rs. laid rs l) (sym (all-last h)))
      go (no h) = rw (le-ltb (length ps) w (omega arith)) (full ps (omega arith))

-- ---- a lawful window is what it holds, laid

module _ (w scale : ℕ) (l : List ℕ) where
  pub words-lawful : lawful_in w scale l ≡ true → words_ok w scale l ≡ true
  unfolding lawful_in
  words-lawful h = and_left (words_ok w scale l) (all_small (held_in l)) (and_left (words_ok w scale l && all_small (held_in l)) (sums_ok l) h)

  pub sums-lawful : lawful_in w scale l ≡ true → sums_ok l ≡ true
  unfolding lawful_in
  sums-lawful h = and_right (words_ok w scale l && all_small (held_in l)) (sums_ok l) h

  pub smalls-lawful : lawful_in w scale l ≡ true → all_small (held_in l) ≡ true
  unfolding lawful_in
  smalls-lawful h = and_right (words_ok w scale l) (all_small (held_in l)) (and_left (words_ok w scale l && all_small (held_in l)) (sums_ok l) h)

  abbrev counted : Bool
  counted = leb (get_or l 0 0) w

  abbrev shown : Bool
  shown = leb (display_in l) scale

  abbrev passed : Bool
  passed = leb (get_or l 4 0) 1

  pub lawful-few : lawful_in w scale l ≡ true → get_or l 0 0 ≤ w
  lawful-few h = leb-true (get_or l 0 0) w (and_left counted shown (and_left (counted && shown) passed (words-lawful h)))

  pub lawful-shown : lawful_in w scale l ≡ true → display_in l ≤ scale
  lawful-shown h = leb-true (display_in l) scale (and_right counted shown (and_left (counted && shown) passed (words-lawful h)))

  pub lawful-passed : lawful_in w scale l ≡ true → get_or l 4 0 ≤ 1
  lawful-passed h = leb-true (get_or l 4 0) 1 (and_right (counted && shown) passed (words-lawful h))

  pub lawful-laid : lawful_in w scale l ≡ true → window_words w ≤ length l → l ≡ laid (held_in l) l
  unfolding laid
  lawful-laid h long =
      let few : get_or l 0 0 ≤ w = lawful-few h in
      let ok : sums_ok l ≡ true = sums-lawful h in
      let s : get_or l 1 0 ≡ sum_in (firsts (held_in l)) = eqb-true _ _ (and_left (eqb (get_or l 1 0) (sum_in (firsts (held_in l)))) (eqb (get_or l 2 0) (sum_in (seconds (held_in l)))) ok) in
      let t : get_or l 2 0 ≡ sum_in (seconds (held_in l)) = eqb-true _ _ (and_right (eqb (get_or l 1 0) (sum_in (firsts (held_in l)))) (eqb (get_or l 2 0) (sum_in (seconds (held_in l)))) ok) in
      let n : length (held_in l) ≡ get_or l 0 0 = pairs-length (get_or l 0 0) (drop 5 l) in
      let r : drop 5 l ≡ flat (held_in l) ++ drop (5 + length (held_in l) * 2) l =
      sym (flat-pairs (get_or l 0 0) (drop 5 l) (omega (arith, length-drop 5 l))) ∙ ap (λ d. flat (held_in l) ++ d) (drop-drop (get_or l 0 0 * 2) 5 l ∙ ap (λ k. drop (5 + k * 2) l) (sym n)) in
      five l (omega arith) ∙ λ i. sym n i ∷ s i ∷ t i ∷ display_in l ∷ get_or l 4 0 ∷ r i

  -- what the code makes of a lawful window is what the definition says
  pub pushed-accepted : (a b : ℕ) → lawful_in w scale l ≡ true → 0 < w → window_words w ≤ length l → pushed w a b l ≡ accepted w (pair a b) l
  unfolding accepted
  pushed-accepted a b h some long =
      let n : length (held_in l) ≤ w = omega (arith, pairs-length (get_or l 0 0) (drop 5 l), lawful-few h) in
      ap (pushed w a b) (lawful-laid h long) ∙ pushed-laid w a b l (held_in l) n some
