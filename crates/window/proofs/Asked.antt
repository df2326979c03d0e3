-- The questions of the calls, one behind the other: what is known where they are passed.
use Rattle.std.proofs.Common.{◌≡◌, ℕ, ◌≤◌, Bool, true, false, cond, ◌&&◌, eqb, leb, List, length, sym, refl, ap, ◌∙◌, arith, eq-eqb, leb-true}
use Rattle.lists.proofs.Logic.{and_left, and_right}
use Rattle.layout.specs.Layout.{layout_asks}
use Rattle.walks.specs.Records.{asking, first_of, decode_record}
use Rattle.walks.proofs.Asked.{both-passed}
use Rattle.window.specs.Window.{Pair, window_words, small_pair, lawful_in}
use Rattle.window.specs.Pair.{scale_at, pair_ok, pair_asks}
use Rattle.window.specs.Calls.{room_asks, lawful_asks, window_asks, before_asks, Added, refused, added, judged}
use Rattle.window.specs.Runs.{ReaderOwn}

passed : (b : Bool) (n : ℕ) → (n ≡ 0 → ⊥) → cond b 0 n ≡ 0 → b ≡ true
passed true n h e = refl
passed false n h e = absurd (h e)

-- ---- what is passed

-- what is accepted passed each question
asking-added : (a : ℕ) (x : Added) (p : Pair ℕ) → asking refused a x ≡ added p → x ≡ added p
asking-added a x p e = go (eqb a 0) refl
  where
    go : (s : Bool) → eqb a 0 ≡ s → x ≡ added p
    go true h = rw h at e
    go false h =
        let f : refused a ≡ added p = rw h at e in
        let z : ◌≡◌ {A = ℕ} 0 1 = cc in
        absurd (omega arith)

judged-small : (q p : Pair ℕ) → judged q ≡ added p → small_pair p ≡ true
judged-small q p e = go (small_pair q) refl
  where
    go : (s : Bool) → small_pair q ≡ s → small_pair p ≡ true
    go true h =
        let f : added q ≡ added p = rw h at e in
        let g : q ≡ p = cc in
        ap small_pair (sym g) ∙ h
    go false h =
        let f : refused 19 ≡ added p = rw h at e in
        let z : ◌≡◌ {A = ℕ} 0 1 = cc in
        absurd (omega arith)

pub added-small : (a c : ℕ) (q p : Pair ℕ) → asking refused a (asking refused c (judged q)) ≡ added p → small_pair p ≡ true
added-small a c q p e = judged-small q p (asking-added c (judged q) p (asking-added a (asking refused c (judged q)) p e))

-- ---- the questions before 24

module _ (l : List ℕ) (w first second display : ℕ) (e : pair_asks l w first second display ≡ 0) where
  abbrev range : Bool
  range = leb 1 w && leb w 4096

  abbrev entries_ok : Bool
  entries_ok = range && pair_ok l first second

  abbrev shown : Bool
  shown = leb display (scale_at l first)

  pair-passed : (entries_ok && shown) ≡ true
  unfolding pair_asks
  pair-passed = passed (entries_ok && shown) 18 (λ z. omega arith) e

  pub pair-few : (1 ≤ w) × (w ≤ 4096)
  pair-few =
      let k : range ≡ true = and_left range (pair_ok l first second) (and_left entries_ok shown pair-passed) in
      (leb-true 1 w (and_left (leb 1 w) (leb w 4096) k), leb-true w 4096 (and_right (leb 1 w) (leb w 4096) k))

  pub pair-shown : display ≤ scale_at l first
  pair-shown = leb-true display (scale_at l first) (and_right entries_ok shown pair-passed)

module _ (l masks : List ℕ) (page w first second display words work : ℕ) where
  -- what is known where all are passed
  module _ (z : window_asks l masks page w first second display words work ≡ 0) where
    behind-layout : (layout_asks l masks page work ≡ 0) × (first_of (pair_asks l w first second display) (room_asks w words) ≡ 0)
    unfolding window_asks
    behind-layout = both-passed (layout_asks l masks page work) (first_of (pair_asks l w first second display) (room_asks w words)) z

    pub asks-few : (1 ≤ w) × (w ≤ 4096)
    asks-few = pair-few l w first second display (both-passed (pair_asks l w first second display) (room_asks w words) behind-layout.1).0

    pub asks-shown : display ≤ scale_at l first
    asks-shown = pair-shown l w first second display (both-passed (pair_asks l w first second display) (room_asks w words) behind-layout.1).0

    pub asks-long : window_words w ≤ words
    asks-long = leb-true (window_words w) words (passed (leb (window_words w) words) 16 (λ e. omega arith) (both-passed (pair_asks l w first second display) (room_asks w words) behind-layout.1).1)

    asks-lawful : layout_asks l masks page work ≡ 0
    asks-lawful = behind-layout.0

-- ---- question 24

module _ (l masks : List ℕ) (page w first second : ℕ) (window : List ℕ) (work : ℕ) where
  abbrev start : ℕ
  start = window_asks l masks page w first second 0 (length window) work

  abbrev lawful_is : Bool → Type 0
  lawful_is b = lawful_in w (scale_at l first) window ≡ b

  pub asked-lawful : before_asks l masks page w first second window work ≡ 0 → (start ≡ 0) × lawful_is true
  unfolding before_asks
  asked-lawful e =
      let p : (start ≡ 0) × (lawful_asks w (scale_at l first) window ≡ 0) = both-passed start (lawful_asks w (scale_at l first) window) e in
      (p.0, passed (lawful_in w (scale_at l first) window) 24 (λ z. omega arith) p.1)

-- ---- the reader behind these questions

pub reader-own : ReaderOwn
unfolding decode_record
reader-own l masks page w first second display words r items text work z = rw (eq-eqb (layout_asks l masks page work) 0 (asks-lawful l masks page w first second display words work z))
