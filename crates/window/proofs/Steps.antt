-- What the code does, one store and one turn at a time: each law says what is left to show where a branch ends.
use Rattle.std.proofs.Common.{◌≡◌, ℕ, zero, suc, ◌+◌, ◌-◌, ◌*◌, ◌%◌, ◌^◌, ◌<◌, ◌≤◌, true, false, ◌&&◌, List, [], ◌∷◌, ◌++◌, length, get_or, drop, set, replicate, sym, refl, ap, ap₂, ◌∙◌, arith, get_or-drop, drop-drop, le-ltb, lt-ltb, le-leb}
use borrow.Author.Tests.{lt-leb}
use lib.Seq.{paste}
use Rattle.window.specs.Window.{Pair, pair, firsts, seconds, pairs_of, total, sum_in, window_words, held_in, display_in, small_pair, all_small, lawful_in, started, changed}
use Rattle.window.specs.Steps.{put_at, moved_down, pair_plus, pair_minus, with_head, pushed}

-- ---- stores

pub pair_put : (l : List ℕ) (at a b : ℕ) → 2 + at ≤ length l → set (set l at a) (at + 1) b ≡ put_at at a b l
unfolding put_at
pair_put [] at a b h = absurd (omega arith)
pair_put (x ∷ []) at a b h = absurd (omega arith)
pair_put (x ∷ y ∷ l) zero a b h = refl
pair_put (x ∷ y ∷ l) (suc k) a b h =
    let e : suc k + 1 ≡ suc (k + 1) = omega arith in
    let f : 2 + suc k ≡ suc (2 + k) = omega arith in
    rw (e, f) (ap (λ m. x ∷ m) (pair_put (y ∷ l) k a b (omega arith)))

-- zeros in front of the words behind the window, and the display word
pub start-put : (l : List ℕ) (w display n : ℕ) → n ≡ window_words w → set (replicate n 0 ++ drop n l) 3 display ≡ started w display l
unfolding started
start-put l w display n h =
    let e : n ≡ suc (suc (suc (suc (suc (w * 2))))) = omega arith in
    let f : suc (suc (suc (suc (suc (w * 2))))) ≡ window_words w = omega arith in
    rw e (ap (λ k. 0 ∷ 0 ∷ 0 ∷ display ∷ 0 ∷ (replicate (w * 2) 0 ++ drop k l)) f)

pub change-put : (l : List ℕ) → set l 4 1 ≡ changed l
unfolding changed
change-put l = refl

-- ---- moving down

pub down-all : (l : List ℕ) (w i : ℕ) → i ≡ w * 2 - 2 → paste l 5 (drop 7 l) i ≡ moved_down w l
unfolding moved_down
down-all l w i h = ap (paste l 5 (drop 7 l)) h

-- ---- question 24

module _ (w scale : ℕ) (l : List ℕ) (n : get_or l 0 0 ≤ w) where
  pub not-display : scale < display_in l → false ≡ lawful_in w scale l
  unfolding lawful_in
  not-display h = rw (le-leb (get_or l 0 0) w n, lt-leb (display_in l) scale h)

  pub not-rule : display_in l ≤ scale → 1 < get_or l 4 0 → false ≡ lawful_in w scale l
  unfolding lawful_in
  not-rule s h = rw (le-leb (get_or l 0 0) w n, le-leb (display_in l) scale s, lt-leb (get_or l 4 0) 1 h)

-- so many pairs are judged, and these are the sums so far
pub record Judging (l : List ℕ) (i first second : ℕ) : Type 0 where
  pub within : i ≤ get_or l 0 0
  pub smalls : all_small (held_in l) ≡ all_small (pairs_of (get_or l 0 0 - i) (drop (5 + i * 2) l))
  pub ones : sum_in (firsts (held_in l)) ≡ (first + total (firsts (pairs_of (get_or l 0 0 - i) (drop (5 + i * 2) l)))) % 2 ^ 64
  pub one : first < 2 ^ 64
  pub two : second < 2 ^ 64
  pub twos : sum_in (seconds (held_in l)) ≡ (second + total (seconds (pairs_of (get_or l 0 0 - i) (drop (5 + i * 2) l)))) % 2 ^ 64

module _ (l : List ℕ) (i first second : ℕ) (j : Judging l i first second) (h : i < get_or l 0 0) where
  turn : pairs_of (get_or l 0 0 - i) (drop (5 + i * 2) l) ≡ pair (get_or l (5 + i * 2) 0) (get_or l (5 + i * 2 + 1) 0) ∷ pairs_of (get_or l 0 0 - (i + 1)) (drop (5 + (i + 1) * 2) l)
  turn =
      let e : get_or l 0 0 - i ≡ suc (get_or l 0 0 - (i + 1)) = omega arith in
      let z : 5 + i * 2 + 0 ≡ 5 + i * 2 = omega arith in
      let t : 5 + i * 2 + 2 ≡ 5 + (i + 1) * 2 = omega arith in
      ap (λ n. pairs_of n (drop (5 + i * 2) l)) e
      ∙ λ k. pair ((get_or-drop (5 + i * 2) l 0 0 ∙ ap (λ m. get_or l m 0) z) k) (get_or-drop (5 + i * 2) l 1 0 k) ∷ pairs_of (get_or l 0 0 - (i + 1)) ((drop-drop 2 (5 + i * 2) l ∙ ap (λ m. drop m l) t) k)

  abbrev next : Pair ℕ
  next = pair (get_or l (5 + i * 2) 0) (get_or l (5 + i * 2 + 1) 0)

  abbrev rest : List (Pair ℕ)
  rest = pairs_of (get_or l 0 0 - (i + 1)) (drop (5 + (i + 1) * 2) l)

  module _ (p : Pair ℕ) (e : p ≡ next) where
    pub judging-stops : small_pair p ≡ false → all_small (held_in l) ≡ false
    judging-stops s = j.smalls ∙ ap all_small turn ∙ ap (λ q. small_pair q && all_small rest) (sym e) ∙ ap (λ b. b && all_small rest) s

    pub judging-goes : small_pair p ≡ true → (q : Pair ℕ) → q ≡ pair_plus (pair first second) p → Judging l (i + 1) q.first q.second
    judging-goes s q u =
        let x : q.first ≡ (first + p.first) % 2 ^ 64 = ap (λ r. r.first) u in
        let y : q.second ≡ (second + p.second) % 2 ^ 64 = ap (λ r. r.second) u in
        let f : total (firsts (pairs_of (get_or l 0 0 - i) (drop (5 + i * 2) l))) ≡ p.first + total (firsts (pairs_of (get_or l 0 0 - (i + 1)) (drop (5 + (i + 1) * 2) l)))
        = ap (λ ps. total (firsts ps)) turn ∙ ap (λ r. r.first + total (firsts rest)) (sym e) in
        let g : total (seconds (pairs_of (get_or l 0 0 - i) (drop (5 + i * 2) l))) ≡ p.second + total (seconds (pairs_of (get_or l 0 0 - (i + 1)) (drop (5 + (i + 1) * 2) l)))
        = ap (λ ps. total (seconds ps)) turn ∙ ap (λ r. r.second + total (seconds rest)) (sym e) in
        record {
          within = omega arith;
          smalls = j.smalls ∙ ap all_small turn ∙ ap (λ q. small_pair q && all_small rest) (sym e) ∙ ap (λ b. b && all_small rest) s;
          ones = j.ones ∙ added first p.first _ _ q.first f x;
          twos = j.twos ∙ added second p.second _ _ q.second g y;
          one = omega arith;
          two = omega arith;
        }
      where
        added : (s a t r x : ℕ) → t ≡ a + r → x ≡ (s + a) % 2 ^ 64 → (s + t) % 2 ^ 64 ≡ (x + r) % 2 ^ 64
        added s a t r x e u = omega arith

-- ---- a pair more

module _ (w : ℕ) (p : Pair ℕ) (l : List ℕ) (s : Pair ℕ) (u : s ≡ pair (get_or l 1 0) (get_or l 2 0)) where
  pub push-grows : get_or l 0 0 < w → (m e : List ℕ) (t : Pair ℕ) → m ≡ put_at (5 + get_or l 0 0 * 2) p.first p.second l → t ≡ pair_plus s p
      → e ≡ with_head (1 + get_or l 0 0) t.first t.second m → e ≡ pushed w p.first p.second l
  unfolding pushed
  push-grows h m e t x y z = rw (lt-ltb (get_or l 0 0) w h)
      (z ∙ λ i. with_head (1 + get_or l 0 0) ((y ∙ ap (λ r. pair_plus r p) u) i).first ((y ∙ ap (λ r. pair_plus r p) u) i).second (x i))

  pub push-rolls : w ≤ get_or l 0 0 → (d m e : List ℕ) (o r t : Pair ℕ) → o ≡ pair (get_or l 5 0) (get_or l 6 0) → r ≡ pair_minus s o → d ≡ paste l 5 (drop 7 l) (5 + w * 2 - 7)
      → m ≡ put_at (5 + (w * 2 - 2)) p.first p.second d → t ≡ pair_plus r p → e ≡ with_head w t.first t.second m → e ≡ pushed w p.first p.second l
  unfolding pushed
  push-rolls h d m e o r t x y z a b c =
      let k : 5 + w * 2 - 7 ≡ w * 2 - 2 = omega arith in
      let n : t ≡ pair_plus (pair_minus (pair (get_or l 1 0) (get_or l 2 0)) (pair (get_or l 5 0) (get_or l 6 0))) p = b ∙ ap (λ q. pair_plus q p) (y ∙ ap₂ pair_minus u x) in
      let f : m ≡ put_at (5 + (w * 2 - 2)) p.first p.second (moved_down w l) = a ∙ ap (put_at (5 + (w * 2 - 2)) p.first p.second) (z ∙ down-all l w _ k) in
      rw (le-ltb (get_or l 0 0) w h) (c ∙ λ i. with_head w (n i).first (n i).second (f i))
