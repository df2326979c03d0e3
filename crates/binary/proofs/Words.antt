-- Bytes read and written by the loops, and read back.
use mathlib.Core.Path.{◌≡◌, refl, sym, ap, ◌∙◌, subst}
use mathlib.Core.Bool.{Bool, true, false, cond}
use mathlib.Core.List.{List, [], ◌∷◌, ◌++◌, append-nil, append_assoc}
use Prim.Native.Nat.{ℕ, zero, suc, ◌+◌, ◌-◌, ◌*◌, ◌/◌, ◌%◌, ◌^◌, ◌≤◌, ◌<◌, suc-le-suc}
use borrow.Author.Tests.{eq-eqb, ne_eqb}
use native.Mathlib.Nat.{sub-zero, not-suc-le-zero, le_of_suc-le-suc, mod-lt, mod-one, pow-zero, pow-suc, pow-succ', add-mul, mul_assoc, add_assoc, zero-mul, zero-add, div-div-eq-div-mul, zero-lt-suc}
use native.Mathlib.Numerals.{add-one}
use native.Mathlib.Omega.{arith}
use lib.Arith.{mod-mul, digits_lt}
use lib.Dec.{eqb, lit<}
use lib.ListN.{length, get_or, take, drop, set}
use lib.Seq.{take_all, take-suc-set}
use Rattle.std.specs.List.{fold}
use Rattle.std.proofs.Common.{reverse, ◌⊎◌, inl, inr}
use Rattle.std.proofs.lemmas.Bool.{cases_eq}
use Rattle.std.proofs.lemmas.List.{reverse-append}
use Rattle.std.proofs.lemmas.List.Sums.{fold-append}
use Rattle.lists.proofs.Lists.{drop-set}
use Rattle.binary.specs.Bytes.{big_from, little_of, word_in, big_bytes, little_bytes, bytes_of}

-- ---- reading

-- one byte more, in a word of 64 bits
abbrev pub more : ℕ → ℕ → ℕ
more w b = (w * 256 + b) % 2 ^ 64

shifted : (x y : ℕ) → more (x % 2 ^ 64) y ≡ (x * 256 + y) % 2 ^ 64
shifted x y = omega arith

big-more : (acc : ℕ) (s : List ℕ) → fold more (acc % 2 ^ 64) s ≡ big_from acc s % 2 ^ 64
big-more acc [] = refl
big-more acc (x ∷ s) = ap (λ (w : ℕ). fold more w s) (shifted acc x) ∙ big-more (acc * 256 + x) s

pub fold-big : (s : List ℕ) → fold more 0 s ≡ big_from 0 s % 2 ^ 64
fold-big s = big-more 0 s

pub fold-little : (s : List ℕ) → fold more 0 (reverse s) ≡ little_of s % 2 ^ 64
fold-little [] = refl
fold-little (x ∷ s) = ap (fold more 0) (reverse-append (x ∷ []) s) ∙ fold-append more 0 (reverse s) (x ∷ []) ∙ ap (λ (w : ℕ). more w x) (fold-little s) ∙ shifted (little_of s) x

-- ---- bounds

pow-pos256 : (n : ℕ) → 0 < 256 ^ n
pow-pos256 zero = rw pow-zero (lit< tt)
pow-pos256 (suc n) = let h = pow-pos256 n in rw pow-suc (omega arith)

big-below : (s : List ℕ) (acc n : ℕ) → ((k : ℕ) → k < length s → get_or s k 0 < 256) → acc < 256 ^ n → big_from acc s < 256 ^ (n + length s)
big-below [] acc n h l = let e : n + 0 ≡ n = omega arith in rw e l
big-below (x ∷ s) acc n h l =
    let e : n + suc (length s) ≡ suc n + length s = omega arith in
    let k : x < 256 = h 0 (zero-lt-suc (length s)) in
    let m : acc * 256 + x < 256 ^ suc n = rw (pow-suc 256 n) (digits_lt l k) in
    rw e (big-below s (acc * 256 + x) (suc n) (λ j b. h (suc j) (suc-le-suc b)) m)

little-below : (s : List ℕ) → ((k : ℕ) → k < length s → get_or s k 0 < 256) → little_of s < 256 ^ length s
little-below [] h = rw pow-zero (lit< tt)
little-below (x ∷ s) h =
    let k : x < 256 = h 0 (zero-lt-suc (length s)) in
    rw (pow-suc 256 (length s)) (digits_lt (little-below s (λ j b. h (suc j) (suc-le-suc b))) k)

pub word_below : (order : ℕ) (s : List ℕ) → ((k : ℕ) → k < length s → get_or s k 0 < 256) → word_in order s < 256 ^ length s
unfolding word_in
word_below order s h = by (eqb order 0)
  where
    by : (b : Bool) → cond b (big_from 0 s) (little_of s) < 256 ^ length s
    by true = subst (λ (n : ℕ). big_from 0 s < 256 ^ n) (zero-add (length s)) (big-below s 0 0 h (rw pow-zero (lit< tt)))
    by false = little-below s h

-- ---- writing

next-byte : (n v : ℕ) → v / 256 ^ n / 256 ≡ v / 256 ^ suc n
next-byte n v = rw (div-div-eq-div-mul, pow-suc)

-- from i on the low bytes are written; rest is what is left of the number
pub record Put (l : List ℕ) (n w i rest : ℕ) : Type 0 where
  pub tail : drop i l ≡ big_bytes (n - i) w
  pub left : rest ≡ w / 256 ^ (n - i)

put-more : (l : List ℕ) (n w i rest : ℕ) → 0 < i → i ≤ n → length l ≡ n → Put l n w i rest → Put (set l (i - 1) (rest % 256)) n w (i - 1) (rest / 256)
put-more l n w i rest h k e r =
    let d : n - (i - 1) ≡ suc (n - i) = omega arith in
    let s : suc (i - 1) ≡ i = omega arith in
    record {
      tail = rw (d, drop-set l (i - 1) (rest % 256) (omega arith), s, r.tail, r.left);
      left = rw (d, r.left, next-byte);
    }

little-more : (l : List ℕ) (n w i rest : ℕ) → i < n → length l ≡ n → little_bytes n w ≡ take i l ++ little_bytes (n - i) rest
    → little_bytes n w ≡ take (i + 1) (set l i (rest % 256)) ++ little_bytes (n - (i + 1)) (rest / 256)
little-more l n w i rest h e q =
    let d : n - i ≡ suc (n - (i + 1)) = omega arith in
    q ∙ rw (d, add-one, take-suc-set l i (rest % 256) (omega arith), append_assoc)

-- after k bytes, stored from the right end in Big and from the left end in Little
pub record Turn (l : List ℕ) (n order w k rest : ℕ) : Type 0 where
  pub big : order ≡ 0 → Put l n w (n - k) rest
  pub little : (order ≡ 0 → ⊥) → little_bytes n w ≡ take k l ++ little_bytes (n - k) rest

pub turn-big : (l : List ℕ) (n order w k rest : ℕ) → k < n → length l ≡ n → order ≡ 0 → Turn l n order w k rest → Turn (set l (n - 1 - k) (rest % 256)) n order w (k + 1) (rest / 256)
turn-big l n order w k rest h e z t =
    let i : n - 1 - k ≡ n - k - 1 = omega arith in
    let j : n - (k + 1) ≡ n - k - 1 = omega arith in
    record {
      big = λ q. rw (i, j) (put-more l n w (n - k) rest (omega arith) (omega arith) e (t.big z));
      little = λ f. absurd (f z);
    }

pub turn-little : (l : List ℕ) (n order w k rest : ℕ) → k < n → length l ≡ n → (order ≡ 0 → ⊥) → Turn l n order w k rest → Turn (set l k (rest % 256)) n order w (k + 1) (rest / 256)
turn-little l n order w k rest h e z t = record {
  big = λ q. absurd (z q);
  little = λ f. little-more l n w k rest h e (t.little z);
}

pub turn-all : (l : List ℕ) (n order w k rest : ℕ) → length l ≡ n → n ≤ k → Turn l n order w k rest → l ≡ bytes_of order n w
unfolding bytes_of
turn-all l n order w k rest e h t = go (cases_eq order 0)
  where
    z : n - k ≡ 0
    z = omega arith

    go : (order ≡ 0) ⊎ (order ≡ 0 → ⊥) → l ≡ cond (eqb order 0) (big_bytes n w) (little_bytes n w)
    go (inl q) =
        let p : drop (n - k) l ≡ big_bytes (n - (n - k)) w = (t.big q).tail in
        rw (eq-eqb order 0 q) (rw (z, sub-zero) at p)
    go (inr q) =
        let p : little_bytes n w ≡ take k l ++ little_bytes (n - k) rest = t.little q in
        let a : take k l ≡ l = take_all k l (omega arith) in
        rw (ne_eqb order 0 q) (sym (rw (z, append-nil, a) at p))

-- ---- what is written is read back, modulo the width

big-value : (acc n v : ℕ) → big_from acc (big_bytes n v) ≡ acc * 256 ^ n + v % 256 ^ n
big-value acc zero v = rw (pow-zero, mod-one) (omega arith)
big-value acc (suc n) v = big-value (acc * 256 + v / 256 ^ n % 256) n v ∙
    rw (pow-succ' 256 n, mod-mul v {m = 256} {c = 256 ^ n} (lit< tt) (pow-pos256 n), add-mul, mul_assoc, add_assoc)

little-value : (n v : ℕ) → little_of (little_bytes n v) ≡ v % 256 ^ n
little-value zero v = rw (pow-zero, mod-one)
little-value (suc n) v = rw (little-value n (v / 256), pow-suc, mod-mul v {m = 256 ^ n} {c = 256} (pow-pos256 n) (lit< tt))

pub word_back : (order n v : ℕ) → word_in order (bytes_of order n v) ≡ v % 256 ^ n
unfolding word_in bytes_of
word_back order n v = by (eqb order 0)
  where
    by : (b : Bool) → cond b (big_from 0 (cond b (big_bytes n v) (little_bytes n v))) (little_of (cond b (big_bytes n v) (little_bytes n v))) ≡ v % 256 ^ n
    by true = big-value 0 n v ∙ rw zero-mul (zero-add (v % 256 ^ n))
    by false = little-value n v

big-length : (n v : ℕ) → length (big_bytes n v) ≡ n
big-length zero v = refl
big-length (suc n) v = ap suc (big-length n v)

little-length : (n v : ℕ) → length (little_bytes n v) ≡ n
little-length zero v = refl
little-length (suc n) v = ap suc (little-length n (v / 256))

pub bytes-length : (order n v : ℕ) → length (bytes_of order n v) ≡ n
unfolding bytes_of
bytes-length order n v = by (eqb order 0)
  where
    by : (b : Bool) → length (cond b (big_bytes n v) (little_bytes n v)) ≡ n
    by true = big-length n v
    by false = little-length n v

big-bytes : (n v k : ℕ) → k < n → get_or (big_bytes n v) k 0 < 256
big-bytes zero v k h = absurd (not-suc-le-zero h)
big-bytes (suc n) v zero h = mod-lt (v / 256 ^ n) (lit< tt)
big-bytes (suc n) v (suc k) h = big-bytes n v k (le_of_suc-le-suc h)

little-bytes : (n v k : ℕ) → k < n → get_or (little_bytes n v) k 0 < 256
little-bytes zero v k h = absurd (not-suc-le-zero h)
little-bytes (suc n) v zero h = mod-lt v (lit< tt)
little-bytes (suc n) v (suc k) h = little-bytes n (v / 256) k (le_of_suc-le-suc h)

pub bytes_below : (order n v k : ℕ) → k < n → get_or (bytes_of order n v) k 0 < 256
unfolding bytes_of
bytes_below order n v k h = by (eqb order 0)
  where
    by : (b : Bool) → get_or (cond b (big_bytes n v) (little_bytes n v)) k 0 < 256
    by true = big-bytes n v k h
    by false = little-bytes n v k h
