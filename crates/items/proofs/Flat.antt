-- The words of a value list are those of its items.
use mathlib.Core.Path.{◌≡◌, refl, sym, ap, ◌∙◌}
use mathlib.Core.List.{List, [], ◌∷◌, ◌++◌, append-nil, append_assoc}
use Prim.Native.Nat.{ℕ, zero, suc, ◌+◌, ◌-◌, ◌*◌, ◌%◌, ◌≤◌}
use native.Mathlib.Omega.{arith}
use native.Mathlib.Decide.{dec_le}
use lib.ListN.{length, length-append, drop, get_or}
use lib.Seq.{drop-cons, drop-length}
use Rattle.items.specs.Items.{Values, item_words, item_count, words_of, item_at, span_of, values, flat}
use Rattle.spans.specs.Tree.{none, node, end_of, size}
use Rattle.spans.proofs.Tree.{tree-at, tree-none}

pub flat-long : (vs : Values) → length (flat vs) ≡ item_words * size vs
unfolding size
flat-long none = refl
flat-long (node it ms rest) = omega (arith, length-append (flat ms) (flat rest), flat-long ms, flat-long rest)

-- the words from an item on are its own and those of the items behind it
words-at : (v : List ℕ) (lo : ℕ) → lo * item_words + item_words ≤ length v
    → drop (lo * item_words) v ≡ words_of (item_at v lo) ++ drop ((lo + 1) * item_words) v
words-at v lo h =
    let a : drop (lo * item_words) v ≡ get_or v (lo * item_words) 0 ∷ drop (lo * item_words + 1) v = drop-cons v (lo * item_words) 0 (omega arith) ∙ step (lo * item_words) in
    let b : drop (lo * item_words + 1) v ≡ get_or v (lo * item_words + 1) 0 ∷ drop (lo * item_words + 2) v = drop-cons v (lo * item_words + 1) 0 (omega arith) ∙ to (lo * item_words + 1) (suc (lo * item_words + 1)) (lo * item_words + 2) (omega arith) in
    let c : drop (lo * item_words + 2) v ≡ get_or v (lo * item_words + 2) 0 ∷ drop (lo * item_words + 3) v = drop-cons v (lo * item_words + 2) 0 (omega arith) ∙ to (lo * item_words + 2) (suc (lo * item_words + 2)) (lo * item_words + 3) (omega arith) in
    let d : drop (lo * item_words + 3) v ≡ get_or v (lo * item_words + 3) 0 ∷ drop ((lo + 1) * item_words) v = drop-cons v (lo * item_words + 3) 0 (omega arith) ∙ to (lo * item_words + 3) (suc (lo * item_words + 3)) ((lo + 1) * item_words) (omega arith) in
    a ∙ ap (λ (l : List ℕ). get_or v (lo * item_words) 0 ∷ l) (b ∙ ap (λ (l : List ℕ). get_or v (lo * item_words + 1) 0 ∷ l) (c ∙ ap (λ (l : List ℕ). get_or v (lo * item_words + 2) 0 ∷ l) d))
  where
    to : (i m n : ℕ) → m ≡ n → (get_or v i 0 ∷ drop m v) ≡ (get_or v i 0 ∷ drop n v)
    to i m n e = ap (λ (k : ℕ). get_or v i 0 ∷ drop k v) e

    step : (i : ℕ) → (get_or v i 0 ∷ drop (suc i) v) ≡ (get_or v i 0 ∷ drop (i + 1) v)
    step i = to i (suc i) (i + 1) (omega arith)

flat-from : (fuel : ℕ) (v : List ℕ) (lo hi : ℕ) → hi - lo ≤ fuel → lo ≤ hi → hi * item_words ≤ length v → flat (values v lo hi) ++ drop (hi * item_words) v ≡ drop (lo * item_words) v
unfolding values
flat-from zero v lo hi f o h =
    let e : lo ≡ hi = omega arith in
    rw (tree-none (item_at v) span_of lo hi (omega arith)) (ap (λ (k : ℕ). drop (k * item_words) v) (sym e))
flat-from (suc fuel) v lo hi f o h = go (dec_le hi lo) (λ lo' hi'. flat-from fuel v lo' hi')
  where
    go : Dec (hi ≤ lo) → ((lo' hi' : ℕ) → hi' - lo' ≤ fuel → lo' ≤ hi' → hi' * item_words ≤ length v → flat (values v lo' hi') ++ drop (hi' * item_words) v ≡ drop (lo' * item_words) v)
        → flat (values v lo hi) ++ drop (hi * item_words) v ≡ drop (lo * item_words) v
    go (yes k) ih =
        let e : lo ≡ hi = omega arith in
        rw (tree-none (item_at v) span_of lo hi k) (ap (λ (k : ℕ). drop (k * item_words) v) (sym e))
    go (no k) ih = turn (end_of (span_of (item_at v lo)) lo hi) (omega arith) (omega arith) refl ih
      where
        turn : (en : ℕ) → lo + 1 ≤ en → en ≤ hi → en ≡ end_of (span_of (item_at v lo)) lo hi
            → ((lo' hi' : ℕ) → hi' - lo' ≤ fuel → lo' ≤ hi' → hi' * item_words ≤ length v → flat (values v lo' hi') ++ drop (hi' * item_words) v ≡ drop (lo' * item_words) v)
            → flat (values v lo hi) ++ drop (hi * item_words) v ≡ drop (lo * item_words) v
        turn en a b q ih = rw (tree-at (item_at v) span_of lo hi (item_at v lo) en (omega arith) refl q)
            (ap (λ (l : List ℕ). words_of (item_at v lo) ++ l)
            (append_assoc (flat (values v (lo + 1) en)) (flat (values v en hi)) (drop (hi * item_words) v)
            ∙ ap (λ (l : List ℕ). flat (values v (lo + 1) en) ++ l) (ih en hi (omega arith) b h) ∙ ih (lo + 1) en (omega arith) a (omega arith))
            ∙ sym (words-at v lo (omega arith)))

pub flat-values : (v : List ℕ) → length v % item_words ≡ 0 → flat (values v 0 (item_count v)) ≡ v
flat-values v h =
    let n : item_count v * item_words ≡ length v = omega arith in
    let d : drop (item_count v * item_words) v ≡ [] = ap (λ (k : ℕ). drop k v) n ∙ drop-length v in
    sym (append-nil (flat (values v 0 (item_count v)))) ∙ ap (λ (l : List ℕ). flat (values v 0 (item_count v)) ++ l) (sym d)
    ∙ flat-from (item_count v) v 0 (item_count v) (omega arith) (omega arith) (omega arith)
