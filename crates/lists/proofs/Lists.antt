-- Laws of lists that copying, filling and storing loops ask for.
use mathlib.Core.Path.{◌≡◌, refl, sym, ap, ◌∙◌}
use mathlib.Core.List.{List, [], ◌∷◌, ◌++◌, map, append-nil}
use Prim.Native.Nat.{ℕ, zero, suc, ◌+◌, ◌-◌, ◌≤◌, ◌<◌, suc-le-suc}
use native.Mathlib.Nat.{not-suc-le-zero, le_of_suc-le-suc, suc-sub-suc, sub-zero, zero-sub, zero-lt-suc}
use native.Mathlib.Numerals.{add-one}
use lib.ListN.{length, get_or, set, take, drop, replicate}
use lib.Seq.{drop-length, drop-drop, drop-set-lt}
use native.Mathlib.Omega.{arith}

-- a loop that copies f of each element to the front: a turn's store
copy-suc : (f : ℕ → ℕ) (src dst : List ℕ) (i : ℕ) → i < length src → i < length dst → set (take i (map f src) ++ drop i dst) i (f (get_or src i 0)) ≡ take (suc i) (map f src) ++ drop (suc i) dst
copy-suc f [] dst i h k = absurd (not-suc-le-zero h)
copy-suc f (x ∷ xs) [] i h k = absurd (not-suc-le-zero k)
copy-suc f (x ∷ xs) (y ∷ ys) zero h k = refl
copy-suc f (x ∷ xs) (y ∷ ys) (suc i) h k = ap (λ (l : List ℕ). f x ∷ l) (copy-suc f xs ys i (le_of_suc-le-suc h) (le_of_suc-le-suc k))

pub copy-go : (f : ℕ → ℕ) (src dst : List ℕ) (i : ℕ) → i < length src → i < length dst → set (take i (map f src) ++ drop i dst) i (f (get_or src i 0)) ≡ take (i + 1) (map f src) ++ drop (i + 1) dst
copy-go f src dst i h k = rw add-one (copy-suc f src dst i h k)

pub drop-replicate : (k n v : ℕ) → drop k (replicate n v) ≡ replicate (n - k) v
drop-replicate zero n v = ap (λ (m : ℕ). replicate m v) (sym (sub-zero n))
drop-replicate (suc k) zero v = ap (λ (m : ℕ). replicate m v) (sym (zero-sub (suc k)))
drop-replicate (suc k) (suc n) v = drop-replicate k n v ∙ ap (λ (m : ℕ). replicate m v) (sym (suc-sub-suc n k))

pub fill_end : (s : List ℕ) (v i : ℕ) → i ≡ length s → replicate i v ++ drop i s ≡ replicate (length s) v
fill_end s v i e =
    ap (λ (n : ℕ). replicate n v ++ drop n s) e ∙ ap (λ (l : List ℕ). replicate (length s) v ++ l) (drop-length s) ∙ append-nil (replicate (length s) v)

pub get_d_map : (f : ℕ → ℕ) (s : List ℕ) (i : ℕ) → i < length s → get_or (map f s) i 0 ≡ f (get_or s i 0)
get_d_map f [] i h = absurd (not-suc-le-zero h)
get_d_map f (x ∷ s) zero h = refl
get_d_map f (x ∷ s) (suc i) h = get_d_map f s i (le_of_suc-le-suc h)

pub map-take : (f : ℕ → ℕ) (n : ℕ) (s : List ℕ) → map f (take n s) ≡ take n (map f s)
map-take f zero s = refl
map-take f (suc n) [] = refl
map-take f (suc n) (x ∷ s) = ap (λ (l : List ℕ). f x ∷ l) (map-take f n s)

pub map-drop : (f : ℕ → ℕ) (n : ℕ) (s : List ℕ) → map f (drop n s) ≡ drop n (map f s)
map-drop f zero s = refl
map-drop f (suc n) [] = refl
map-drop f (suc n) (x ∷ s) = map-drop f n s

pub map-append : (f : ℕ → ℕ) (s t : List ℕ) → map f (s ++ t) ≡ map f s ++ map f t
map-append f [] t = refl
map-append f (x ∷ s) t = ap (λ (l : List ℕ). f x ∷ l) (map-append f s t)

pub map-replicate : (f : ℕ → ℕ) (n v : ℕ) → map f (replicate n v) ≡ replicate n (f v)
map-replicate f zero v = refl
map-replicate f (suc n) v = ap (λ (l : List ℕ). f v ∷ l) (map-replicate f n v)

pub take-replicate : (k n v : ℕ) → k ≤ n → take k (replicate n v) ≡ replicate k v
take-replicate zero n v h = refl
take-replicate (suc k) zero v h = absurd (not-suc-le-zero h)
take-replicate (suc k) (suc n) v h = ap (λ (l : List ℕ). v ∷ l) (take-replicate k n v (le_of_suc-le-suc h))

-- a store at k leaves what stands behind k
pub behind : (out out₀ : List ℕ) (k v : ℕ) → drop k out ≡ drop k out₀ → drop (k + 1) (set out k v) ≡ drop (k + 1) out₀
behind out out₀ k v e = drop-set-lt (k + 1) out k v (omega arith) ∙ sym (drop-drop 1 k out) ∙ ap (drop 1) e ∙ drop-drop 1 k out₀

-- lists that agree from k on agree from any later place on
pub later : (s t : List ℕ) (k n : ℕ) → k ≤ n → drop k s ≡ drop k t → drop n s ≡ drop n t
later s t k n h e =
    let q : k + (n - k) ≡ n = omega arith in
    ap (λ (m : ℕ). drop m s) (sym q) ∙ sym (drop-drop (n - k) k s) ∙ ap (drop (n - k)) e ∙ drop-drop (n - k) k t ∙ ap (λ (m : ℕ). drop m t) q

-- a list stored from its right end: what stands from j on after a store at j
pub drop-set : (l : List ℕ) (j b : ℕ) → j < length l → drop j (set l j b) ≡ b ∷ drop (suc j) l
drop-set [] j b h = absurd (not-suc-le-zero h)
drop-set (x ∷ l) zero b h = refl
drop-set (x ∷ l) (suc j) b h = drop-set l j b (le_of_suc-le-suc h)

-- every element that passes a test, by its place
pub every-at : (P : ℕ → Type 0) (s : List ℕ) → ((k : ℕ) → k < length s → P (get_or s k 0)) → (f g : ℕ → ℕ) → ((x : ℕ) → P x → f x ≡ g x) → map f s ≡ map g s
every-at P [] h f g e = refl
every-at P (x ∷ s) h f g e = λ i. e x (h 0 (zero-lt-suc (length s))) i ∷ every-at P s (λ k b. h (suc k) (suc-le-suc b)) f g e i

pub map-map : (f g : ℕ → ℕ) (s : List ℕ) → map f (map g s) ≡ map (λ x. f (g x)) s
map-map f g [] = refl
map-map f g (x ∷ s) = ap (λ (l : List ℕ). f (g x) ∷ l) (map-map f g s)

pub map_same : (s : List ℕ) → map (λ x. x) s ≡ s
map_same [] = refl
map_same (x ∷ s) = ap (λ (l : List ℕ). x ∷ l) (map_same s)

-- zeros behind a list are what stands past its end
zeros-at : (n k : ℕ) → ◌≡◌ {A = ℕ} (get_or (replicate n 0) k 0) 0
zeros-at zero k = refl
zeros-at (suc n) zero = refl
zeros-at (suc n) (suc k) = zeros-at n k

pub zeros-behind : (s : List ℕ) (n k : ℕ) → get_or (s ++ replicate n 0) k 0 ≡ get_or s k 0
zeros-behind [] n k = zeros-at n k
zeros-behind (x ∷ s) n zero = refl
zeros-behind (x ∷ s) n (suc k) = zeros-behind s n k
