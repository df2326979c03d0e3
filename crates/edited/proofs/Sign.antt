-- The sign of what is edited is the number's.
use mathlib.Core.Path.{◌≡◌, refl, ap, ◌∙◌}
use mathlib.Core.Bool.{Bool, true, false, ◌&&◌, ◌||◌, cond, and-false}
use mathlib.Core.List.{List, [], ◌∷◌, ◌++◌}
use Prim.Native.Nat.{ℕ, zero, suc, ◌+◌, ◌-◌}
use native.Mathlib.Omega.{arith}
use lib.Dec.{eqb, leb, ltb}
use lib.ListN.{length, get_or, length-append}
use lib.Seq.{get_or_at, get_or-append-add}
use borrow.Author.Tests.{eq-eqb, ne_eqb, le-leb, lt-leb}
use Rattle.lists.proofs.Logic.{or-true}
use Rattle.lists.specs.Scan.{left_by, join_by, right_by}
use Rattle.value.specs.Field.{last_of}
use Rattle.value.proofs.Digits.{digit-below}
use Rattle.numerals.specs.Numerals.{is_blank, trimmed}
use Rattle.edited.specs.Edited.{upper, ends_in, minus_at_an_end, negative_of, count_of, positions, edit_byte, sup_after, digit_byte, edit_from, pad_of, edited}
use Rattle.edited.specs.Fits.{Tells}
use Rattle.edited.specs.Fits.Tells.{first-plus, first-minus, last-plus, last-minus, credit, debit}
use Rattle.edited.proofs.Marks.{All, Mark}
use Rattle.edited.proofs.Marks.All.{end, one}
use Rattle.edited.proofs.Marks.Mark.{nine, zed, star, comma, point, slash, blank, nought, dollar, plus, minus, cee, arr, dee}

-- ---- what holds of every byte holds of those that trimming leaves

module _ (P : ℕ → Type 0) where
  all-cond : (b : Bool) {s t : List ℕ} → All P s → All P t → All P (cond b s t)
  all-cond true a b = a
  all-cond false a b = b

  all_left : (f : ℕ → Bool) {s : List ℕ} → All P s → All P (left_by f s)
  unfolding left_by
  all_left f end = end
  all_left f (one {x = x} p a) = all-cond (f x) (all_left f a) (one p a)

  all_join : (f : ℕ → Bool) {x : ℕ} {s : List ℕ} → P x → All P s → All P (join_by f x s)
  all_join f {x} p end = all-cond (f x) end (one p end)
  all_join f p (one q a) = one p (one q a)

  all_right : (f : ℕ → Bool) {s : List ℕ} → All P s → All P (right_by f s)
  unfolding right_by
  all_right f end = end
  all_right f (one p a) = all_join f p (all_right f a)

  all-or-none : P 0 → {s : List ℕ} → All P s → (k : ℕ) → P (get_or s k 0)
  all-or-none z end k = z
  all-or-none z (one p a) zero = p
  all-or-none z (one p a) (suc k) = all-or-none z a k

-- ---- no minus: nothing that is shown tells of one

record Calm (b : ℕ) : Type 0 where
  no_minus : eqb b 45 ≡ false
  no-r : eqb (upper b) 82 ≡ false
  no-b : eqb (upper b) 66 ≡ false

calm-cond : (t : Bool) (a b : ℕ) → Calm a → Calm b → Calm (cond t a b)
calm-cond true a b p q = p
calm-cond false a b p q = q

calm-digit : (size place : ℕ) → Calm (digit_byte size place)
calm-digit size place =
    let d = digit_byte size place in
    let b = digit-below place size in
    let l : leb 97 d ≡ false = lt-leb 97 d (omega arith) in
    record {
      no_minus = ne_eqb d 45 (λ e. omega arith);
      no-r = rw (l, ne_eqb d 82 (λ e. omega arith));
      no-b = rw (l, ne_eqb d 66 (λ e. omega arith));
    }

calm-blank : Calm 32
calm-blank = record { no_minus = refl; no-r = refl; no-b = refl }

calm-star : Calm 42
calm-star = record { no_minus = refl; no-r = refl; no-b = refl }

module _ (pad size : ℕ) (hp : Calm pad) where
  calm-byte : {c : ℕ} → Mark c → (prev d : ℕ) (sup : Bool) → Calm d → Calm (edit_byte false pad prev c d sup)
  unfolding edit_byte
  calm-byte nine prev d sup h = h
  calm-byte zed prev d sup h = calm-cond (sup && eqb d 48) 32 d calm-blank h
  calm-byte star prev d sup h = calm-cond (sup && eqb d 48) 42 d calm-star h
  calm-byte comma prev d sup h = calm-cond sup pad 44 hp (record { no_minus = refl; no-r = refl; no-b = refl })
  calm-byte point prev d sup h = record { no_minus = refl; no-r = refl; no-b = refl }
  calm-byte slash prev d sup h = record { no_minus = refl; no-r = refl; no-b = refl }
  calm-byte blank prev d sup h = calm-blank
  calm-byte nought prev d sup h = record { no_minus = refl; no-r = refl; no-b = refl }
  calm-byte dollar prev d sup h = record { no_minus = refl; no-r = refl; no-b = refl }
  calm-byte plus prev d sup h = record { no_minus = refl; no-r = refl; no-b = refl }
  calm-byte minus prev d sup h = calm-blank
  calm-byte cee prev d sup h = calm-blank
  calm-byte arr prev d sup h = calm-blank
  calm-byte dee prev d sup h = calm-blank

  calm-all : {mask : List ℕ} → All Mark mask → (prev : ℕ) (sup : Bool) → All Calm (edit_from false pad size prev mask sup)
  unfolding edit_from
  calm-all end prev sup = end
  calm-all (one {x = c} {s = m} k l) prev sup =
      let d = digit_byte size (positions m) in
      one (calm-byte k prev d sup (calm-digit size (positions m))) (calm-all l c (sup_after c d sup))

no_sign : (p q r s : Bool) → ((p && (q && false)) || ((r && (s && false)) || false)) ≡ false
no_sign p q r s = rw (and-false q, and-false p, and-false s, and-false r)

calm-positive : (t : List ℕ) → All Calm t → negative_of t ≡ false
unfolding negative_of
calm-positive t a =
    let first = all-or-none Calm (record { no_minus = refl; no-r = refl; no-b = refl }) a 0 in
    let last = all-or-none Calm (record { no_minus = refl; no-r = refl; no-b = refl }) a (length t - 1) in
    rw (last.no-r, last.no-b, first.no_minus, last.no_minus)
    (no_sign (leb 2 (length t)) (eqb (upper (get_or t (length t - 2) 0)) 67) (leb 2 (length t)) (eqb (upper (get_or t (length t - 2) 0)) 68))

pub positive_back : (size : ℕ) {mask : List ℕ} → All Mark mask → negative_of (trimmed (edited false size mask)) ≡ false
positive_back size {mask} l =
    calm-positive (trimmed (edited false size mask))
    (all_right Calm is_blank (all_left Calm is_blank (calm-all (pad_of mask) size (calm-cond (ltb 0 (count_of 42 mask)) 42 32 calm-star calm-blank) l 0 true)))

-- ---- a minus: a sign mark first or last, CR or DB last

-- what is edited of a mask m ++ n ends in what is edited of n
record Tail (negative : Bool) (pad size : ℕ) (whole n : List ℕ) : Type 0 where
  before : List ℕ
  prev : ℕ
  sup : Bool
  is : whole ≡ before ++ edit_from negative pad size prev n sup

tail_of : (negative : Bool) (pad size : ℕ) (m n : List ℕ) (prev : ℕ) (sup : Bool) → Tail negative pad size (edit_from negative pad size prev (m ++ n) sup) n
unfolding edit_from
tail_of negative pad size [] n prev sup = record { before = []; prev = prev; sup = sup; is = refl }
tail_of negative pad size (c ∷ m) n prev sup =
    let d = digit_byte size (positions (m ++ n)) in
    let w = tail_of negative pad size m n c (sup_after c d sup) in
    let b = edit_byte negative pad prev c d sup in
    record { before = b ∷ w.before; prev = w.prev; sup = w.sup; is = ap (λ (l : List ℕ). b ∷ l) w.is }

-- a tail without blanks at its ends is kept by trimming
record Ends (t : List ℕ) (a : ℕ) (w : List ℕ) : Type 0 where
  rest : List ℕ
  is : t ≡ rest ++ (a ∷ w)

module _ (a : ℕ) (w : List ℕ) (hl : left_by is_blank (a ∷ w) ≡ a ∷ w) (hr : right_by is_blank (a ∷ w) ≡ a ∷ w) where
  left-keeps : (xs : List ℕ) → Ends (left_by is_blank (xs ++ (a ∷ w))) a w
  unfolding left_by
  left-keeps [] = record { rest = []; is = hl }
  left-keeps (x ∷ xs) = by (is_blank x) (left-keeps xs)
    where
      by : (t : Bool) → Ends (left_by is_blank (xs ++ (a ∷ w))) a w → Ends (cond t (left_by is_blank (xs ++ (a ∷ w))) (x ∷ (xs ++ (a ∷ w)))) a w
      by true e = e
      by false e = record { rest = x ∷ xs; is = refl }

  join-keeps : (y : ℕ) (ys : List ℕ) → join_by is_blank y (ys ++ (a ∷ w)) ≡ y ∷ (ys ++ (a ∷ w))
  join-keeps y [] = refl
  join-keeps y (z ∷ ys) = refl

  right-keeps : (ys : List ℕ) → right_by is_blank (ys ++ (a ∷ w)) ≡ ys ++ (a ∷ w)
  unfolding right_by
  right-keeps [] = hr
  right-keeps (y ∷ ys) = ap (join_by is_blank y) (right-keeps ys) ∙ join-keeps y ys

  trim-keeps : (xs : List ℕ) → Ends (trimmed (xs ++ (a ∷ w))) a w
  trim-keeps xs =
      let l = left-keeps xs in
      record { rest = l.rest; is = ap (right_by is_blank) l.is ∙ right-keeps l.rest }

by-minus : (t : List ℕ) → minus_at_an_end t ≡ true → negative_of t ≡ true
unfolding negative_of
by-minus t m = rw m (ap (λ (b : Bool). ends_in 67 82 t || b) (or-true (ends_in 68 66 t)) ∙ or-true (ends_in 67 82 t))

minus-last : (ys : List ℕ) → negative_of (ys ++ (45 ∷ [])) ≡ true
minus-last ys =
    let t = ys ++ (45 ∷ []) in
    let n : length t ≡ length ys + 1 = length-append ys (45 ∷ []) in
    let g : last_of t ≡ 45 = get_or_at ys 45 [] 0 (length t - 1) (omega arith) in
    by-minus t (rw (eq-eqb (last_of t) 45 g) (or-true (eqb (get_or t 0 0) 45)))

two-last : (a b : ℕ) (ys : List ℕ) → upper a ≡ a → upper b ≡ b → ends_in a b (ys ++ (a ∷ b ∷ [])) ≡ true
two-last a b ys ha hb =
    let t = ys ++ (a ∷ b ∷ []) in
    let n : length t ≡ length ys + 2 = length-append ys (a ∷ b ∷ []) in
    let g : get_or t (length t - 2) 0 ≡ a = get_or_at ys a (b ∷ []) 0 (length t - 2) (omega arith) in
    let q : length t - 1 ≡ length ys + 1 = omega arith in
    let h : last_of t ≡ b = ap (λ (k : ℕ). get_or t k 0) q ∙ get_or-append-add ys (a ∷ b ∷ []) 1 0 in
    rw (le-leb 2 (length t) (omega arith), eq-eqb (upper (get_or t (length t - 2) 0)) a (ap upper g ∙ ha), eq-eqb (upper (last_of t)) b (ap upper h ∙ hb))

cr-last : (ys : List ℕ) → negative_of (ys ++ (67 ∷ 82 ∷ [])) ≡ true
unfolding negative_of
cr-last ys = rw (two-last 67 82 ys refl refl)

db-last : (ys : List ℕ) → negative_of (ys ++ (68 ∷ 66 ∷ [])) ≡ true
unfolding negative_of
db-last ys = rw (two-last 68 66 ys refl refl) (or-true (ends_in 67 82 (ys ++ (68 ∷ 66 ∷ []))))

minus-first : (s : List ℕ) → negative_of (trimmed (45 ∷ s)) ≡ true
unfolding left_by right_by
minus-first s = by-minus (join_by is_blank 45 (right_by is_blank s)) (head-is (right_by is_blank s))
  where
    head-is : (r : List ℕ) → minus_at_an_end (join_by is_blank 45 r) ≡ true
    head-is [] = refl
    head-is (y ∷ r) = refl

module _ (pad size : ℕ) where
  ends_so : (a : ℕ) (w : List ℕ) → left_by is_blank (a ∷ w) ≡ a ∷ w → right_by is_blank (a ∷ w) ≡ a ∷ w → ((ys : List ℕ) → negative_of (ys ++ (a ∷ w)) ≡ true)
      → (m n : List ℕ) → ((prev : ℕ) (sup : Bool) → edit_from true pad size prev n sup ≡ a ∷ w) → negative_of (trimmed (edit_from true pad size 0 (m ++ n) true)) ≡ true
  ends_so a w hl hr told m n e =
      let o = tail_of true pad size m n 0 true in
      let k = trim-keeps a w hl hr o.before in
      ap (λ (l : List ℕ). negative_of (trimmed l)) (o.is ∙ ap (λ (l : List ℕ). o.before ++ l) (e o.prev o.sup)) ∙ ap negative_of k.is ∙ told k.rest

  negative-from : {mask : List ℕ} → Tells mask → negative_of (trimmed (edit_from true pad size 0 mask true)) ≡ true
  unfolding edit_from edit_byte sup_after left_by right_by
  negative-from (first-plus m) = minus-first (edit_from true pad size 43 m true)
  negative-from (first-minus m) = minus-first (edit_from true pad size 45 m true)
  negative-from (last-plus m) = ends_so 45 [] refl refl minus-last m (43 ∷ []) (λ prev sup. refl)
  negative-from (last-minus m) = ends_so 45 [] refl refl minus-last m (45 ∷ []) (λ prev sup. refl)
  negative-from (credit m) = ends_so 67 (82 ∷ []) refl refl cr-last m (67 ∷ 82 ∷ []) (λ prev sup. refl)
  negative-from (debit m) = ends_so 68 (66 ∷ []) refl refl db-last m (68 ∷ 66 ∷ []) (λ prev sup. refl)

pub negative_back : (size : ℕ) {mask : List ℕ} → Tells mask → negative_of (trimmed (edited true size mask)) ≡ true
negative_back size {mask} t = negative-from (pad_of mask) size t
