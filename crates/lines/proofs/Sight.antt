-- Names that are the same but for letter case, and their numbers: one turn of each loop, its ends, and what a number tells.
use mathlib.Core.Path.{◌≡◌, refl, sym, ap, ◌∙◌, subst}
use mathlib.Core.Bool.{Bool, true, false, ◌&&◌, cond, false≢true}
use mathlib.Core.List.{List, [], ◌∷◌, ◌++◌, map, map-append}
use Prim.Native.Nat.{ℕ, zero, suc, ◌+◌, ◌≤◌, ◌<◌, zero-le, suc-le-suc, min}
use native.Mathlib.Nat.{not-suc-le-zero, le_of_suc-le-suc, suc-ne-zero, le_of_lt, le_refl, le_trans}
use native.Mathlib.Numerals.{add-one}
use native.Mathlib.Omega.{arith}
use lib.Dec.{eqb, ltb}
use lib.ListN.{length, get_or, set, take, length-map}
use lib.Seq.{take-suc-set, length-take-le}
use borrow.Author.Tests.{eq-eqb, ne_eqb, lt-ltb, le-ltb, eqb-true, ltb-true, ltb-false}
use Rattle.std.specs.Prelude.{IsTrue, ◌↔◌, Option}
use Rattle.std.proofs.lemmas.Grind.{common_steps}
use mathlib.Core.Bool.{not}
use native.Mathlib.Numerals.{one-add}
use Rattle.std.specs.Char.{to_ascii_lowercase}
use Rattle.std.proofs.lemmas.Bool.Decides.{nat_tests}
use Rattle.std.specs.List.{position, position_or_len}
use Rattle.std.specs.Option.{unwrap_or}
use Rattle.lines.proofs.Std.{place_is}
use Rattle.lines.specs.Lines.{line_from}
use Rattle.lines.specs.Names.{fold_of, equal, same_name, index_in, see, see_all, distinct, number_in, names_at, see_at, number_at, count_after, starts_after}

-- ---- the test tells equality

pub equal-self : (a : List ℕ) → equal a a ≡ true
unfolding equal
equal-self [] = refl
equal-self (x ∷ a) = rw (eq-eqb x x refl) (equal-self a)

pub equal_is : (a b : List ℕ) → equal a b ≡ true → a ≡ b
unfolding equal
equal_is [] [] e = refl
equal_is [] (y ∷ b) e = absurd (false≢true e)
equal_is (x ∷ a) [] e = absurd (false≢true e)
equal_is (x ∷ a) (y ∷ b) e = by (eqb x y) refl e (λ q. equal_is a b q)
  where
    by : (t : Bool) → eqb x y ≡ t → (t && equal a b) ≡ true → (equal a b ≡ true → a ≡ b) → x ∷ a ≡ y ∷ b
    by true q r ih = λ i. eqb-true x y q i ∷ ih r i
    by false q r ih = absurd (false≢true r)

-- a test that tells equality is `equal`
equal_decides : (a b : List ℕ) (r : Bool) → IsTrue r ↔ (a ≡ b) → r ≡ equal a b
equal_decides a b true e = let q : a ≡ b = e.0 refl in sym (ap (equal a) (sym q) ∙ equal-self a)
equal_decides a b false e = by (equal a b) refl
  where
    by : (t : Bool) → equal a b ≡ t → false ≡ t
    by true q = absurd (false≢true (e.1 (equal_is a b q)))
    by false q = refl

-- std's small letters are this crate's
lower : (x : ℕ) → to_ascii_lowercase x ≡ fold_of x
lower x = grind (arith, nat_tests)

lowers : (s : List ℕ) → map to_ascii_lowercase s ≡ map fold_of s
lowers [] = refl
lowers (x ∷ s) = λ i. lower x i ∷ lowers s i

pub same_decides : (a b : List ℕ) (r : Bool) → IsTrue r ↔ (map to_ascii_lowercase a ≡ map to_ascii_lowercase b) → r ≡ same_name a b
same_decides a b r e = rw (← lowers a, ← lowers b) (equal_decides (map to_ascii_lowercase a) (map to_ascii_lowercase b) r e)

pub same_self : (a : List ℕ) → same_name a a ≡ true
same_self a = equal-self (map fold_of a)

-- names that are the same are the same to every name
pub same-either : (a b n : List ℕ) → same_name a b ≡ true → same_name a n ≡ same_name b n
same-either a b n e = ap (λ (l : List ℕ). equal l (map fold_of n)) (equal_is (map fold_of a) (map fold_of b) e)

pub same-both : (a b n : List ℕ) → same_name a n ≡ true → same_name b n ≡ true → same_name a b ≡ true
same-both a b n p q =
    ap (λ (l : List ℕ). equal l (map fold_of b)) (equal_is (map fold_of a) (map fold_of n) p ∙ sym (equal_is (map fold_of b) (map fold_of n) q))
    ∙ equal-self (map fold_of b)

-- ---- the index of a name among those that a table points at

pub get_or-map-at : (f : ℕ → List ℕ) (s : List ℕ) (i d : ℕ) → i < length s → get_or (map f s) i [] ≡ f (get_or s i d)
get_or-map-at f [] i d h = absurd (not-suc-le-zero h)
get_or-map-at f (x ∷ s) zero d h = refl
get_or-map-at f (x ∷ s) (suc i) d h = get_or-map-at f s i d (le_of_suc-le-suc h)

index_place : (text held name : List ℕ) → position_or_len (λ x. same_name name (line_from text x)) held ≡ index_in name (map (line_from text) held)
unfolding index_in
index_place text [] name = refl
index_place text (x ∷ held) name = by (same_name name (line_from text x)) (index_place text held name)
  where
    by : (t : Bool) → position_or_len (λ y. same_name name (line_from text y)) held ≡ index_in name (map (line_from text) held)
        → cond (not t) (1 + position_or_len (λ y. same_name name (line_from text y)) held) 0 ≡ cond t 0 (suc (index_in name (map (line_from text) held)))
    by true e = refl
    by false e = rw (one-add, e)

take-least : (count : ℕ) (starts : List ℕ) → take (min count (length starts)) starts ≡ take count starts
take-least count starts = grind (arith, common_steps)

-- the first of the starts at whose name the test passes, or how many these are
pub find_is : (text starts name : List ℕ) (count least r : ℕ) (found : Option ℕ) → least ≡ min count (length starts)
    → found ≡ position (λ x. same_name name (line_from text x)) (take least starts) → r ≡ unwrap_or found (length (take least starts)) → r ≡ index_in name (names_at text starts count)
find_is text starts name count least r found l e q =
    let held : take least starts ≡ take count starts = ap (λ n. take n starts) l ∙ take-least count starts in
    q ∙ ap (λ o. unwrap_or o (length (take least starts))) e ∙ place_is (λ x. same_name name (line_from text x)) (take least starts) ∙ index_place text (take least starts) name
    ∙ ap (λ s. index_in name (map (line_from text) s)) held

pub number_is : (text starts : List ℕ) (count at k : ℕ) (name : List ℕ) → name ≡ line_from text at → k ≡ index_in name (names_at text starts count) → k ≡ number_at text starts count at
number_is text starts count at k name e q = q ∙ ap (λ (n : List ℕ). index_in n (names_at text starts count)) e

-- ---- a number, once given, stays

pub index-most : (n : List ℕ) (seen : List (List ℕ)) → index_in n seen ≤ length seen
unfolding index_in
index-most n [] = zero-le
index-most n (x ∷ seen) = by (same_name n x) (index-most n seen)
  where
    by : (t : Bool) → index_in n seen ≤ length seen → cond t 0 (suc (index_in n seen)) ≤ suc (length seen)
    by true l = zero-le
    by false l = suc-le-suc l

index-append : (n m : List ℕ) (seen : List (List ℕ)) → index_in n seen < length seen → index_in n (seen ++ (m ∷ [])) ≡ index_in n seen
unfolding index_in
index-append n m [] h = absurd (not-suc-le-zero h)
index-append n m (x ∷ seen) h = by (same_name n x) h (λ l. index-append n m seen l)
  where
    by : (t : Bool) → cond t 0 (suc (index_in n seen)) < suc (length seen) → (index_in n seen < length seen → index_in n (seen ++ (m ∷ [])) ≡ index_in n seen)
        → cond t 0 (suc (index_in n (seen ++ (m ∷ [])))) ≡ cond t 0 (suc (index_in n seen))
    by true l ih = refl
    by false l ih = ap suc (ih (le_of_suc-le-suc l))

-- a new name's index is the count of those before it
index-new : (n : List ℕ) (seen : List (List ℕ)) → length seen ≤ index_in n seen → index_in n (seen ++ (n ∷ [])) ≡ length seen
unfolding index_in
index-new n [] h = rw (same_self n)
index-new n (x ∷ seen) h = by (same_name n x) h (λ l. index-new n seen l)
  where
    by : (t : Bool) → suc (length seen) ≤ cond t 0 (suc (index_in n seen)) → (length seen ≤ index_in n seen → index_in n (seen ++ (n ∷ [])) ≡ length seen)
        → cond t 0 (suc (index_in n (seen ++ (n ∷ [])))) ≡ suc (length seen)
    by true l ih = absurd (not-suc-le-zero l)
    by false l ih = ap suc (ih (le_of_suc-le-suc l))

long-snoc : (seen : List (List ℕ)) (m : List ℕ) → length (seen ++ (m ∷ [])) ≡ suc (length seen)
long-snoc [] m = refl
long-snoc (x ∷ seen) m = ap suc (long-snoc seen m)

-- one more sight
pub index_kept : (n m : List ℕ) (seen : List (List ℕ)) → index_in n seen < length seen → index_in n (see seen m) ≡ index_in n seen
index_kept n m seen h = by (ltb (index_in m seen) (length seen))
  where
    by : (t : Bool) → index_in n (cond t seen (seen ++ (m ∷ []))) ≡ index_in n seen
    by true = refl
    by false = index-append n m seen h

see-more : (m : List ℕ) (seen : List (List ℕ)) → length seen ≤ length (see seen m)
see-more m seen = by (ltb (index_in m seen) (length seen))
  where
    by : (t : Bool) → length seen ≤ length (cond t seen (seen ++ (m ∷ [])))
    by true = le_refl (length seen)
    by false = let q : length (seen ++ (m ∷ [])) ≡ suc (length seen) = long-snoc seen m in omega arith

pub see-new : (n : List ℕ) (seen : List (List ℕ)) → index_in n seen ≡ length seen → index_in n (see seen n) ≡ length seen
see-new n seen e = rw (le-ltb (index_in n seen) (length seen) (omega arith)) (index-new n seen (omega arith))

pub see-in : (n : List ℕ) (seen : List (List ℕ)) → index_in n (see seen n) < length (see seen n)
see-in n seen = by (ltb (index_in n seen) (length seen)) refl
  where
    by : (t : Bool) → ltb (index_in n seen) (length seen) ≡ t → index_in n (cond t seen (seen ++ (n ∷ []))) < length (cond t seen (seen ++ (n ∷ [])))
    by true q = ltb-true (index_in n seen) (length seen) q
    by false q =
        let a : index_in n (seen ++ (n ∷ [])) ≡ length seen = index-new n seen (ltb-false (index_in n seen) (length seen) q) in
        let b : length (seen ++ (n ∷ [])) ≡ suc (length seen) = long-snoc seen n in
        omega arith

-- a run of sights
pub all-kept : (n : List ℕ) (seen more : List (List ℕ)) → index_in n seen < length seen → index_in n (see_all seen more) ≡ index_in n seen
all-kept n seen [] h = refl
all-kept n seen (m ∷ more) h =
    let e : index_in n (see seen m) ≡ index_in n seen = index_kept n m seen h in
    let l : length seen ≤ length (see seen m) = see-more m seen in
    all-kept n (see seen m) more (omega arith) ∙ e

all_more : (seen more : List (List ℕ)) → length seen ≤ length (see_all seen more)
all_more seen [] = le_refl (length seen)
all_more seen (m ∷ more) = le_trans (see-more m seen) (all_more (see seen m) more)

all_append : (seen a b : List (List ℕ)) → see_all seen (a ++ b) ≡ see_all (see_all seen a) b
all_append seen [] b = refl
all_append seen (n ∷ a) b = all_append (see seen n) a b

-- further names leave the number of a name that was seen
pub number-kept : (names more : List (List ℕ)) (n : List ℕ) → number_in names n < length (distinct names) → number_in (names ++ more) n ≡ number_in names n
number-kept names more n h = ap (index_in n) (all_append [] names more) ∙ all-kept n (distinct names) more h

-- "follow first sight, from 0": a name that was not seen before has for its number how many different names were
pub number-first : (names more : List (List ℕ)) (n : List ℕ) → number_in names n ≡ length (distinct names) → number_in (names ++ (n ∷ more)) n ≡ length (distinct names)
number-first names more n e =
    ap (index_in n) (all_append [] names (n ∷ more)) ∙ all-kept n (see (distinct names) n) more (see-in n (distinct names)) ∙ see-new n (distinct names) e

-- at each sight, a name's number is its index among the different names before, or their count
pub number-sight : (names more : List (List ℕ)) (n : List ℕ) → number_in (names ++ (n ∷ more)) n ≡ number_in names n
number-sight names more n = by (ltb (number_in names n) (length (distinct names))) refl
  where
    by : (t : Bool) → ltb (number_in names n) (length (distinct names)) ≡ t → number_in (names ++ (n ∷ more)) n ≡ number_in names n
    by true q = number-kept names (n ∷ more) n (ltb-true (number_in names n) (length (distinct names)) q)
    by false q =
        let a : length (distinct names) ≤ number_in names n = ltb-false (number_in names n) (length (distinct names)) q in
        let b : number_in names n ≤ length (distinct names) = index-most n (distinct names) in
        let e : number_in names n ≡ length (distinct names) = omega arith in
        number-first names more n e ∙ sym e

-- there are no more different names than sights
see-few : (m : List ℕ) (seen : List (List ℕ)) → length (see seen m) ≤ suc (length seen)
see-few m seen = by (ltb (index_in m seen) (length seen))
  where
    by : (t : Bool) → length (cond t seen (seen ++ (m ∷ []))) ≤ suc (length seen)
    by true = omega arith
    by false = let q : length (seen ++ (m ∷ [])) ≡ suc (length seen) = long-snoc seen m in omega arith

all-few : (seen names : List (List ℕ)) → length (see_all seen names) ≤ length seen + length names
all-few seen [] = omega arith
all-few seen (n ∷ names) = omega (arith, see-few n seen, all-few (see seen n) names)

pub distinct-few : (names : List (List ℕ)) → length (distinct names) ≤ length names
distinct-few names = omega (arith, all-few [] names)

-- the different names of a run and of another behind it
pub distinct_append : (a b : List (List ℕ)) → distinct (a ++ b) ≡ see_all (distinct a) b
distinct_append a b = all_append [] a b

-- every name of a text has a number below the count of different names
pub number-below : (names more : List (List ℕ)) (n : List ℕ) → number_in (names ++ (n ∷ more)) n < length (distinct (names ++ (n ∷ more)))
number-below names more n =
    let e : distinct (names ++ (n ∷ more)) ≡ see_all (see (distinct names) n) more = all_append [] names (n ∷ more) in
    let k : index_in n (see_all (see (distinct names) n) more) ≡ index_in n (see (distinct names) n) = all-kept n (see (distinct names) n) more (see-in n (distinct names)) in
    let l : length (see (distinct names) n) ≤ length (see_all (see (distinct names) n) more) = all_more (see (distinct names) n) more in
    let h : index_in n (see (distinct names) n) < length (see (distinct names) n) = see-in n (distinct names) in
    subst (λ (s : List (List ℕ)). index_in n s < length s) (sym e) (omega arith)

-- ---- two names have one number exactly if they are the same but for letter case

pub same_index : (a b : List ℕ) (seen : List (List ℕ)) → same_name a b ≡ true → index_in a seen ≡ index_in b seen
unfolding index_in
same_index a b [] e = refl
same_index a b (x ∷ seen) e = λ i. cond (same-either a b x e i) 0 (suc (same_index a b seen e i))

pub index_same : (a b : List ℕ) (seen : List (List ℕ)) → index_in a seen ≡ index_in b seen → index_in a seen < length seen → same_name a b ≡ true
unfolding index_in
index_same a b [] e h = absurd (not-suc-le-zero h)
index_same a b (x ∷ seen) e h = by (same_name a x) (same_name b x) refl refl e h (λ q l. index_same a b seen q l)
  where
    by : (s t : Bool) → same_name a x ≡ s → same_name b x ≡ t → cond s 0 (suc (index_in a seen)) ≡ cond t 0 (suc (index_in b seen)) → cond s 0 (suc (index_in a seen)) < suc (length seen)
        → (index_in a seen ≡ index_in b seen → index_in a seen < length seen → same_name a b ≡ true) → same_name a b ≡ true
    by true true p q u l ih = same-both a b x p q
    by true false p q u l ih = absurd (suc-ne-zero (index_in b seen) (sym u))
    by false true p q u l ih = absurd (suc-ne-zero (index_in a seen) u)
    by false false p q u l ih = ih (omega arith) (le_of_suc-le-suc l)

pub same_number : (names : List (List ℕ)) (a b : List ℕ) → same_name a b ≡ true → number_in names a ≡ number_in names b
same_number names a b e = same_index a b (distinct names) e

pub number_same : (names : List (List ℕ)) (a b : List ℕ) → number_in names a ≡ number_in names b → number_in names a < length (distinct names) → same_name a b ≡ true
number_same names a b e h = index_same a b (distinct names) e h

-- ---- one more sight: the table then points at the different names, in the order of first sight

pub seen-after : (text starts : List ℕ) (count at : ℕ) → count < length starts → at < 4294967296
    → take (count_after text starts count at) (starts_after text starts count at) ≡ see_at text (take count starts) at
seen-after text starts count at h k =
    rw (lt-ltb count (length starts) h, lt-ltb at 4294967296 k, length-take-le count starts (le_of_lt h)) (by (ltb (number_at text starts count at) count) refl)
  where
    long : length (names_at text starts count) ≡ count
    long = length-map (take count starts) (line_from text) ∙ length-take-le count starts (le_of_lt h)

    most : number_at text starts count at ≤ count
    most = subst (λ (n : ℕ). number_at text starts count at ≤ n) long (index-most (line_from text at) (names_at text starts count))

    by : (t : Bool) → ltb (number_at text starts count at) count ≡ t
        → take (cond (eqb (number_at text starts count at) count && true) (count + 1) count) (cond (eqb (number_at text starts count at) count && true) (set starts count at) starts)
        ≡ cond t (take count starts) (take count starts ++ (at ∷ []))
    by true q =
        let l : number_at text starts count at < count = ltb-true (number_at text starts count at) count q in
        rw (ne_eqb (number_at text starts count at) count (λ e. absurd (omega arith)))
    by false q =
        let l : count ≤ number_at text starts count at = ltb-false (number_at text starts count at) count q in
        let m : number_at text starts count at ≤ count = most in
        rw (eq-eqb (number_at text starts count at) count (omega arith), add-one) (take-suc-set starts count at h)

pub seen-names : (text starts : List ℕ) (at : ℕ) → map (line_from text) (see_at text starts at) ≡ see (map (line_from text) starts) (line_from text at)
seen-names text starts at = rw (length-map starts (line_from text)) (by (ltb (index_in (line_from text at) (map (line_from text) starts)) (length starts)))
  where
    by : (t : Bool) → map (line_from text) (cond t starts (starts ++ (at ∷ []))) ≡ cond t (map (line_from text) starts) (map (line_from text) starts ++ (line_from text at ∷ []))
    by true = refl
    by false = map-append (line_from text) starts (at ∷ [])
