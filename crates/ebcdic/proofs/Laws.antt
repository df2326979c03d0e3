-- The two tables of code page 037 undo each other at every byte, hold bytes, and have the digits in one row: one computed test over each, carried to every byte by `at`.
use mathlib.Core.Path.{◌≡◌, refl, sym, ap, ◌∙◌}
use mathlib.Core.Bool.{Bool, true, false, ◌&&◌, cond}
use mathlib.Core.List.{List, [], ◌∷◌, ◌++◌, map}
use Prim.Native.Nat.{ℕ, suc, ◌+◌, ◌-◌, ◌<◌, ◌≤◌, suc-le-suc}
use native.Mathlib.Nat.{zero-lt-suc}
use native.Mathlib.Omega.{arith}
use borrow.Author.Tests.{eq-eqb, ne_eqb, eqb-true, eqb-false, le-leb, lt-ltb}
use lib.Dec.{T, eqb, ltb, leb, eqb→eq, ltb→lt, lit<}
use lib.ListN.{get_or, length, take, drop}
use Rattle.ebcdic.specs.Ebcdic.{ascii_table, ebcdic_table, to_ascii, to_ebcdic, from_page, onto_page, copied}
use Rattle.lists.proofs.Lists.{map_same}
use Rattle.lists.proofs.Table.{at, both, both_left, both_right}

-- an entry x at k is a byte, the other table has k at it, and a digit stands 192 places higher in EBCDIC
digit-a : ℕ → ℕ → Bool
digit-a k x = cond (leb 240 k && ltb k 250) (eqb x (k - 192)) true

digit-e : ℕ → ℕ → Bool
digit-e k x = cond (leb 48 k && ltb k 58) (eqb x (k + 192)) true

rule-a : ℕ → ℕ → Bool
rule-a k x = both (ltb x 256) (both (eqb (get_or ebcdic_table x 0) k) (digit-a k x))

rule-e : ℕ → ℕ → Bool
rule-e k x = both (ltb x 256) (both (eqb (get_or ascii_table x 0) k) (digit-e k x))

parts : (p q r : Bool) → T (both p (both q r)) → T p × (T q × T r)
parts p q r t = (both_left p (both q r) t, (both_left q r (both_right p (both q r) t), both_right q r (both_right p (both q r) t)))

rules-a : (b : ℕ) → b < 256 → T (ltb (to_ascii b) 256) × (T (eqb (to_ebcdic (to_ascii b)) b) × T (digit-a b (to_ascii b)))
unfolding rule-a digit-a to_ascii to_ebcdic ascii_table ebcdic_table
rules-a b h = parts (ltb (to_ascii b) 256) (eqb (to_ebcdic (to_ascii b)) b) (digit-a b (to_ascii b)) (at rule-a ascii_table tt b h)

rules-e : (b : ℕ) → b < 256 → T (ltb (to_ebcdic b) 256) × (T (eqb (to_ascii (to_ebcdic b)) b) × T (digit-e b (to_ebcdic b)))
unfolding rule-e digit-e to_ascii to_ebcdic ascii_table ebcdic_table
rules-e b h = parts (ltb (to_ebcdic b) 256) (eqb (to_ascii (to_ebcdic b)) b) (digit-e b (to_ebcdic b)) (at rule-e ebcdic_table tt b h)

pub ascii-byte : (b : ℕ) → b < 256 → to_ascii b < 256
ascii-byte b h = ltb→lt (to_ascii b) 256 (rules-a b h).0

pub ebcdic-byte : (b : ℕ) → b < 256 → to_ebcdic b < 256
ebcdic-byte b h = ltb→lt (to_ebcdic b) 256 (rules-e b h).0

pub ebcdic-ascii : (b : ℕ) → b < 256 → to_ebcdic (to_ascii b) ≡ b
ebcdic-ascii b h = eqb→eq (to_ebcdic (to_ascii b)) b (rules-a b h).1.0

pub ascii-ebcdic : (b : ℕ) → b < 256 → to_ascii (to_ebcdic b) ≡ b
ascii-ebcdic b h = eqb→eq (to_ascii (to_ebcdic b)) b (rules-e b h).1.0

pub ascii-digit : (b : ℕ) → 240 ≤ b → b < 250 → b - 192 ≡ to_ascii b
unfolding digit-a
ascii-digit b h k = sym (eqb→eq (to_ascii b) (b - 192) (rw (le-leb 240 b h, lt-ltb b 250 k) at (rules-a b (omega arith)).1.1))

pub ebcdic-digit : (b : ℕ) → 48 ≤ b → b < 58 → b + 192 ≡ to_ebcdic b
unfolding digit-e
ebcdic-digit b h k = sym (eqb→eq (to_ebcdic b) (b + 192) (rw (le-leb 48 b h, lt-ltb b 58 k) at (rules-e b (omega arith)).1.1))

-- ---- on either page

-- page 0 has each byte as it is, any other page by the tables
pub from-same : (page : ℕ) → page ≡ 0 → (λ b. b) ≡ from_page page
unfolding from_page
from-same page e = λ i b. cond (sym (eq-eqb page 0 e) i) b (to_ascii b)

pub onto_same : (page : ℕ) → page ≡ 0 → (λ b. b) ≡ onto_page page
unfolding onto_page
onto_same page e = λ i b. cond (sym (eq-eqb page 0 e) i) b (to_ebcdic b)

pub from-table : (page : ℕ) → (page ≡ 0 → ⊥) → to_ascii ≡ from_page page
unfolding from_page
from-table page e = λ i b. cond (sym (ne_eqb page 0 e) i) b (to_ascii b)

pub onto-table : (page : ℕ) → (page ≡ 0 → ⊥) → to_ebcdic ≡ onto_page page
unfolding onto_page
onto-table page e = λ i b. cond (sym (ne_eqb page 0 e) i) b (to_ebcdic b)

pub page-zero : (s : List ℕ) → map (from_page 0) s ≡ s
unfolding from_page
page-zero s = map_same s

-- bytes that stay as they are
pub copied-same : {f : ℕ → ℕ} → (λ b. b) ≡ f → (s out : List ℕ) → take (length out) s ++ drop (length s) out ≡ copied f s out
copied-same e s out =
    ap (λ (l : List ℕ). take (length out) l ++ drop (length s) out) (sym (map_same s)) ∙ ap (λ f. copied f s out) e

-- a byte written to a page and read from it
pub page-back : (page b : ℕ) → b < 256 → from_page page (onto_page page b) ≡ b
unfolding from_page onto_page
page-back page b h = by (eqb page 0)
  where
    by : (t : Bool) → cond t (cond t b (to_ebcdic b)) (to_ascii (cond t b (to_ebcdic b))) ≡ b
    by true = refl
    by false = ascii-ebcdic b h

-- a byte read from a page and written to it
pub page-forth : (page b : ℕ) → b < 256 → onto_page page (from_page page b) ≡ b
unfolding from_page onto_page
page-forth page b h = by (eqb page 0)
  where
    by : (t : Bool) → cond t (cond t b (to_ascii b)) (to_ebcdic (cond t b (to_ascii b))) ≡ b
    by true = refl
    by false = ebcdic-ascii b h

pub from_byte : (page b : ℕ) → b < 256 → from_page page b < 256
unfolding from_page
from_byte page b h = by (eqb page 0)
  where
    by : (t : Bool) → cond t b (to_ascii b) < 256
    by true = h
    by false = ascii-byte b h

pub onto-byte : (page b : ℕ) → b < 256 → onto_page page b < 256
unfolding onto_page
onto-byte page b h = by (eqb page 0)
  where
    by : (t : Bool) → cond t b (to_ebcdic b) < 256
    by true = h
    by false = ebcdic-byte b h

-- a list of bytes written to a page and read from it
pub bytes_back : (page : ℕ) (t : List ℕ) → ((k : ℕ) → k < length t → get_or t k 0 < 256) → map (from_page page) (map (onto_page page) t) ≡ t
bytes_back page [] h = refl
bytes_back page (x ∷ t) h =
    λ i. page-back page x (h 0 (zero-lt-suc (length t))) i ∷ bytes_back page t (λ k b. h (suc k) (suc-le-suc b)) i

-- to look for a byte as read, look for it as written
pub same_byte : (page b p : ℕ) → b < 256 → p < 256 → eqb b (onto_page page p) ≡ eqb (from_page page b) p
same_byte page b p h k = by (eqb (from_page page b) p) refl
  where
    by : (t : Bool) → eqb (from_page page b) p ≡ t → eqb b (onto_page page p) ≡ t
    by true e = eq-eqb b (onto_page page p) (sym (page-forth page b h) ∙ ap (onto_page page) (eqb-true (from_page page b) p e))
    by false e = ne_eqb b (onto_page page p) (λ q. eqb-false (from_page page b) p e (ap (from_page page) q ∙ page-back page p k))

-- a 0 byte is one on either page
pub zero-byte : (page b : ℕ) → b < 256 → eqb b 0 ≡ eqb (from_page page b) 0
unfolding onto_page to_ebcdic ebcdic_table
zero-byte page b h = by (eqb page 0) refl
  where
    by : (t : Bool) → eqb page 0 ≡ t → eqb b 0 ≡ eqb (from_page page b) 0
    by true e = rw e at (same_byte page b 0 h (lit< tt))
    by false e = rw e at (same_byte page b 0 h (lit< tt))
