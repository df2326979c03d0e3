-- A lawful scalar item's tag and words are those of the scalar that it stands for.
use mathlib.Core.Path.{◌≡◌, refl}
use mathlib.Core.Bool.{Bool, true, false, cond, false≢true}
use Prim.Native.Nat.{ℕ, zero, suc, ◌≤◌, ◌<◌, ◌^◌}
use native.Mathlib.Omega.{arith}
use lib.Dec.{eqb, leb}
use borrow.Author.Tests.{eqb-true, leb-true}
use Rattle.value.specs.Scalar.{scalar_of}
use Rattle.value.proofs.Items.{float_tag, float-first, float-second}
use Rattle.value.proofs.Word.{word_back}
use Rattle.lists.proofs.Logic.{both}
use Rattle.items.specs.declared.Item.{Item}
use Rattle.items.specs.Items.{item_of, scalar_in, null_ok, text_ok, word_ok, decimal_ok, bool_ok, scalar_ok}

-- the words of an item that may stand in a value list
pub data ItemWords : ℕ → ℕ → ℕ → Type 0 where
  null : ItemWords 0 0 0
  text : (start count : ℕ) → ItemWords 1 start count
  int : (w : ℕ) → w < 2 ^ 64 → ItemWords 2 w 0
  decimal : (w scale : ℕ) → w < 2 ^ 64 → ItemWords 3 w scale
  float : (w : ℕ) → w < 2 ^ 64 → ItemWords 4 w 0
  bool : (b : Bool) → ItemWords 5 (cond b 1 0) 0

-- 0 and 1 are the words of a Bool
bool-words : (a b : ℕ) → a ≤ 1 → b ≡ 0 → ItemWords 5 a b
bool-words zero b h e = rw e (bool false)
bool-words (suc zero) b h e = rw e (bool true)
bool-words (suc (suc a)) b h e = absurd (omega arith)

pub scalar-words : (text_bytes : ℕ) (it : Item) → scalar_ok text_bytes it ≡ true → it.a < 2 ^ 64 → ItemWords it.tag it.a it.b
unfolding scalar_ok
scalar-words text_bytes it ok h = by (eqb it.tag 0) (eqb it.tag 1) (eqb it.tag 2) (eqb it.tag 3) (eqb it.tag 4) (eqb it.tag 5) refl refl refl refl refl refl ok
  where
    by : (c0 c1 c2 c3 c4 c5 : Bool) → eqb it.tag 0 ≡ c0 → eqb it.tag 1 ≡ c1 → eqb it.tag 2 ≡ c2 → eqb it.tag 3 ≡ c3 → eqb it.tag 4 ≡ c4 → eqb it.tag 5 ≡ c5
        → cond c0 (null_ok it.a it.b) (cond c1 (text_ok text_bytes it.a it.b) (cond c2 (word_ok it.b) (cond c3 (decimal_ok it.a it.b) (cond c4 (word_ok it.b) (cond c5 (bool_ok it.a it.b) false))))) ≡ true
        → ItemWords it.tag it.a it.b
    by true c1 c2 c3 c4 c5 p0 p1 p2 p3 p4 p5 e =
        let z = both (eqb it.a 0) (eqb it.b 0) e in
        rw (eqb-true it.tag 0 p0, eqb-true it.a 0 z.0, eqb-true it.b 0 z.1) null
    by false true c2 c3 c4 c5 p0 p1 p2 p3 p4 p5 e = rw (eqb-true it.tag 1 p1) (text it.a it.b)
    by false false true c3 c4 c5 p0 p1 p2 p3 p4 p5 e = rw (eqb-true it.tag 2 p2, eqb-true it.b 0 e) (int it.a h)
    by false false false true c4 c5 p0 p1 p2 p3 p4 p5 e = rw (eqb-true it.tag 3 p3) (decimal it.a it.b h)
    by false false false false true c5 p0 p1 p2 p3 p4 p5 e = rw (eqb-true it.tag 4 p4, eqb-true it.b 0 e) (float it.a h)
    by false false false false false true p0 p1 p2 p3 p4 p5 e =
        let z = both (leb it.a 1) (eqb it.b 0) e in
        rw (eqb-true it.tag 5 p5) (bool-words it.a it.b (leb-true it.a 1 z.0) (eqb-true it.b 0 z.1))
    by false false false false false false p0 p1 p2 p3 p4 p5 e = absurd (false≢true e)

-- an item's tag and words, as a scalar and back
pub item_back : (name : ℕ) {tag a b : ℕ} → ItemWords tag a b → item_of name (scalar_of tag a b) ≡ record { name = name; tag = tag; a = a; b = b }
unfolding scalar_of
item_back name null = refl
item_back name (text start count) = refl
item_back name (int w h) = rw (word_back w h)
item_back name (decimal w scale h) = rw (word_back w h)
item_back name (float w h) = rw (float_tag w, float-first w h, float-second w)
item_back name (bool true) = refl
item_back name (bool false) = refl

pub words_back : (text_bytes : ℕ) (it : Item) → scalar_ok text_bytes it ≡ true → it.a < 2 ^ 64 → item_of it.name (scalar_in it) ≡ it
words_back text_bytes it ok h = item_back it.name (scalar-words text_bytes it ok h)
