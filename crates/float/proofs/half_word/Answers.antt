-- `float::half_word` meets its contract.
use Rattle.std.proofs.Common.{◌≡◌, ℕ, ◌+◌, ◌-◌, ◌*◌, ◌/◌, ◌%◌, ◌^◌, ◌<◌, Bool, true, false, cond, eqb, leb, sym, refl, ◌∙◌, subst, mul-one, arith, pow_pos, eq-eqb, ne_eqb, le-leb}
use lib.Ieee.{Float, nan, inf, binary64, to_bits, neg}
use lib.Ieee.Exact.{HasValue}
use borrow.Author.Tests.{lt-leb}
use Rattle.float.specs.Half.{sig, finite16, half_word}
use Rattle.float.proofs.Values.{not-nan, neg_value, same_bits}
use Rattle.float.proofs.half_word.Goals as goal

-- the word, with the three tests of the fields replaced by their answers
word : (h : ℕ) {s a b : Bool} → leb 32768 h ≡ s → eqb (h % 32768 / 1024) 31 ≡ a → eqb (h % 1024) 0 ≡ b
    → to_bits binary64 (cond a (cond b (inf s) nan) (finite16 s (h % 32768 / 1024) (h % 1024))) ≡ half_word h
unfolding half_word
word h p q r = simp (p, q, r)

-- a number: the three tests, and a float that has its value
number : (h : ℕ) (s : Bool) (x : Float) → leb 32768 h ≡ s → (h % 32768 / 1024 ≡ 31 → ⊥) → HasValue x s (sig 1024 (h % 32768 / 1024) (h % 1024) * 2 ^ (h % 32768 / 1024 - 1)) (2 ^ 24)
    → to_bits binary64 x ≡ half_word h
number h s x p n v =
    same_bits binary64 x (finite16 s (h % 32768 / 1024) (h % 1024)) s (sig 1024 (h % 32768 / 1024) (h % 1024) * 2 ^ (h % 32768 / 1024 - 1)) (2 ^ 24) (pow_pos 24) v (refl, simp mul-one)
    ∙ word h p (ne_eqb (h % 32768 / 1024) 31 n) refl

small : (e t : ℕ) → t < 1024 → sig 1024 e t < 2048
small e t h = go (eqb e 0)
  where
    go : (b : Bool) → cond b t (1024 + t) < 2048
    go true = omega arith
    go false = omega arith

below : (h : ℕ) → (h % 32768 / 1024 ≡ 31 → ⊥) → h % 32768 / 1024 < 31
below h n = omega arith

-- what the product is, with the significand by its definition
value : (h : ℕ) (x : Float) {m : ℕ} → m ≡ sig 1024 (h % 32768 / 1024) (h % 1024) → HasValue x false (m * 2 ^ (h % 32768 / 1024 - 1)) (2 ^ 24)
    → HasValue x false (sig 1024 (h % 32768 / 1024) (h % 1024) * 2 ^ (h % 32768 / 1024 - 1)) (2 ^ 24)
value h x e v = subst (λ (m : ℕ). HasValue x false (m * 2 ^ (h % 32768 / 1024 - 1)) (2 ^ 24)) e v

pub scaled-x-requires : goal.scaled-x-requires
scaled-x-requires c = (
  subst (λ (m : ℕ). m < 2048) (sym c.significand.ensures) (small (c.args.h % 32768 / 1024) (c.args.h % 1024) (omega arith)),
  below c.args.h c.if-e-eq31.false,
)

pub float_to_bits-result : goal.float_to_bits-result
float_to_bits-result c = not-nan _ _ _ _ c.scaled-x.ensures

pub float_to_bits-result-else-h-lt32768-2 : goal.float_to_bits-result-else-h-lt32768-2
float_to_bits-result-else-h-lt32768-2 c = not-nan _ _ _ _ (neg_value _ _ _ _ c.scaled-x.ensures)

pub returns-then-h-lt32768 : goal.returns-then-h-lt32768
unfolding to_bits
returns-then-h-lt32768 c = word c.args.h (lt-leb _ _ c.if-h-lt32768.true) (eq-eqb _ _ c.if-e-eq31.true) (eq-eqb _ _ c.if-t-ne0.false)

pub returns-else-h-lt32768 : goal.returns-else-h-lt32768
unfolding to_bits
returns-else-h-lt32768 c = word c.args.h (le-leb _ _ c.if-h-lt32768.false) (eq-eqb _ _ c.if-e-eq31.true) (eq-eqb _ _ c.if-t-ne0.false)

pub returns-then-t-ne0 : goal.returns-then-t-ne0
unfolding to_bits
returns-then-t-ne0 c = word c.args.h refl (eq-eqb _ _ c.if-e-eq31.true) (ne_eqb _ _ c.if-t-ne0.true)

pub returns-then-h-lt32768-2 : goal.returns-then-h-lt32768-2
returns-then-h-lt32768-2 c = number c.args.h false c.scaled-x.result (lt-leb _ _ c.if-h-lt32768-2.true) c.if-e-eq31.false (value c.args.h c.scaled-x.result c.significand.ensures c.scaled-x.ensures)

pub returns-else-h-lt32768-2 : goal.returns-else-h-lt32768-2
returns-else-h-lt32768-2 c =
    number c.args.h true (neg c.scaled-x.result) (le-leb _ _ c.if-h-lt32768-2.false) c.if-e-eq31.false (neg_value _ _ _ _ (value c.args.h c.scaled-x.result c.significand.ensures c.scaled-x.ensures))
