-- The laws of a number's answer.
use Rattle.std.proofs.Common.{ap, ◌≡◌, ℕ, ◌<◌, ◌≤◌, min, Bool, true, false, cond, ltb, arith, le-ltb, lt-ltb}
use native.Mathlib.Decide.{dec_lt}
use Rattle.value.specs.Answer.{Answer, refused, given}
use Rattle.value.specs.declared.Whole.{Whole}
use Rattle.value.specs.Number.{number, some, number_in, read_in}

module _ (question bound : ℕ) (negative : Bool) (v : ℕ) where
  -- nothing is lost by a size that stops counting at the bound or past it
  pub number_in-capped : (cap : ℕ) → bound ≤ cap → number_in question bound negative (min v cap) ≡ number_in question bound negative v
  number_in-capped cap b = go (dec_lt v cap)
    where
      go : Dec (v < cap) → number_in question bound negative (min v cap) ≡ number_in question bound negative v
      go (yes h) = let e : min v cap ≡ v = omega arith in rw e
      go (no h) = let e : min v cap ≡ cap = omega arith in rw (e, le-ltb v bound (omega arith), le-ltb cap bound b)

  -- a number that is answered is below the bound
  pub number_in-small : (n : Bool) (w : ℕ) → number_in question bound negative v ≡ given (number n w) → w < bound
  number_in-small n w e = go (dec_lt v bound)
    where
      size_in_answer : Answer Whole → ℕ
      size_in_answer (refused q) = 0
      size_in_answer (given m) = m.size

      go : Dec (v < bound) → w < bound
      go (yes h) = let k : v ≡ w = ap size_in_answer (rw (lt-ltb v bound h) at e) in omega arith
      go (no h) = let z : ◌≡◌ {A = ℕ} 0 1 = let f : ◌≡◌ {A = Answer Whole} (refused question) (given (number n w)) = rw (le-ltb v bound (omega arith)) at e in cc in absurd (omega arith)

  pub number_in-fits : v < bound → number_in question bound negative v ≡ some negative v
  number_in-fits h = rw (lt-ltb v bound h)

pub read-capped : (bound : ℕ) (negative : Bool) (v : ℕ) → read_in bound negative (min v bound) ≡ read_in bound negative v
read-capped bound negative v = number_in-capped 9 bound negative v bound (omega arith)

-- ---- a refusal has the number of a question, which is no 0

abbrev pub Numbered : {A : Type 0} → Answer A → Type 0
Numbered (refused question) = question ≡ 0 → ⊥
Numbered (given x) = Unit {0}

pub numbered-cond : {A : Type 0} (b : Bool) (x y : Answer A) → Numbered x → Numbered y → Numbered (cond b x y)
numbered-cond true x y f g = f
numbered-cond false x y f g = g

pub numbered-in : (question bound : ℕ) (negative : Bool) (v : ℕ) → (question ≡ 0 → ⊥) → Numbered (number_in question bound negative v)
numbered-in question bound negative v h = numbered-cond (ltb v bound) (some negative v) (refused question) tt h
