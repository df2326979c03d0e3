-- `float::narrow_size` meets its contract: below the smallest normal number no digit is dropped (`low-way`), from there on k of them, up to the infinity (`high-size`, `high-over`).
use Rattle.std.proofs.Common.{◌≡◌, ℕ, ◌+◌, ◌-◌, ◌*◌, ◌^◌, ◌<◌, ◌≤◌, ap, ◌∙◌, arith}
use Rattle.value.specs.Rounding.{rounded}
use Rattle.float.specs.Half.{sig}
use Rattle.float.specs.Narrow.{NarrowFormat, narrowed, infinity_at}
use Rattle.float.proofs.Fields.{m-lt, m-ge}
use Rattle.float.proofs.Narrow.{size_at, low-way, digits_le, high-size, high-over, weight-le}
use Rattle.float.proofs.narrow_size.Goals as goal

-- m is what a call answered for the significand
module _ {m : ℕ} (p low ones x t : ℕ) (F : NarrowFormat p low ones) (l : t < 2 ^ 52) (e : m ≡ sig (2 ^ 52) x t) where
  done : {r : ℕ} → r ≡ narrowed p (infinity_at p ones) (m * 2 ^ (x - 1) * 2 ^ low) (2 ^ 1074) → r ≡ size_at p low ones x t
  done f = f ∙ ap (λ (n : ℕ). narrowed p (infinity_at p ones) (n * 2 ^ (x - 1) * 2 ^ low) (2 ^ 1074)) e

  of_low : (j : ℕ) {r : ℕ} → r ≡ rounded m (2 ^ j) → x - 1 + low + j ≡ 1074 → 53 ≤ p + j → r ≡ size_at p low ones x t
  of_low j f g h = done (f ∙ low-way p low ones m (x - 1) (omega arith) (omega arith) (omega arith) (m-lt x t e l) j g h)

  -- from the smallest normal number on, k being how many digits are dropped, and h what a call answered for the leading one's weight
  module _ {h : ℕ} (n : x ≡ 0 → ⊥) (a : 1022 + p - low ≤ x) (q : h ≡ 2 ^ (p - 1)) where
    abbrev k : ℕ
    k = x - (1022 + p - low)

    G : x - 1 + low ≡ k + 1021 + p
    G = omega arith

    digits : {r : ℕ} → r ≡ rounded m (2 ^ (53 - p)) → r ≤ 2 * h
    digits f = rw (f, q) (digits_le p low ones m (x - 1) (omega arith) (omega arith) (omega arith) (m-lt x t e l) k (m-ge x t e n) G)

    of_high : {r : ℕ} → r ≡ rounded m (2 ^ (53 - p)) → k + 1 < ones → k * h + r ≡ size_at p low ones x t
    of_high {r} f b =
        done
        (ap (λ (h : ℕ). k * h + r) q
        ∙ ap (λ (n : ℕ). k * 2 ^ (p - 1) + n) f
        ∙ high-size p low ones m (x - 1) (omega arith) (omega arith) (omega arith) (m-lt x t e l) k (m-ge x t e n) G b)

    of_over : ones ≤ k + 1 → ones * h ≡ size_at p low ones x t
    of_over b =
        done
        (ap (λ (h : ℕ). ones * h) q
        ∙ high-over p low ones m (x - 1) (omega arith) (omega arith) (omega arith) (m-lt x t e l) k (m-ge x t e n) G b)

pub nearest_even-requires : goal.nearest_even-requires
nearest_even-requires c = m-lt c.args.x c.args.t c.significand-m.ensures c.requires.1

pub returns-then-x-eq0 : goal.returns-then-x-eq0
returns-then-x-eq0 c =
    let a = c.args in
    of_low a.f.p a.f.low a.f.ones a.x a.t c.requires.0 c.requires.1 c.significand-m.ensures (1074 - a.f.low) c.nearest_even.ensures (omega arith) (omega arith)

pub nearest_even-requires-then-x-normal : goal.nearest_even-requires-then-x-normal
nearest_even-requires-then-x-normal c = m-lt c.args.x c.args.t c.significand-m.ensures c.requires.1

pub returns-then-x-normal : goal.returns-then-x-normal
returns-then-x-normal c =
    let a = c.args in
    of_low a.f.p a.f.low a.f.ones a.x a.t c.requires.0 c.requires.1 c.significand-m.ensures (1075 - a.f.low - a.x) c.nearest_even-then-x-normal.ensures (omega arith) (omega arith)

pub overflow_mul-result : goal.overflow_mul-result
overflow_mul-result c =
    let a = c.args in
    let r = weight-le a.f.p a.f.ones (omega arith) (omega arith) c.leading-h.ensures.0 c.leading-h.ensures.1 (a.x - (1022 + a.f.p - a.f.low)) (omega arith) in
    omega arith

pub nearest_even-requires-then-k-f : goal.nearest_even-requires-then-k-f
nearest_even-requires-then-k-f c = m-lt c.args.x c.args.t c.significand-m.ensures c.requires.1

pub overflow_add-result : goal.overflow_add-result
overflow_add-result c =
    let a = c.args in
    let h = c.leading-h.ensures in
    let r = weight-le a.f.p a.f.ones (omega arith) (omega arith) h.0 h.1 (a.x - (1022 + a.f.p - a.f.low)) (omega arith) in
    let d = digits a.f.p a.f.low a.f.ones a.x a.t c.requires.0 c.requires.1 c.significand-m.ensures c.if-x-eq0.false c.if-x-normal.false h.0 c.nearest_even-then-k-f.ensures in
    omega (arith, h.1)

pub returns-then-k-f : goal.returns-then-k-f
returns-then-k-f c =
    let a = c.args in
    of_high a.f.p a.f.low a.f.ones a.x a.t c.requires.0 c.requires.1 c.significand-m.ensures c.if-x-eq0.false c.if-x-normal.false c.leading-h.ensures.0 c.nearest_even-then-k-f.ensures c.if-k-f.true

pub overflow_mul-result-else-k-f : goal.overflow_mul-result-else-k-f
overflow_mul-result-else-k-f c =
    let a = c.args in
    let r = weight-le a.f.p a.f.ones (omega arith) (omega arith) c.leading-h.ensures.0 c.leading-h.ensures.1 a.f.ones (omega arith) in
    omega arith

pub returns-else-k-f : goal.returns-else-k-f
returns-else-k-f c =
    let a = c.args in
    of_over a.f.p a.f.low a.f.ones a.x a.t c.requires.0 c.requires.1 c.significand-m.ensures c.if-x-eq0.false c.if-x-normal.false c.leading-h.ensures.0 c.if-k-f.false
