-- Up to 18 zeros the product is below 10^18 or the size was refused; past 18 any size but 0 is too large.
use Rattle.std.proofs.Common.{◌≡◌, ℕ, ◌-◌, ◌*◌, ◌^◌, ◌<◌, ap, ◌∙◌, arith, le-ltb}
use Rattle.value.specs.Digits.{limit}
use Rattle.value.specs.Number.{amount_of}
use Rattle.value.proofs.Rounding.{fits-up, over-up, over-far}
use Rattle.value.proofs.Word.{power-is}
use Rattle.value.proofs.scale_up.Goals as goal
use Rattle.value.proofs.scale_up.Goals.{then-k-gt18-via-then-k-gt18, then-k-gt18-via-else-k-gt18+then-size-ten_to}

pub returns-then-k-gt18 : goal.returns-then-k-gt18
returns-then-k-gt18 c =
    elim c.then-k-gt18.branch [
      | then-k-gt18-via-then-k-gt18 w ↦ rw (le-ltb (c.args.size * 10 ^ c.args.k) limit (over-far c.args.k c.args.size w.if-k-gt18.true (omega arith)))
      | then-k-gt18-via-else-k-gt18+then-size-ten_to w ↦
          let e : w.ten_to.result ≡ 10 ^ (18 - c.args.k) = w.ten_to.ensures ∙ power-is (18 - c.args.k) (omega arith) in
          rw (le-ltb (c.args.size * 10 ^ c.args.k) limit (over-up c.args.k c.args.size (omega arith) (rw e at w.if-size-ten_to.true)))
    ]

pub overflow_mul-size : goal.overflow_mul-size
overflow_mul-size c =
    let e : c.ten_to.result ≡ 10 ^ (18 - c.args.k) = c.ten_to.ensures ∙ power-is (18 - c.args.k) (omega arith) in
    let f : c.ten_to-2.result ≡ 10 ^ c.args.k = c.ten_to-2.ensures ∙ power-is c.args.k (omega arith) in
    let l : c.args.size * 10 ^ c.args.k < limit = fits-up c.args.k c.args.size (omega arith) (rw e at c.if-size-ten_to.false) in
    record { fits = rw f (omega arith) }

pub returns : goal.returns
returns c =
    let f : c.ten_to-2.result ≡ 10 ^ c.args.k = c.ten_to-2.ensures ∙ power-is c.args.k (omega arith) in
    c.amount_of-2.ensures ∙ ap (λ (p : ℕ). amount_of c.args.negative (c.args.size * p)) f
