-- `float::leading` meets its contract: a shift by at most 23 loses nothing (`bit`).
use Rattle.std.proofs.Common.{ℕ, ◌-◌, ◌^◌, ◌≤◌, sym, subst, arith, pow_mono}
use Rattle.float.proofs.Rule.{bit}
use Rattle.float.proofs.leading.Goals as goal

pub returns : goal.returns
returns c =
    let e = bit (c.args.p - 1) (omega arith) in
    let l : c.args.p - 1 ≤ 23 = omega arith in
    (e, subst (λ (n : ℕ). n ≤ 2 ^ 23) (sym e) (pow_mono l))
