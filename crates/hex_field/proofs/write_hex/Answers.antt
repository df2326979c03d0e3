-- Each turn puts two digits behind those of the bytes before.
use Rattle.std.proofs.Common.{◌≡◌, ◌+◌, ◌-◌, ◌*◌, get_or, rules, arith}
use Rattle.hex_field.specs.Hex.{hex_pair}
use Rattle.hex_field.proofs.Laws.{spelt-none, spelt-more, spelt-all}
use Rattle.hex_field.proofs.write_hex.Goals as goal

pub loop-i-init : goal.loop-i-init
loop-i-init c = spelt-none c.args.order c.args.part.now c.args.out.now

pub loop-i-preserved : goal.loop-i-preserved
loop-i-preserved c =
    let l = c.loop-i in
    let e : c.copy_from_slice.new.self ≡ hex_pair c.args.order (get_or c.args.part.now l.i 0) = search rules in
    let k : 2 * l.i + 2 - 2 * l.i ≡ 2 = omega arith in
    spelt-more c.args.order c.args.part.now c.args.out.now l.out l.i (2 * l.i + 2 - 2 * l.i) c.copy_from_slice.new.self c.loop-i-test.true (omega (arith, l.auto.out)) k e l.invariant

pub returns : goal.returns
returns c = spelt-all c.args.order c.args.part.now c.args.out.now c.loop-i.out c.loop-i.i c.loop-i-test.false (omega arith) c.loop-i.invariant
