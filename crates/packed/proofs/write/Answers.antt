-- A turn stores the two low digits of the rest one byte further to the left (`written-more`).
use Rattle.std.proofs.Common.{◌-◌, length, arith}
use Rattle.std.proofs.Math.ListN.{length-set}
use Rattle.packed.proofs.Writing.{written-more}
use Rattle.packed.proofs.write.Goals as goal

pub loop-i-preserved : goal.loop-i-preserved
loop-i-preserved c =
    let l = c.loop-i in
    let n = length-set c.args.part.now (length c.args.part.now - 1) c.pair_of.result in
    written-more l.part _ c.args.size c.args.sign l.i l.rest c.last_pair-pair.result c.pair_of-in-loop-i.result c.drop_pair-rest.result
    c.loop-i-test.true (omega arith) l.auto.part l.invariant c.last_pair-pair.ensures.0 c.pair_of-in-loop-i.ensures c.drop_pair-rest.ensures
