-- One store more: the low word of the next word stands at the next cell (`copy-go`).
use Rattle.std.proofs.Common.{◌<◌, length, arith}
use Rattle.lists.proofs.Lists.{copy-go}
use Rattle.testing.specs.Holds.{low_word}
use Rattle.testing.proofs.narrow.Goals as goal

pub loop-i-preserved : goal.loop-i-preserved
loop-i-preserved c =
    let a = c.args in
    let i = c.loop-i.i in
    let h : i < length a.layout.now = omega (arith, c.min-i-end.ensures) in
    let k : i < length a.words.now = omega (arith, c.min-i-end.ensures) in
    rw (c.loop-i.invariant, c.low_word.ensures) (copy-go low_word a.words.now a.layout.now i k h)
