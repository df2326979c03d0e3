-- A turn stores the table's byte at i (`copy-go`); at the end the source or the buffer is used up.
use Rattle.std.proofs.Common.{◌<◌, get_or, arith, length-take-le}
use Rattle.std.proofs.lemmas.List.{get_or-take}
use Rattle.lists.proofs.Lists.{copy-go}
use Rattle.ebcdic.proofs.translate.Goals as goal

pub loop-i-preserved : goal.loop-i-preserved
loop-i-preserved c =
    let a = c.args in
    let i = c.loop-i.i in
    let n = c.min-n.result in
    let h : i < n = omega (arith, c.min-n.ensures, length-take-le n a.src.now) in
    let e = get_or-take n a.src.now i 0 h in
    rw (c.loop-i.invariant, e) (copy-go (λ b. get_or a.table.now b 0) a.src.now a.out.now i (omega arith) (omega arith))
