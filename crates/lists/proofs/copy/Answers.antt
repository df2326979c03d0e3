-- A turn stores the source's byte at i (`copy-go`).
use Rattle.std.proofs.Common.{◌≡◌, ◌+◌, ◌++◌, ℕ, List, take, drop, get_or, set, subst, arith}
use Rattle.lists.proofs.Lists.{copy-go, map_same}
use Rattle.lists.proofs.copy.Goals as goal

pub loop-i-preserved : goal.loop-i-preserved
loop-i-preserved c =
    let s = c.args.src.now in
    let out = c.args.out.now in
    let i = c.loop-i.i in
    let Goes : List ℕ → Type 0 = λ l. set (take i l ++ drop i out) i (get_or s i 0) ≡ take (i + 1) l ++ drop (i + 1) out in
    rw c.loop-i.invariant (subst Goes (map_same s) (copy-go (λ b. b) s out i (omega arith) (omega arith)))
