use Rattle.std.proofs.Common.{◌≡◌, ◌++◌, map, take, drop, true}
use Rattle.edited.specs.Edited.{positions, edit_from}
use Rattle.ebcdic.specs.Ebcdic.{onto_page}
use Rattle.edited.proofs.write.Given as goal

abbrev pub invariant-loop-i : goal.invariant-loop-i
invariant-loop-i l =
    let n = l.n in
    (l.left ≡ positions (drop l.i l.mask))
    × (map (onto_page l.page) (edit_from n.negative l.pad n.size 0 l.mask true) ≡ take l.i l.part ++ map (onto_page l.page) (edit_from n.negative l.pad n.size l.prev (drop l.i l.mask) l.sup))
