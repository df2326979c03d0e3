-- What is written is what the definition edits of the mask so far, and the rest follows from the state in which it is met.
use Rattle.std.proofs.Common.{◌≡◌, ◌+◌, ◌<◌, true, map, length, drop, ap, ◌∙◌, arith}
use Rattle.edited.specs.Edited.{positions, edit_from, digit_byte}
use Rattle.edited.proofs.Turns.{left-go, edit-go, edit-end}
use Rattle.ebcdic.specs.Ebcdic.{onto_page}
use Rattle.edited.proofs.write.Goals as goal

pub loop-i-preserved : goal.loop-i-preserved
loop-i-preserved c =
    let a = c.args in
    let l = c.loop-i in
    let m = a.mask.now in
    let h : l.i < length l.part = omega (arith, l.auto.part, c.requires) in
    let g : c.left_after-left.result ≡ positions (drop (l.i + 1) m) = left-go m l.i l.left c.left_after-left.result c.loop-i-test.true l.invariant.0 c.left_after-left.ensures in
    let d : c.digit_byte-d.result ≡ digit_byte a.n.size (positions (drop (l.i + 1) m)) = c.digit_byte-d.ensures ∙ ap (digit_byte a.n.size) g in (
      g,
      rw (c.sup_after-sup.ensures, c.onto_page.ensures, c.edit_byte-b.ensures)
          (l.invariant.1 ∙ edit-go (onto_page a.page) a.n.negative c.pad_of-pad.result a.n.size m l.prev c.digit_byte-d.result l.sup l.i l.part c.loop-i-test.true h d),
    )

pub returns : goal.returns
returns c =
    let a = c.args in
    let l = c.loop-i in
    let all = map (onto_page a.page) (edit_from a.n.negative c.pad_of-pad.result a.n.size 0 a.mask.now true) in
    rw (← c.pad_of-pad.ensures)
    (edit-end (onto_page a.page) a.n.negative c.pad_of-pad.result a.n.size a.mask.now l.prev l.sup l.i l.part all c.loop-i-test.false (omega (arith, l.auto.part, c.requires)) l.invariant.1)
