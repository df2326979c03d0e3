-- The pads first, and the text over them, from where it starts.
use Rattle.std.proofs.Common.{◌≡◌, ℕ, ◌≤◌, ◌-◌, true, leb, sym, subst, length, take, drop, le-leb}
use borrow.Rule.Slice.PartMut.{put_mid}
use Rattle.ebcdic.specs.Ebcdic.{onto_page, copied}
use Rattle.text.specs.Text.{written_in}
use Rattle.text.proofs.Write.{room-told, left-from-start, right-written}
use Rattle.text.proofs.justify_pad.Goals as goal
use Rattle.text.proofs.justify_pad.Goals.{then-right, else-right}

pub returns-clause-part_after : goal.returns-clause-part_after
returns-clause-part_after c =
    let a = c.args in
    let n = length a.part.now in
    let h : length a.text.now ≤ n = room-told (length a.text.now) n c.in_ok-fits.ensures in
    let fit : leb (length a.text.now) n ≡ true = le-leb (length a.text.now) n h in
    let fl = c.fill_pad.new.part in
    let P : ℕ → Type 0 = λ k. c.encode_slice.new.out ≡ copied (onto_page a.page) a.text.now (take (length fl - k) (drop k fl))
    → put_mid k (length fl - k) fl c.encode_slice.new.out ≡ written_in a.page a.right a.pad a.part.now a.text.now in
    elim c.if-right.branch [
      | then-right w ↦
          subst P (sym w.start-is) (λ q. rw (fit, w.if-right.true) (right-written a.page a.text.now a.pad n h fl c.encode_slice.new.out c.fill_pad.ensures q)) c.encode_slice.ensures
      | else-right w ↦
          subst P (sym w.start-is) (λ q. rw (fit, w.if-right.false) (left-from-start a.page a.text.now a.pad n h fl c.encode_slice.new.out c.fill_pad.ensures q)) c.encode_slice.ensures
    ]
