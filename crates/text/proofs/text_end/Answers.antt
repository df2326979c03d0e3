-- No 0 byte in front of the pads at the end: these are all that is cut; else the pads before it are cut from what stands before it.
use Rattle.text.specs.Text.{is_byte}
use Rattle.text.proofs.Cuts.{end_kept, end-cut}
use Rattle.text.proofs.text_end.Goals as goal

pub returns-then-z-e : goal.returns-then-z-e
returns-then-z-e c =
    let a = c.args in
    let at-pad-end = c.pad_end-e in (
      at-pad-end.ensures.0,
      end_kept (is_byte a.pad) (is_byte 0) a.s.now at-pad-end.result c.zero_at-z.result at-pad-end.ensures.0 c.zero_at-z.ensures.0
          at-pad-end.ensures.1 c.zero_at-z.ensures.1 c.if-z-e.true,
    )

pub returns-else-z-e : goal.returns-else-z-e
returns-else-z-e c =
    let a = c.args in
    let at-pad-end = c.pad_end-e in
    let at-zero-at = c.zero_at-z in
    end-cut (is_byte a.pad) (is_byte 0) a.s.now at-pad-end.result at-zero-at.result at-pad-end.ensures.0 at-zero-at.ensures.0
    at-pad-end.ensures.1 at-zero-at.ensures.1 c.pad_end.result c.pad_end.ensures.0 c.pad_end.ensures.1
