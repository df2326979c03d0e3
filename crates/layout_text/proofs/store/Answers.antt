-- One entry after the other keeps `Stored` (`stored_next`), which at the end says what the whole text says (`stored-end`); no line of a lawful text is refused (`lines_there`).
use Rattle.std.proofs.Common.{◌≡◌, ap, refl, ◌∙◌, length, arith}
use Rattle.layout_text.specs.Form.{lines_of, count_of}
use Rattle.layout_text.proofs.Words.{words_long}
use Rattle.layout_text.proofs.Storing.{lines_there, seen_next, stored-start, words_same, masks-same, inside, masks-room, part-long, stored_next}
use Rattle.layout_text.proofs.store.Goals as goal

pub loop-k-init : goal.loop-k-init
loop-k-init c = record {
  text = refl;
  stored = stored-start c.args.text.now c.in-Ok.page.next _ c.args.words.now c.args.masks.now c.in-Ok.ensures.here refl;
}

pub returns-in_default-entry_lines-clause-words_after : goal.returns-in_default-entry_lines-clause-words_after
returns-in_default-entry_lines-clause-words_after c = absurd (lines_there c.entry_lines.result c.entry_lines.ensures c.requires.lasts c.loop-k-test.true c.loop-k.invariant.stored.table.here c.in_default-entry_lines.not-Ok)

pub returns-in_default-entry_lines-clause-masks_after : goal.returns-in_default-entry_lines-clause-masks_after
returns-in_default-entry_lines-clause-masks_after c = absurd (lines_there c.entry_lines.result c.entry_lines.ensures c.requires.lasts c.loop-k-test.true c.loop-k.invariant.stored.table.here c.in_default-entry_lines.not-Ok)

pub put_entry-requires : goal.put_entry-requires
put_entry-requires c =
    let l = lines_of c.args.text.now in
    let n = words_long l (count_of l) in
    let g = c.loop-k.invariant.stored in
    let i = inside g c.requires.lasts c.loop-k-test.true c.in-Ok-entry_lines.said c.in-Ok-entry_lines.ensures in
    let h = c.requires.text_in_bounds in
    let w : length c.loop-k.words ≡ length c.args.words.now = words_same g (omega arith) in
    omega arith

pub put_mask-requires : goal.put_mask-requires
put_mask-requires c =
    let g = c.loop-k.invariant.stored in
    let p = part-long g c.requires.lasts c.loop-k-test.true c.in-Ok-entry_lines.said c.in-Ok-entry_lines.ensures in
    let r = masks-room g c.requires.lasts c.loop-k-test.true c.in-Ok-entry_lines.said c.in-Ok-entry_lines.ensures in
    let h = c.requires.text_in_bounds_2 in
    let w : length c.loop-k.masks ≡ length c.args.masks.now = masks-same g (omega arith) in
    omega arith

pub loop-k-preserved : goal.loop-k-preserved
loop-k-preserved c =
    let i = c.loop-k.invariant in
    let g = i.stored in
    let t = ap (λ x. x.now) i.text in
    let s = c.in-Ok-entry_lines.said in
    let e = c.see_entry-names in
    let x = e.ensures in
    let n = seen_next g.table c.requires.lasts c.loop-k-test.true s c.in-Ok-entry_lines.ensures _ t e.new.table.count _ x.starts_after x.starts_unchanged x.count_le_count x.starts_len_unchanged in
    record {
      text = x.text ∙ i.text;
      stored = stored_next g c.requires.lasts c.loop-k-test.true s c.in-Ok-entry_lines.ensures _ t _ _ _ x.name_value x.depending_value n c.entry_of-e.ensures c.put_entry.ensures c.put_mask.ensures;
    }
