-- One entry after the other keeps `Seen-to` (`seen_next`), which at the end says what the whole text says.
use Rattle.std.proofs.Common.{◌≡◌, ap, ◌∙◌, arith}
use Rattle.layout_text.proofs.Storing.{seen_next, seen_count, seen_table, seen_known}
use Rattle.layout_text.proofs.see_all.Goals as goal

pub loop-preserved : goal.loop-preserved
loop-preserved c =
    let i = c.loop.invariant in
    let e = c.see_entry in
    let x = e.ensures in
    record {
      text = x.text ∙ i.text;
      table = x.table ∙ i.table;
      seen = seen_next i.seen c.requires c.loop-test.true c.in-Ok-entry_lines.said c.in-Ok-entry_lines.ensures _ (ap (λ t. t.now) i.text) e.new.table.count _ x.starts_after x.starts_unchanged x.count_le_count x.starts_len_unchanged;
    }

pub returns : goal.returns
returns c =
    let i = c.loop.invariant in
    let e : c.loop.counter ≡ c.args.count = omega arith in
    record {
      value = seen_count i.seen c.requires e;
      starts_after = seen_table i.seen c.requires e;
      firsts = seen_known i.seen c.requires e;
    }
