-- What the table, words and masks hold before the k-th entry (`Stored`).
use Rattle.std.proofs.Common.{◌≡◌}
use Rattle.layout_text.proofs.Storing.{Stored}
use Rattle.layout_text.proofs.store.Given as goal

abbrev pub invariant-loop-k : goal.invariant-loop-k
invariant-loop-k l = record {
  text : l.table.text ≡ l.initial.table.text;
  stored : Stored l.text l.at l.k l.table.count l.m l.table.starts.now l.words l.masks l.initial.table.starts.now l.initial.words l.initial.masks;
}
