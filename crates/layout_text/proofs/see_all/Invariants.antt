-- What the table holds before the k-th entry (`Seen-to`).
use Rattle.std.proofs.Common.{◌≡◌}
use Rattle.layout_text.proofs.Storing.{Seen-to}
use Rattle.layout_text.proofs.see_all.Given as goal

abbrev pub invariant-loop : goal.invariant-loop
invariant-loop l = record {
  text : l.table.text ≡ l.initial.table.text;
  table : l.table.starts.ghost_name ≡ l.initial.table.starts.ghost_name;
  seen : Seen-to l.text l.at l.counter l.table.count l.table.starts.now l.initial.table.starts.now;
}
