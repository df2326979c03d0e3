-- The buffer takes the piece of what is shown (`window`).
use mathlib.Core.Path.{sym, ap, ◌∙◌}
use borrow.Author.Rules.{rules}
use Rattle.shown.specs.Sink.{State, state}
use Rattle.shown.proofs.Sinks.{same-name}
use Rattle.shown.proofs.Windows.{window}
use Rattle.shown.proofs.show_at.Goals as goal

pub returns : goal.returns
returns c =
    let a = c.args in
    let w = window _ a.out.now _ a.at (state c.push_shown.new.self) c.push_shown.ensures in
    let n = sym (ap (λ (x : State). x.name) c.push_shown.ensures ∙ same-name _ _) in
    record {
      value = w.0;
      out_after = search (rules, n, w.1);
    }
