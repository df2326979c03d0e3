-- Refused, or the word of the rule set: `write_done`; a window that passed the questions is long enough.
use Rattle.std.proofs.Common.{sym, refl, arith}
use Rattle.window.proofs.Asked.{asked-lawful, asks-long}
use Rattle.window.proofs.Steps.{change-put}
use Rattle.window.proofs.Parts.{write_done}
use Rattle.window.proofs.window_change.Goals as goal

pub bounds-window-4 : goal.bounds-window-4
bounds-window-4 c =
    let passed = asked-lawful _ _ _ _ _ _ _ _ (sym c.in_ok-asked.ensures) in
    let long = asks-long _ _ _ _ _ _ _ _ _ passed.0 in
    omega (arith, long)

pub returns : goal.returns
returns c = write_done _ _ _ _ _ _ c.in_ok-asked.ensures (c.fill.ensures.after (λ y e. e)) refl _ (change-put _)
