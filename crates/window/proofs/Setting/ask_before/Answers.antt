-- A window that passed the questions is long enough.
use Rattle.std.proofs.Common.{sym}
use Rattle.window.proofs.Asked.{asks-long}
use Rattle.window.proofs.Setting.ask_before.Goals as goal

pub is_lawful-requires : goal.is_lawful-requires
is_lawful-requires c = asks-long _ _ _ _ _ _ _ _ _ (sym c.in_ok-ask.ensures)
