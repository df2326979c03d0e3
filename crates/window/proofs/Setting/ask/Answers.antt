-- That 2W + 5 fits a word follows from question 18 passed.
use Rattle.std.proofs.Common.{sym}
use Rattle.window.proofs.Asked.{pair-few}
use Rattle.window.proofs.Setting.ask.Goals as goal

pub words-requires : goal.words-requires
words-requires c = (pair-few _ _ _ _ _ (sym c.in_ok-ask_pair.ensures)).1
