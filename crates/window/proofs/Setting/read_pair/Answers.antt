-- What the reader leaves where it refuses (`pair_refused`), and what is taken out of its list (`pair_taken`).
use Rattle.window.proofs.Parts.{pair_refused}
use Rattle.window.proofs.Setting.read_pair.Goals as goal

pub returns-in-Err : goal.returns-in-Err
returns-in-Err c = pair_refused _ _ _ _ _ _ _ _ _ _ _ c.in-Err.ensures
