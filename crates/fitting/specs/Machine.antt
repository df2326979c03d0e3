-- What the functions of the walk promise, by their own answer: nothing of the work space where an item does not fit.
use Rattle.std.specs.Prelude.{ℕ, Option, Some, None, List, ℤ}
use Rattle.fitting.specs.Steps.{Progress, fits}
use Rattle.walks.specs.Decide.{Fit, misfit}

-- what an answer says that a part of the walk came to: the text bytes so far, the counts as they are left
abbrev pub fit_in : Option ℕ → List ℤ → Fit Progress
fit_in (Some told) run = fits run told
fit_in None run = misfit
