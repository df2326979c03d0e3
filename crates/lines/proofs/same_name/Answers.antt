-- Both fold each capital to its small letter, and the folded names are the same list exactly if `equal` passes (`same_decides`).
use Rattle.lines.proofs.Sight.{same_decides}
use Rattle.lines.proofs.same_name.Goals as goal

pub returns : goal.returns
returns c = same_decides c.args.a.now c.args.b.now c.eq_ignore_ascii_case.result c.eq_ignore_ascii_case.ensures.test
