-- `all` answers what the test says of every byte (`every_all`).
use Rattle.std.proofs.Common.{rules, sym, ◌∙◌}
use borrow.Author.Tests.{tests}
use Rattle.std.proofs.lemmas.Iterator.{YieldsList-from_slice}
use Rattle.std.proofs.lemmas.Iterator.Search.{all_from_yields_List}
use Rattle.lines.proofs.Std.{every_all}
use Rattle.lines.specs.Lines.{in_mask}
use Rattle.lines.proofs.mask_ok.Goals as goal

pub returns : goal.returns
returns c =
    all_from_yields_List in_mask _ _ _ c.all.ensures.ran (YieldsList-from_slice c.args.part.now cc) (λ x b q k. search (rules, tests)) ∙ sym (every_all in_mask c.args.part.now)
