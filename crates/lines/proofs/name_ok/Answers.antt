-- `all` answers what the test says of every byte (`every_all`).
use Rattle.std.proofs.Common.{rules, ◌≡◌, arith}
use borrow.Author.Tests.{tests}
use Rattle.std.proofs.lemmas.Grind.{common_steps}
use Rattle.std.proofs.lemmas.Iterator.{YieldsList-from_slice}
use Rattle.std.proofs.lemmas.Iterator.Search.{all_from_yields_List}
use Rattle.std.specs.List.{list_all}
use Rattle.lines.proofs.Std.{every_all}
use Rattle.lines.specs.Lines.{in_name}
use Rattle.lines.proofs.name_ok.Goals as goal

pub returns-then-part-le30 : goal.returns-then-part-le30
returns-then-part-le30 c =
    let e : c.all.result ≡ list_all in_name c.args.part.now = all_from_yields_List in_name _ _ c.all.result c.all.ensures.ran (YieldsList-from_slice c.args.part.now cc) (λ x b q k. search (rules, tests)) in
    rw every_all (grind (arith, common_steps))
