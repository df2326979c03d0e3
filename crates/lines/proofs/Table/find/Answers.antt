-- What `position` finds among the starts that are held, or how many these are, is the name's index among the names there (`find_is`).
use Rattle.std.proofs.Common.{rules, ◌≡◌, take}
use borrow.Author.Tests.{tests}
use Prim.Native.Nat.{ℕ}
use Rattle.std.proofs.lemmas.Iterator.{YieldsList-from_slice}
use Rattle.std.proofs.lemmas.Iterator.Search.{position_from_yields_List}
use Rattle.std.specs.List.{position}
use Rattle.lines.specs.Lines.{line_from}
use Rattle.lines.specs.Names.{same_name}
use Rattle.lines.proofs.Sight.{find_is}
use Rattle.lines.proofs.Table.find.Goals as goal

pub returns : goal.returns
returns c =
    let a = c.args in
    let e : c.position.result ≡ position (λ (x : ℕ). same_name a.name.now (line_from a.self.now.text.now x)) (take c.min.result a.self.now.starts.now) =
    position_from_yields_List (λ (x : ℕ). same_name a.name.now (line_from a.self.now.text.now x)) _ _ c.position.result c.position.ensures.ran (YieldsList-from_slice (take c.min.result a.self.now.starts.now) cc) (λ x b q k. search (rules, tests)) in
    find_is a.self.now.text.now a.self.now.starts.now a.name.now a.self.now.count c.min.result c.unwrap_or.result c.position.result c.min.ensures e c.unwrap_or.ensures
