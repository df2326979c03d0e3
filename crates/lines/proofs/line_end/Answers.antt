-- What `position` finds, or the length, is the place before which no byte is a newline (`before_place`).
use Rattle.std.proofs.Common.{rules, ◌≡◌}
use borrow.Author.Tests.{tests}
use Rattle.std.proofs.lemmas.Iterator.{YieldsList-from_slice}
use Rattle.std.proofs.lemmas.Iterator.Search.{position_from_yields_List}
use Rattle.std.specs.List.{position}
use Rattle.lines.proofs.Std.{before_place}
use Rattle.lines.specs.Lines.{is_end}
use Rattle.lines.proofs.line_end.Goals as goal

pub returns : goal.returns
returns c =
    let s = c.args.s.now in
    let e : c.position.result ≡ position is_end s = position_from_yields_List is_end _ _ c.position.result c.position.ensures.ran (YieldsList-from_slice s cc) (λ x b q k. search (rules, tests)) in
    rw (c.unwrap_or.ensures, e) (before_place is_end s)
