-- Those that pass the filter are those that the definition counts.
use Rattle.std.proofs.Common.{◌≡◌, ◌∙◌, rules}
use Rattle.std.specs.List.{count_by}
use Rattle.edited.specs.Edited.{is_digit_pos}
use Rattle.edited.proofs.Turns.{count-is}
use Rattle.edited.proofs.count_positions.Goals as goal

pub returns : goal.returns
returns c =
    let e : c.count.result ≡ count_by is_digit_pos c.args.mask.now = search rules in
    e ∙ count-is is_digit_pos c.args.mask.now
