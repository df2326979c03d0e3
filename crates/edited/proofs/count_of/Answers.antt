-- Those that pass the filter are those that the definition counts.
use Rattle.std.proofs.Common.{◌≡◌, ◌∙◌, eqb, rules}
use Rattle.std.specs.List.{count_by}
use Rattle.edited.proofs.Turns.{count-is}
use Rattle.edited.proofs.count_of.Goals as goal

pub returns : goal.returns
returns c =
    let e : c.count.result ≡ count_by (λ x. eqb x c.args.sym) c.args.mask.now = search rules in
    e ∙ count-is (λ x. eqb x c.args.sym) c.args.mask.now
