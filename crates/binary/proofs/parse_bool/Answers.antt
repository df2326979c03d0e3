-- A field is true where not all of its bytes stand for false.
use Rattle.std.proofs.Common.{◌≡◌, rules, not, ap, ◌∙◌}
use Rattle.std.specs.List.{list_all}
use Rattle.std.proofs.lemmas.Iterator.{YieldsList-from_slice}
use Rattle.std.proofs.lemmas.Iterator.Search.{all_from_yields_List}
use Rattle.binary.specs.Binary.{is_false, bool_of}
use Rattle.binary.proofs.Bools.{all-every}
use Rattle.binary.proofs.parse_bool.Goals as goal

pub returns : goal.returns
unfolding bool_of
returns c =
    let e : c.all.result ≡ list_all is_false c.args.part.now =
    all_from_yields_List is_false _ _ c.all.result c.all.ensures.ran (YieldsList-from_slice c.args.part.now cc) (λ x b q k. search rules) in
    ap not (e ∙ all-every is_false c.args.part.now)
