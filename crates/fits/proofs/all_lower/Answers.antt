-- What the library says of `all` is the definition's test of every byte.
use Rattle.std.proofs.Common.{◌≡◌, rules, ◌∙◌}
use Rattle.std.specs.List.{list_all}
use Rattle.std.proofs.lemmas.Iterator.{YieldsList-from_slice}
use Rattle.std.proofs.lemmas.Iterator.Search.{all_from_yields_List}
use Rattle.hex_field.specs.Hex.{is_lower}
use Rattle.binary.proofs.Bools.{all-every}
use Rattle.fits.proofs.all_lower.Goals as goal

pub returns : goal.returns
returns c =
    let t = c.args.t.now in
    let said : c.all.result ≡ list_all is_lower t = all_from_yields_List is_lower _ _ c.all.result c.all.ensures.ran (YieldsList-from_slice t cc) (λ x b q k. search rules) in
    said ∙ all-every is_lower t
