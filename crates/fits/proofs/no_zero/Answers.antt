-- What the library says of `all` is a test of every element; the elements are bytes, so that it is the definition's.
use Rattle.std.proofs.Common.{◌≡◌, ℕ, Bool, not, eqb, rules, ◌∙◌, arith}
use Rattle.std.specs.List.{list_all}
use Rattle.std.proofs.lemmas.Iterator.{YieldsList-from_slice}
use Rattle.std.proofs.lemmas.Iterator.Search.{all_from_yields_List}
use Rattle.fits.specs.Decide.{is_text_byte}
use Rattle.binary.proofs.Bools.{all-every}
use Rattle.fits.proofs.Steps.{every-same, byte-some}
use Rattle.fits.proofs.no_zero.Goals as goal

pub returns : goal.returns
returns c =
    let t = c.args.t.now in
    let some : ℕ → Bool = λ x. not (eqb x 0) in
    let said : c.all.result ≡ list_all some t = all_from_yields_List some _ _ c.all.result c.all.ensures.ran (YieldsList-from_slice t cc) (λ x b q k. search rules) in
    said ∙ all-every some t ∙ every-same some is_text_byte t (λ k h. byte-some _ (omega (arith, c.type_inv.t k)))
