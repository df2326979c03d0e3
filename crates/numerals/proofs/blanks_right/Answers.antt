-- The last byte that is no blank stands in front of the blanks at the end.
use Rattle.std.proofs.Common.{◌≡◌, ◌-◌, ℕ, not, ◌∙◌, ap, take, length, reverse, rules, arith}
use Rattle.std.specs.List.{position, suffix_len}
use Rattle.std.specs.Option.{unwrap_or}
use Rattle.std.proofs.lemmas.Iterator.Adapters.{YieldsList-from_rev_slice}
use Rattle.std.proofs.lemmas.Iterator.Search.{position_from_yields_List}
use Rattle.lists.proofs.Ends.{other-right, suffix-right}
use Rattle.numerals.proofs.Reading.{blank_on}
use Rattle.numerals.proofs.blanks_right.Goals as goal

pub returns : goal.returns
returns c =
    let s = c.args.part.now in
    let f = blank_on c.args.page in
    let p : c.position.result ≡ position (λ x. not (f x)) (reverse s) =
    position_from_yields_List (λ x. not (f x)) _ _ c.position.result c.position.ensures.ran (YieldsList-from_rev_slice s cc) (λ x b q k. search rules) in
    let e : c.unwrap_or.result ≡ suffix_len f s = c.unwrap_or.ensures ∙ ap (λ o. unwrap_or o (length s)) p ∙ other-right f s in
    (omega arith, ap (λ (n : ℕ). take (length s - n) s) e ∙ suffix-right f s)
