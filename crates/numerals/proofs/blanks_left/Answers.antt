-- The first byte that is no blank stands behind the blanks in front.
use Rattle.std.proofs.Common.{◌≡◌, ◌≤◌, ℕ, not, ◌∙◌, ap, subst, sym, drop, length, rules}
use Rattle.std.specs.List.{position, prefix_len}
use Rattle.std.specs.Option.{unwrap_or}
use Rattle.std.proofs.lemmas.Iterator.{YieldsList-from_slice}
use Rattle.std.proofs.lemmas.Iterator.Search.{position_from_yields_List}
use Rattle.lists.proofs.Ends.{other-left, prefix-le, prefix-left}
use Rattle.numerals.proofs.Reading.{blank_on}
use Rattle.numerals.proofs.blanks_left.Goals as goal

pub returns : goal.returns
returns c =
    let s = c.args.part.now in
    let f = blank_on c.args.page in
    let p : c.position.result ≡ position (λ x. not (f x)) s =
    position_from_yields_List (λ x. not (f x)) _ _ c.position.result c.position.ensures.ran (YieldsList-from_slice s cc) (λ x b q k. search rules) in
    let e : c.unwrap_or.result ≡ prefix_len f s = c.unwrap_or.ensures ∙ ap (λ o. unwrap_or o (length s)) p ∙ other-left f s in
    (subst (λ (n : ℕ). n ≤ length s) (sym e) (prefix-le f s), ap (λ (n : ℕ). drop n s) e ∙ prefix-left f s)
