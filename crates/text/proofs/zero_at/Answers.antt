-- The first 0 stands behind the bytes before it.
use Rattle.std.proofs.Common.{◌≡◌, ◌≤◌, ℕ, ◌∙◌, ap, subst, sym, not, take, length, rules}
use Rattle.std.specs.List.{position, prefix_len}
use Rattle.std.specs.Option.{unwrap_or}
use Rattle.std.proofs.lemmas.Iterator.{YieldsList-from_slice}
use Rattle.std.proofs.lemmas.Iterator.Search.{position_from_yields_List}
use Rattle.text.specs.Text.{is_byte}
use Rattle.lists.proofs.Ends.{found-or-end, prefix-le, prefix-before}
use Rattle.text.proofs.zero_at.Goals as goal

pub returns : goal.returns
returns c =
    let s = c.args.s.now in
    let f = is_byte 0 in
    let p : c.position.result ≡ position f s =
    position_from_yields_List f _ _ c.position.result c.position.ensures.ran (YieldsList-from_slice s cc) (λ x b q k. search rules) in
    let e : c.unwrap_or.result ≡ prefix_len (λ x. not (f x)) s = c.unwrap_or.ensures ∙ ap (λ o. unwrap_or o (length s)) p ∙ found-or-end f s in
    (subst (λ (n : ℕ). n ≤ length s) (sym e) (prefix-le (λ x. not (f x)) s), ap (λ (n : ℕ). take n s) e ∙ prefix-before f s)
