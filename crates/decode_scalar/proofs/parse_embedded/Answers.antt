-- What is trimmed is read as the last byte tells; that this is the definition's way is the law of Embedded.
use mathlib.Core.Path.{sym, ap, ◌∙◌}
use mathlib.Core.List.{List, map}
use Prim.Native.Nat.{ℕ, ◌^◌}
use Rattle.value.specs.Field.{last_of}
use Rattle.value.specs.Number.{read_in, unlawful}
use Rattle.ebcdic.specs.Ebcdic.{from_page}
use Rattle.zoned.specs.Zoned.{zoned_by}
use Rattle.decode_scalar.specs.Decode.{is_overpunched}
use Rattle.decode_scalar.proofs.Embedded.{zoned-said, text-said}
use Rattle.decode_scalar.proofs.parse_embedded.Goals as goal

pub returns-then-ends_overpunched : goal.returns-then-ends_overpunched
returns-then-ends_overpunched c =
    let a = c.args in
    let trim = c.trim-t in
    let ends = ap (λ (t : List ℕ). is_overpunched (last_of t)) (sym trim.ensures.result_value) ∙ sym c.ends_overpunched.ensures ∙ c.if-ends_overpunched.true in
    c.decode_within.ensures ∙ ap (λ (t : List ℕ). zoned_by (read_in (2 ^ 63)) unlawful t) trim.ensures.result_value ∙ zoned-said (map (from_page a.page) a.part.now) ends

pub returns-else-ends_overpunched : goal.returns-else-ends_overpunched
returns-else-ends_overpunched c =
    let a = c.args in
    let trim = c.trim-t in
    let ends = ap (λ (t : List ℕ). is_overpunched (last_of t)) (sym trim.ensures.result_value) ∙ sym c.ends_overpunched.ensures ∙ c.if-ends_overpunched.false in
    c.parse_display_int.ensures ∙ text-said (map (from_page a.page) a.part.now) ends
