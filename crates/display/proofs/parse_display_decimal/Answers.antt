-- The digits that are kept behind the sign, with that sign (`decimal-is`).
use Rattle.std.proofs.Common.{◌∙◌, map}
use Rattle.ebcdic.specs.Ebcdic.{from_page}
use Rattle.display.specs.Display.{sign_at}
use Rattle.display.proofs.Signs.{told-true, decimal-is}
use Rattle.display.proofs.parse_display_decimal.Goals as goal

pub returns : goal.returns
returns c =
    let a = c.args in
    let t = c.trim-t in
    let s = c.strip_separate_sign-minus in
    c.with_sign.ensures ∙ rw (c.eq.ensures, told-true (sign_at a.sign (map (from_page a.page) t.result.now)) _ s.ensures.minus, c.kept_digits.ensures)
    (decimal-is (from_page a.page) a.sign a.part.now t.result.now s.result.1.now t.ensures.result_value s.ensures.rest)
