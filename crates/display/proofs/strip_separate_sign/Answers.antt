-- A sign takes its byte from the end where it stands.
use Rattle.std.proofs.Common.{None, map, rules, arith}
use Rattle.ebcdic.specs.Ebcdic.{from_page}
use Rattle.display.proofs.Signs.{sign_none, sign_nowhere, Ends, Stripped, ends-first, ends-last, stripped-nothing, stripped-minus, stripped-plus, stripped-other}
use Rattle.display.proofs.strip_separate_sign.Goals as goal
use Rattle.display.proofs.strip_separate_sign.Goals.{in-2-len1-up, in-3-len1-up, in_default-via-in-2+then-part-lt1, in_default-via-in-3+then-this-lt1, in_default-via-in_default}

pub returns-in_default : goal.returns-in_default
returns-in_default c =
    let a = c.args in
    let g = from_page a.page in
    let s = a.part.now in
    let r : Stripped g s a.sign None (map g s) = elim c.in_default.branch [
      | in_default-via-in-2+then-part-lt1 w ↦ stripped-nothing g s a.sign (sign_none g s a.sign (search rules))
      | in_default-via-in-3+then-this-lt1 w ↦ stripped-nothing g s a.sign (sign_none g s a.sign (search rules))
      | in_default-via-in_default w ↦ stripped-nothing g s a.sign (sign_nowhere g s a.sign (omega arith) (omega arith))
    ] in record { minus = r.told; rest = r.left }

pub returns-in-45 : goal.returns-in-45
returns-in-45 c =
    let a = c.args in
    let m = c.match-sign in
    let g = from_page a.page in
    let s = a.part.now in
    let ends : Ends g s a.sign m.b.0 m.b.1.now = elim m.branch [
      | in-2-len1-up w ↦ rw w.b-is (ends-first g s a.sign (omega arith) (omega arith))
      | in-3-len1-up w ↦ rw w.b-is (ends-last g s a.sign (omega arith) (omega arith))
    ] in
    let r = stripped-minus g s a.sign m.b.0 m.b.1.now ends _ c.from_page.ensures c.in-45.is in record { minus = r.told; rest = r.left }

pub returns-in-43 : goal.returns-in-43
returns-in-43 c =
    let a = c.args in
    let m = c.match-sign in
    let g = from_page a.page in
    let s = a.part.now in
    let ends : Ends g s a.sign m.b.0 m.b.1.now = elim m.branch [
      | in-2-len1-up w ↦ rw w.b-is (ends-first g s a.sign (omega arith) (omega arith))
      | in-3-len1-up w ↦ rw w.b-is (ends-last g s a.sign (omega arith) (omega arith))
    ] in
    let r = stripped-plus g s a.sign m.b.0 m.b.1.now ends _ c.from_page.ensures c.in-43.is in record { minus = r.told; rest = r.left }

pub returns-in_default-from_page : goal.returns-in_default-from_page
returns-in_default-from_page c =
    let a = c.args in
    let m = c.match-sign in
    let g = from_page a.page in
    let s = a.part.now in
    let ends : Ends g s a.sign m.b.0 m.b.1.now = elim m.branch [
      | in-2-len1-up w ↦ rw w.b-is (ends-first g s a.sign (omega arith) (omega arith))
      | in-3-len1-up w ↦ rw w.b-is (ends-last g s a.sign (omega arith) (omega arith))
    ] in
    let r = stripped-other g s a.sign m.b.0 m.b.1.now ends _ c.from_page.ensures (omega arith) (omega arith) in record { minus = r.told; rest = r.left }
