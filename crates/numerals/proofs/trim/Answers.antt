-- What the two scans leave is the trimmed text (`trim-is`), and it starts behind the blanks at the left end (`trim-from`).
use Rattle.std.proofs.Common.{ap}
use Rattle.numerals.proofs.Reading.{trim-is, trim-from}
use Rattle.lists.specs.Part.{place_in}
use Rattle.numerals.proofs.trim.Goals as goal

pub returns : goal.returns
returns c =
    let a = c.args in
    let l = c.blanks_left in
    let r = c.blanks_right in
    record {
      result_value = trim-is a.page a.part.now l.result r.result l.ensures.1 r.ensures.1;
      ref_ptr_value = ap (place_in a.part) (trim-from a.page a.part.now l.result l.ensures.0 l.ensures.1);
    }
