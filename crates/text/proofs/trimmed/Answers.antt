-- Each end is found on raw bytes; the part between them, translated, is the cut of the translated field, and where it starts is known.
use mathlib.Core.Path.{refl, ap, ◌∙◌}
use mathlib.Core.List.{map}
use native.Mathlib.Omega.{arith}
use Rattle.text.specs.Text.{cut}
use Rattle.ebcdic.specs.Ebcdic.{from_page}
use Rattle.text.proofs.Cuts.{right-part, right-from, left-part, from_zero, from-right}
use Rattle.lists.specs.Part.{place_in}
use Rattle.lists.proofs.Part.{place-zero}
use Rattle.text.proofs.trimmed.Goals as goal

pub returns-then-right : goal.returns-then-right
returns-then-right c =
    let a = c.args in
    rw (c.if-not-trim.false, c.if-right.true) (record {
      result_value = right-part a.page a.pad (omega arith) a.s.now (λ k _. omega (arith, c.type_inv.s k)) c.onto_page-p.result c.pad_start.result c.zero_at.result
          c.onto_page-p.ensures c.pad_start.ensures.1 c.zero_at.ensures.1;
      ref_ptr_value = ap (place_in a.s)
          (right-from a.page a.pad (omega arith) a.s.now (λ k _. omega (arith, c.type_inv.s k)) c.onto_page-p.result c.pad_start.result
          c.onto_page-p.ensures c.pad_start.ensures.0);
    })

pub returns-else-right : goal.returns-else-right
returns-else-right c =
    let at-shared-slice-known = c.type_inv in
    let a = c.args in
    let at-if1 = c.if-not-trim in
    let at-onto-page = c.onto_page-p in
    let at-if2 = c.if-right in
    rw (at-if1.false, at-if2.false) (record {
      result_value = left-part a.page a.pad (omega arith) a.s.now (λ k _. omega (arith, at-shared-slice-known.s k)) at-onto-page.result c.text_end.result
          at-onto-page.ensures c.text_end.ensures.1;
      ref_ptr_value = place-zero a.s ∙ ap (place_in a.s) (from-right a.pad (map (from_page a.page) a.s.now));
    })

pub returns-then-not-trim : goal.returns-then-not-trim
unfolding cut
returns-then-not-trim c =
    let a = c.args in
    rw c.if-not-trim.true (record {
      result_value = refl;
      ref_ptr_value = place-zero a.s ∙ ap (place_in a.s) (from_zero a.right a.pad (map (from_page a.page) a.s.now));
    })
