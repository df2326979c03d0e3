-- `ebcdic::encode_slice` meets its contract: on page 0 the bytes are copied, on any other they are translated by the table.
use mathlib.Core.Path.{ap, ◌∙◌}
use Rattle.ebcdic.specs.Ebcdic.{to_ebcdic, ebcdic_table, copied}
use Rattle.ebcdic.proofs.Laws.{onto_same, onto-table, copied-same}
use Rattle.ebcdic.proofs.encode_slice.Goals as goal

pub returns-then-page-eq0 : goal.returns-then-page-eq0
returns-then-page-eq0 c =
    let a = c.args in
    c.copy.ensures ∙ copied-same (onto_same a.page c.if-page-eq0.true) a.src.now a.out.now

pub returns-else-page-eq0 : goal.returns-else-page-eq0
unfolding to_ebcdic ebcdic_table
returns-else-page-eq0 c =
    let a = c.args in
    c.translate.ensures ∙ ap (λ f. copied f a.src.now a.out.now) (onto-table a.page c.if-page-eq0.false)
