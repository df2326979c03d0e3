-- `ebcdic::decode_slice` meets its contract: on page 0 the bytes are copied, on any other they are translated by the table.
use mathlib.Core.Path.{ap, ◌∙◌}
use Rattle.ebcdic.specs.Ebcdic.{to_ascii, ascii_table, copied}
use Rattle.ebcdic.proofs.Laws.{from-same, from-table, copied-same}
use Rattle.ebcdic.proofs.decode_slice.Goals as goal

pub returns-then-page-eq0 : goal.returns-then-page-eq0
returns-then-page-eq0 c =
    let a = c.args in
    c.copy.ensures ∙ copied-same (from-same a.page c.if-page-eq0.true) a.src.now a.out.now

pub returns-else-page-eq0 : goal.returns-else-page-eq0
unfolding to_ascii ascii_table
returns-else-page-eq0 c =
    let a = c.args in
    c.translate.ensures ∙ ap (λ f. copied f a.src.now a.out.now) (from-table a.page c.if-page-eq0.false)
