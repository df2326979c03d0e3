-- Page 0 has the byte itself; on any other page a digit, the blank and the signs are what the table has for them.
use Rattle.std.proofs.Common.{sym, ap, arith, eq-eqb, ne_eqb}
use Rattle.ebcdic.specs.Ebcdic.{onto_page, to_ebcdic, ebcdic_table}
use Rattle.ebcdic.proofs.Laws.{ebcdic-digit}
use Rattle.ebcdic.proofs.onto_page.Goals as goal

pub returns-then-page-eq0 : goal.returns-then-page-eq0
unfolding onto_page
returns-then-page-eq0 c = rw (eq-eqb _ _ c.if-page-eq0.true)

pub returns-in-32 : goal.returns-in-32
unfolding onto_page to_ebcdic ebcdic_table
returns-in-32 c = rw (ne_eqb _ _ c.if-page-eq0.false) (ap to_ebcdic (sym c.in-32.is))

pub returns-in-43 : goal.returns-in-43
unfolding onto_page to_ebcdic ebcdic_table
returns-in-43 c = rw (ne_eqb _ _ c.if-page-eq0.false) (ap to_ebcdic (sym c.in-43.is))

pub returns-in-45 : goal.returns-in-45
unfolding onto_page to_ebcdic ebcdic_table
returns-in-45 c = rw (ne_eqb _ _ c.if-page-eq0.false) (ap to_ebcdic (sym c.in-45.is))

pub returns-in-48-to-57 : goal.returns-in-48-to-57
unfolding onto_page
returns-in-48-to-57 c = rw (ne_eqb _ _ c.if-page-eq0.false) (ebcdic-digit _ (omega arith) (omega arith))

pub returns-in_default : goal.returns-in_default
unfolding onto_page
returns-in_default c = rw (ne_eqb _ _ c.if-page-eq0.false) c.to_ebcdic.ensures
