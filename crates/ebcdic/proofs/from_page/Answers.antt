-- Page 0 has the byte itself; on any other page a digit, the blank and the signs are what the table has for them.
use Rattle.std.proofs.Common.{sym, ap, arith, eq-eqb, ne_eqb}
use Rattle.ebcdic.specs.Ebcdic.{from_page, to_ascii, ascii_table}
use Rattle.ebcdic.proofs.Laws.{ascii-digit}
use Rattle.ebcdic.proofs.from_page.Goals as goal

pub returns-then-page-eq0 : goal.returns-then-page-eq0
unfolding from_page
returns-then-page-eq0 c = rw (eq-eqb _ _ c.if-page-eq0.true)

pub returns-in-64 : goal.returns-in-64
unfolding from_page to_ascii ascii_table
returns-in-64 c = rw (ne_eqb _ _ c.if-page-eq0.false) (ap to_ascii (sym c.in-64.is))

pub returns-in-78 : goal.returns-in-78
unfolding from_page to_ascii ascii_table
returns-in-78 c = rw (ne_eqb _ _ c.if-page-eq0.false) (ap to_ascii (sym c.in-78.is))

pub returns-in-96 : goal.returns-in-96
unfolding from_page to_ascii ascii_table
returns-in-96 c = rw (ne_eqb _ _ c.if-page-eq0.false) (ap to_ascii (sym c.in-96.is))

pub returns-in-240-to-249 : goal.returns-in-240-to-249
unfolding from_page
returns-in-240-to-249 c = rw (ne_eqb _ _ c.if-page-eq0.false) (ascii-digit _ (omega arith) (omega arith))

pub returns-in_default : goal.returns-in_default
unfolding from_page
returns-in_default c = rw (ne_eqb _ _ c.if-page-eq0.false) c.to_ascii.ensures
