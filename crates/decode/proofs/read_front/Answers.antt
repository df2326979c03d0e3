-- The questions first; then the counts are started and the entries are read.
use Rattle.std.proofs.Common.{refl, length}
use Rattle.codes.proofs.Refusals.{some_number}
use Rattle.codes.proofs.Refusals.{passed-on}
use Rattle.decode.proofs.Public.{not-long, not-asked, walk_refused, walk-read}
use Rattle.decode.proofs.read_front.Goals as goal

pub returns-in_err-ask : goal.returns-in_err-ask
returns-in_err-ask c =
    let a = c.args in
    let l = a.layout.now in
    let deps = c.has_depending_on-deps in
    rw (passed-on c.from_residual.result c.in_err-ask.field-0.0 c.from_residual.ensures.1)
    (not-asked l.words.now l.masks.now l.page a.«record».now (length a.items.now) (length a.text.now) (length a.counts.now) deps.result deps.ensures _ c.in_err-ask.ensures (some_number _))

pub decode_seq-requires-clause-record_len_bound : goal.decode_seq-requires-clause-record_len_bound
decode_seq-requires-clause-record_len_bound c =
    let a = c.args in
    let l = a.layout.now in
    let deps = c.has_depending_on-deps in
    not-long l.words.now l.masks.now l.page a.«record».now 0 0 (length a.counts.now) deps.result deps.ensures 0 c.in_ok-ask.ensures refl

pub returns-in_err-all : goal.returns-in_err-all
returns-in_err-all c =
    let a = c.args in
    let l = a.layout.now in
    let deps = c.has_depending_on-deps in
    rw (passed-on c.from_residual-in_err-all.result c.in_err-all.field-0.0 c.from_residual-in_err-all.ensures.1)
    (walk_refused l.words.now l.masks.now l.page a.«record».now (length a.items.now) (length a.text.now) (length a.counts.now) deps.result deps.ensures 0 c.in_ok-ask.ensures refl
    _ _ c.start_counts.ensures _ (rw c.entry_count.ensures at c.in_err-all.ensures))

pub returns : goal.returns
returns c =
    let a = c.args in
    let l = a.layout.now in
    let deps = c.has_depending_on-deps in
    let fine = rw c.entry_count.ensures at c.in_ok-all.ensures in
    record {
      is = walk-read l.words.now l.masks.now l.page a.«record».now (length a.items.now) (length a.text.now) (length a.counts.now) deps.result deps.ensures 0 c.in_ok-ask.ensures refl
          _ _ c.start_counts.ensures _ _ _ _ fine.is;
      words = fine.within;
      bytes = fine.told;
    }
