-- What refuses is what is shown, and the list that is read is (`prints-refusal`, `prints-list`).
use mathlib.Core.Path.{refl, ap, ◌∙◌}
use lib.ListN.{replicate}
use Rattle.codes.proofs.Refusals.{some_number}
use Rattle.codes.specs.declared.Refusal.TheVariants.{NoRoom}
use Rattle.std.proofs.lemmas.Result.{err_from_is_err_and}
use Rattle.walks.specs.Records.{most}
use Rattle.shown.specs.Shown.{item_room, bytes_in, more_in}
use Rattle.shown.specs.Sink.{all}
use Rattle.shown.proofs.Answers.{layout-long, refused-reads, prints-refusal, prints-list}
use Rattle.shown.proofs.Output.push_record.Goals as goal

pub returns-in_err-layout-clause-err : goal.returns-in_err-layout-clause-err
returns-in_err-layout-clause-err c =
    let l = c.args.layout in
    let r = c.args.record in
    let p = err_from_is_err_and c.from_residual.result c.from_residual.ensures.1 in
    let w = c.in_err-layout.ensures.err in
    rw (p.1, p.2, w.1) (
      refl,
      prints-refusal (bytes_in l) (more_in l) (bytes_in r) (more_in r) _ _ _ (replicate item_room 0) _ (replicate most 0) _
          (refused-reads _ NoRoom (replicate item_room 0) (replicate most 0) refl refl (layout-long (bytes_in l) (more_in l) (bytes_in r) (more_in r) w.0)) (some_number NoRoom),
    )

pub returns-in_err-reading-clause-err : goal.returns-in_err-reading-clause-err
returns-in_err-reading-clause-err c =
    let l = c.in_ok-layout.layout.now in
    let r = c.args.record in
    let e = c.in_err-reading.field-0.0 in
    let p = err_from_is_err_and c.from_residual-in_err-reading.result c.from_residual-in_err-reading.ensures.1 in
    rw (p.1, p.2, c.in_ok-layout.ensures.ok.0) (refl, prints-refusal l _ (bytes_in r) (more_in r) _ 0 0 _ _ _ _ c.in_err-reading.ensures (some_number e))

pub returns-clause-ok : goal.returns-clause-ok
returns-clause-ok c =
    let l = c.in_ok-layout.layout.now in
    let r = c.args.record in
    let q = c.in_ok-reading.reading in
    rw c.in_ok-layout.ensures.ok.0 (c.push_list.ensures ∙ ap (all _) (prints-list l _ (bytes_in r) (more_in r) 0 q.items q.text _ _ _ _ c.in_ok-reading.ensures refl))
