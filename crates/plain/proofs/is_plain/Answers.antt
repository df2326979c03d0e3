-- `is_plain` meets its contract: a law of Whole for each way out, by the question that the layout fails.
use Rattle.std.proofs.Common.{sym, ◌∙◌}
use Rattle.codes.proofs.Refusals.{refused, accepted}
use Rattle.plain.proofs.Whole.{unlawful, room, name-twice, decided}
use Rattle.plain.proofs.is_plain.Goals as goal
use Rattle.plain.proofs.is_plain.Goals.{then-is_err-via-then-is_err, then-is_err-via-else-is_err+then-not-distinct_names}

pub returns-then-is_err : goal.returns-then-is_err
returns-then-is_err c =
    elim c.then-is_err.branch [
      | then-is_err-via-then-is_err w ↦ unlawful _ _ _ (λ z. refused c.check.result (sym c.is_err.ensures.value ∙ w.if-is_err.true) (c.check.ensures ∙ z))
      | then-is_err-via-else-is_err+then-not-distinct_names w ↦
          let lawful = sym c.check.ensures ∙ accepted c.check.result (sym c.is_err.ensures.value ∙ w.if-is_err.false) in
          name-twice _ _ _ lawful w.distinct_names.ensures w.if-not-distinct_names.true
    ]

pub walk-requires : goal.walk-requires
walk-requires c =
    let lawful = sym c.check.ensures ∙ accepted c.check.result (sym c.is_err.ensures.value ∙ c.if-is_err.false) in
    rw c.entry_count.ensures (room _ _ _ lawful)

pub returns : goal.returns
returns c =
    let lawful = sym c.check.ensures ∙ accepted c.check.result (sym c.is_err.ensures.value ∙ c.if-is_err.false) in
    c.is_some.ensures ∙ decided _ _ _ lawful c.distinct_names.ensures c.if-not-distinct_names.false _ _ _ (rw c.entry_count.ensures at c.walk.ensures)
