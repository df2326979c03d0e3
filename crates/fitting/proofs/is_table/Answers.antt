-- By the law of Asks of that name.
use Rattle.fitting.proofs.Asks.{tabled-not, tabled-never, tabled-times}
use Rattle.fitting.proofs.is_table.Goals as goal

pub returns-then-not-is_holder : goal.returns-then-not-is_holder
returns-then-not-is_holder c = tabled-not _ _ _ _ _ _ _ c.is_holder.ensures c.if-not-is_holder.true

pub returns-in-Ok : goal.returns-in-Ok
returns-in-Ok c =
    tabled-times _ _ _ _ _ _ _ c.is_holder.ensures c.if-not-is_holder.false _ c.in-Ok.ensures _ _ _ c.item_end-end.ensures c.after.ensures c.members.ensures

pub returns-in-Err : goal.returns-in-Err
returns-in-Err c = tabled-never _ _ _ _ _ _ _ c.is_holder.ensures c.if-not-is_holder.false _ c.in-Err.ensures
