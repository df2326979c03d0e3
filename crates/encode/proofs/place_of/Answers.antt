-- Each way by the law of Order of that name.
use Rattle.encode.proofs.Order.{place-pad, place_here, place-there, ahead-behind}
use Rattle.encode.proofs.place_of.Goals as goal

pub returns-then-is_lone_pad-clause-to_value : goal.returns-then-is_lone_pad-clause-to_value
returns-then-is_lone_pad-clause-to_value c = place-pad _ _ _ _ _ c.is_lone_pad.ensures c.if-is_lone_pad.true

pub returns-then-has_name-clause-to_value : goal.returns-then-has_name-clause-to_value
returns-then-has_name-clause-to_value c = place_here _ _ _ _ _ c.is_lone_pad.ensures c.if-is_lone_pad.false _ _ c.requires c.if-f-name.true _ c.has_name.ensures c.if-has_name.true

pub returns-then-has_name-clause-ahead : goal.returns-then-has_name-clause-ahead
returns-then-has_name-clause-ahead c = ahead-behind _ _ _ _ _ c.is_lone_pad.ensures c.if-is_lone_pad.false _ _ c.requires c.if-f-name.true _ c.has_name.ensures c.if-has_name.true _ c.item_end.ensures

pub returns-clause-to_value : goal.returns-clause-to_value
returns-clause-to_value c = place-there _ _ _ _ _ c.is_lone_pad.ensures c.if-is_lone_pad.false _ c.find.ensures.found
