-- From 20 places on every word has room.
use Rattle.std.proofs.Common.{sym, arith, le-leb}
use Rattle.value.proofs.Room.{room-ample}
use Rattle.value.proofs.has_room.Goals as goal

pub returns-then-places-ge20 : goal.returns-then-places-ge20
returns-then-places-ge20 c = rw (le-leb 20 c.args.places c.if-places-ge20.true) (sym (room-ample c.args.places c.args.size c.if-places-ge20.true (omega arith)))
