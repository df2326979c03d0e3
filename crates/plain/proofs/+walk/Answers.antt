-- `walk` meets its contract: a law of Turns for each way through the loop, at the entry that the code has loaded.
use Rattle.std.proofs.Common.{ap, ◌+◌, arith}
use Rattle.layout.proofs.Laws.{reserved_small}
use Rattle.plain.proofs.Turns.{ends, own-fails, inner-fails, room-left, goes_on}
use Rattle.plain.proofs.+walk.Goals as goal

pub returns-then-not-own_ok : goal.returns-then-not-own_ok
returns-then-not-own_ok t c =
    own-fails _ _ _ _ _ _ _ _ _ c.loop-i.invariant _ _ c.loop-i-test.true c.load-e.ensures c.end_of-end.ensures _ c.own_ok.ensures c.if-not-own_ok.true _

pub returns-in_err-inner : goal.returns-in_err-inner
returns-in_err-inner t c =
    let fails = inner-fails _ _ _ _ _ _ _ _ _ c.loop-i.invariant _ _ c.loop-i-test.true c.load-e.ensures c.end_of-end.ensures _ c.own_ok.ensures c.if-not-own_ok.false _ _ c.walk.ensures c.in_err-inner.was in
    rw c.from_residual.ensures (fails _)

pub put_known-high-requires : goal.put_known-high-requires
put_known-high-requires t c =
    room-left _ _ _ _ _ _ _ _ _ c.loop-i.invariant _ _ c.loop-i-test.true c.load-e.ensures c.end_of-end.ensures _ c.own_ok.ensures c.if-not-own_ok.false _ _ c.walk.ensures
    _ c.in_ok-inner.was c.walk.auto.known _ c.held_top-held.ensures (omega arith)

pub overflow_add-from : goal.overflow_add-from
overflow_add-from t c = omega (arith, c.reserved_width.ensures, reserved_small c.load-e.result (omega arith) (omega arith))

pub loop-i-preserved : goal.loop-i-preserved
loop-i-preserved t c =
    let end = ap (λ n. c.load-e.result.offset + n) c.reserved_width.ensures in
    let room = room-left _ _ _ _ _ _ _ _ _ c.loop-i.invariant _ _ c.loop-i-test.true c.load-e.ensures c.end_of-end.ensures _ c.own_ok.ensures c.if-not-own_ok.false _ _ c.walk.ensures
    _ c.in_ok-inner.was c.walk.auto.known _ c.held_top-held.ensures (omega arith) in
    goes_on _ _ _ _ _ _ _ _ _ c.loop-i.invariant _ _ c.loop-i-test.true c.load-e.ensures c.end_of-end.ensures _ c.own_ok.ensures c.if-not-own_ok.false _ _ c.walk.ensures
    _ c.in_ok-inner.was c.walk.auto.known _ _ _ c.held_top-held.ensures c.put_known-high.ensures.value c.put_known-high.ensures.known_after
    c.put_known-high.auto.known room _ end

pub returns : goal.returns
returns t c = ends _ _ _ _ _ _ _ _ _ c.loop-i.invariant c.loop-i-test.false
