use native.Mathlib.Omega.{arith}
use Rattle.count_turns.proofs.Taking.{going_stop, going_out, right_fits, left_fits, going_more}
use Rattle.count_turns.proofs.turns.run.Goals as goal

pub returns-then-after-end : goal.returns-then-after-end
returns-then-after-end c = going_stop _ _ _ _ _ _ _ _ _ c.loop.invariant c.if-after-end.true

pub overflow_add-right : goal.overflow_add-right
overflow_add-right c =
    omega (
      arith,
      right_fits _ _ _ _ _ _ _ _ _ c.loop.invariant c.loop-test.true c.if-after-end.false _
          c.turn_into.ensures _ c.counted-one.ensures.0,
    )

pub overflow_add-left : goal.overflow_add-left
overflow_add-left c =
    omega (
      arith,
      left_fits _ _ _ _ _ _ _ _ _ c.loop.invariant c.loop-test.true c.if-after-end.false _
          c.turn_into.ensures _ c.counted-one.ensures.1,
    )

pub loop-preserved : goal.loop-preserved
loop-preserved c =
    going_more _ _ _ _ _ _ _ _ _ c.loop.invariant c.loop-test.true c.if-after-end.false
    _ c.turn_into.ensures _ _ _ c.counted-one.ensures.0 c.counted-one.ensures.1 c.get-after-in-loop.ensures

pub returns : goal.returns
returns c = going_out _ _ _ _ _ _ _ _ _ c.loop.invariant c.loop-test.false
