use Prim.Native.Nat.{◌<◌}
use native.Mathlib.Omega.{arith}
use lib.ListN.{length}
use Rattle.answer.specs.Answer.{number_of}
use Rattle.answer.proofs.Tested.{err_some, err_none}
use Rattle.join_groups.proofs.Entries.{whole_most}
use Rattle.join_groups.proofs.Stopping.{stood_end, stood_stops, stood_on}
use Rattle.join_groups.proofs.each.join_each.Goals.{In-loop-rest}
use Rattle.join_groups.proofs.each.join_each.Goals.at as at
use Rattle.join_groups.proofs.each.join_each.Goals as goal

-- An entry is left.
more : (c : In-loop-rest) → 1 < length c.loop-rest.rest.now
more c = omega (arith, c.loop-rest-test.true)

pub join_pair-answer-requires : goal.join_pair-answer-requires
join_pair-answer-requires c =
    let (h, u, v) = c.requires.1 in
    let o = c.loop-rest.invariant h u v in
    (h, o.tables, o.standing)

pub returns-then-is_err : goal.returns-then-is_err
returns-then-is_err c h u v =
    let m = more (at.returns-then-is_err c).In-loop-rest in
    stood_stops _ h _ u _ _ _ _ _ _ _ _ (c.loop-rest.invariant h u v) m _ _ _ _ _ c.join_pair-answer.ensures
    (err_some _ c.if-is_err.ensures.value)

pub overflow_add-place : goal.overflow_add-place
overflow_add-place c =
    let (w, p) = c.requires in
    let (h, u, v) = p in
    omega (arith, (c.loop-rest.invariant h u v).going.long, whole_most _ _ w)

pub loop-rest-preserved : goal.loop-rest-preserved
loop-rest-preserved c = λ h u v.
    let m = more (at.loop-rest-preserved c).In-loop-rest in
    stood_on _ h _ u _ _ _ _ _ _ _ _ (c.loop-rest.invariant h u v) m _ _ _ _ _ c.join_pair-answer.ensures
    (err_none _ c.if-is_err.ensures.value)

pub returns : goal.returns
unfolding number_of
returns c h u v = stood_end _ h _ u _ _ _ _ _ _ _ _ (c.loop-rest.invariant h u v) c.loop-rest-test.false
