use Prim.Native.Nat.{◌<◌}
use native.Mathlib.Omega.{arith}
use lib.ListN.{length}
use Rattle.answer.specs.Answer.{number_of}
use Rattle.answer.proofs.Tested.{err_some, err_none}
use Rattle.join_groups.proofs.Entries.{whole_most}
use Rattle.join_list.proofs.Going.{going_end, going_stops, going_on, found_stated}
use Rattle.join_list.proofs.each.join_each.Goals.{In-loop-rest}
use Rattle.join_list.proofs.each.join_each.Goals.at as at
use Rattle.join_list.proofs.each.join_each.Goals as goal

-- An entry is left.
more : (c : In-loop-rest) → 1 < length c.loop-rest.rest.now
more c = omega (arith, c.loop-rest-test.true)

pub returns-then-is_err : goal.returns-then-is_err
returns-then-is_err c =
    let p = c.join_pair-answer.ensures in
    let z = err_some _ c.if-is_err.ensures.value in
    going_stops _ _ _ _ _ _ _ _ _ _ _ c.loop-rest.invariant (more (at.returns-then-is_err c).In-loop-rest) _ p.0 z _ _ _ (p.2 z)

pub overflow_add-place : goal.overflow_add-place
overflow_add-place c = omega (arith, c.loop-rest.invariant.entries.long, whole_most _ _ c.requires.0)

pub loop-rest-preserved : goal.loop-rest-preserved
loop-rest-preserved c =
    let p = c.join_pair-answer.ensures in
    let z = err_none _ c.if-is_err.ensures.value in
    let k = c.join_pair-answer.auto in
    going_on _ _ _ _ _ _ _ _ _ _ _ c.loop-rest.invariant (more (at.loop-rest-preserved c).In-loop-rest) _ p.0 z _ _ _ (p.1 z).0 (p.1 z).1
    (found_stated _ _ _ _ _ _ _ _ _ _ _ _ _ _ _ _ _ _ c.loop-rest.invariant.lent.sizes
    k.next1 k.side1 k.next3 k.other3 k.cells k.borders k.back k.list)

pub returns : goal.returns
unfolding number_of
returns c =
    let g = c.loop-rest.invariant in
    (going_end _ _ _ _ _ _ _ _ _ _ _ g c.loop-rest-test.false, g.left)
