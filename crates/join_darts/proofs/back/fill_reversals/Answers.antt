use Rattle.point_darts.proofs.Fit.{point_fits}
use Rattle.table_entries.proofs.Passed.{passed_none, passed_room, passed_more, passed_all}
use Rattle.join_darts.proofs.back.fill_reversals.Goals as goal

pub loop-point-init : goal.loop-point-init
loop-point-init c = passed_none _ _ _ _ c.requires

pub put_reversals-requires : goal.put_reversals-requires
put_reversals-requires c =
    let e = c.points-point-end.ensures in
    let b = c.loop-point-test.true in
    (point_fits _ _ c.args.size.limited _ e _ b, passed_room _ _ _ _ e _ _ _ c.loop-point.invariant b)

pub loop-point-preserved : goal.loop-point-preserved
loop-point-preserved c =
    passed_more _ _ _ _ c.points-point-end.ensures _ _ _ c.loop-point.invariant c.loop-point-test.true _
    c.put_reversals.ensures

pub returns : goal.returns
returns c = passed_all _ _ _ _ c.points-point-end.ensures _ _ _ c.loop-point.invariant c.loop-point-test.false
