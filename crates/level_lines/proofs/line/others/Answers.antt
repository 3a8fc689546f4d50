use native.Mathlib.Omega.{arith}
use Rattle.paper.specs.Level.{marked}
use Rattle.point_darts.proofs.Fit.{point_fits}
use Rattle.table_entries.proofs.Passed.{passed_none, passed_room, passed_more, passed_all}
use Rattle.level_lines.specs.Line.{entry_of, others}
use Rattle.level_lines.proofs.line.others.Goals as goal

pub loop-p-init : goal.loop-p-init
loop-p-init c = passed_none _ _ _ _ c.requires.1

pub other_at-requires : goal.other_at-requires
other_at-requires c =
    let q = c.requires in
    let e = c.points-n.ensures in
    let b = c.loop-p-test.true in
    (omega (arith, q.0, e, b), point_fits _ _ c.args.size.limited _ e _ b, passed_room _ _ _ _ e _ _ _ c.loop-p.invariant b)

pub loop-p-preserved : goal.loop-p-preserved
loop-p-preserved c =
    passed_more _ _ _ _ c.points-n.ensures _ _ _ c.loop-p.invariant c.loop-p-test.true _
    c.other_at.ensures

pub returns : goal.returns
unfolding others marked entry_of
returns c = passed_all _ _ _ _ c.points-n.ensures _ _ _ c.loop-p.invariant c.loop-p-test.false
