use Rattle.level_call.proofs.Tables.{bends_points, keeps_points}
use Rattle.level_call.proofs.along.keep_points.Goals as goal

pub returns-then-level-eq2 : goal.returns-then-level-eq2
returns-then-level-eq2 c = bends_points _ _ _ _ _ _ c.if-level-eq2.true c.bends.ensures

pub returns : goal.returns
returns c =
    keeps_points _ _ _ _ _ _ c.if-level-eq2.false c.keep_anchors.ensures
