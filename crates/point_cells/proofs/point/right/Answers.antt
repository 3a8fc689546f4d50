use Rattle.point_darts.specs.Point.{right}
use Rattle.point_darts.proofs.Arm.{right_rest}
use Rattle.point_cells.proofs.point.right.Goals as goal

pub returns-in-0 : goal.returns-in-0
unfolding right
returns-in-0 c = rw c.in-0.is c.corner.ensures

pub returns-in-1 : goal.returns-in-1
unfolding right
returns-in-1 c = rw c.in-1.is c.corner-in-1.ensures

pub returns-in-2 : goal.returns-in-2
unfolding right
returns-in-2 c = rw c.in-2.is c.corner-in-2.ensures

pub returns-in-3 : goal.returns-in-3
unfolding right
returns-in-3 c = rw c.in-3.is c.corner-in-3.ensures

pub returns-in_default : goal.returns-in_default
returns-in_default c =
    let r = c.in_default.in_default-own.rest in
    rw (right_rest _ _ r.0.0.0.1 r.0.0.1 r.0.1 r.1)
