use native.Mathlib.Omega.{arith}
use Rattle.point_darts.specs.Dart.{beside}
use Rattle.point_darts.proofs.Arm.{beside_rest}
use Rattle.point_darts.proofs.dart.beside.Goals as goal

pub returns-in-0 : goal.returns-in-0
unfolding beside
returns-in-0 c = rw c.in-0.is

pub returns-in-1 : goal.returns-in-1
unfolding beside
returns-in-1 c = rw c.in-1.is

pub returns-in-2 : goal.returns-in-2
unfolding beside
returns-in-2 c = rw c.in-2.is c.saturating_sub.ensures

pub returns-in_default : goal.returns-in_default
returns-in_default c =
    rw (beside_rest _ _ c.args.direction (omega arith) (omega arith) (omega arith)) c.saturating_sub-in_default.ensures
