use native.Mathlib.Omega.{arith}
use Rattle.point_darts.specs.Dart.{stays}
use Rattle.point_darts.proofs.Arm.{stays_rest}
use Rattle.point_darts.proofs.dart.stays.Goals as goal

pub returns-in-0 : goal.returns-in-0
unfolding stays
returns-in-0 c = rw c.in-0.is

pub returns-in-1 : goal.returns-in-1
unfolding stays
returns-in-1 c = rw c.in-1.is

pub returns-in-2 : goal.returns-in-2
unfolding stays
returns-in-2 c = rw c.in-2.is

pub returns-in_default : goal.returns-in_default
returns-in_default c = rw (stays_rest _ _ _ _ c.args.direction (omega arith) (omega arith) (omega arith))
