use native.Mathlib.Omega.{arith}
use Rattle.point_darts.specs.Dart.{mark, dart, point}
use Rattle.point_darts.proofs.Darts.{direction_below, turned_below}
use Rattle.level_curves.proofs.link.reversal.Goals as goal

pub opposite-requires : goal.opposite-requires
opposite-requires c = rw c.direction-direction.ensures (direction_below _)

pub leaving-requires : goal.leaving-requires
unfolding mark dart point
leaving-requires c =
    omega (arith, c.point-far.ensures, c.opposite.ensures, turned_below c.direction-direction.result 2)
