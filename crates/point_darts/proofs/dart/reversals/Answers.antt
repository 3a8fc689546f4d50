use native.Mathlib.Omega.{arith}
use Rattle.point_darts.specs.Dart.{mark, dart}
use Rattle.point_darts.proofs.dart.reversals.Goals as goal

pub leaving-requires : goal.leaving-requires
unfolding dart mark
leaving-requires c = omega arith

pub back-requires : goal.back-requires
unfolding dart mark
back-requires c = omega (arith, c.leaving.ensures)

pub leaving-requires-2 : goal.leaving-requires-2
unfolding dart mark
leaving-requires-2 c = omega arith

pub back-requires-2 : goal.back-requires-2
unfolding dart mark
back-requires-2 c = omega (arith, c.leaving-2.ensures)

pub leaving-requires-3 : goal.leaving-requires-3
unfolding dart mark
leaving-requires-3 c = omega arith

pub back-requires-3 : goal.back-requires-3
unfolding dart mark
back-requires-3 c = omega (arith, c.leaving-3.ensures)
