use native.Mathlib.Omega.{arith}
use Rattle.point_darts.specs.Dart.{mark, dart}
use Rattle.level_pieces.proofs.points.grow.Goals as goal

pub leaving-requires : goal.leaving-requires
unfolding dart mark
leaving-requires c = omega arith

pub toward-w-requires : goal.toward-w-requires
unfolding dart
toward-w-requires c = omega (arith, c.leaving.ensures)
