use native.Mathlib.Omega.{arith}
use Rattle.point_darts.specs.Dart.{mark, dart}
use Rattle.level_pieces.proofs.points.grow_first.Goals as goal

pub leaving-requires : goal.leaving-requires
unfolding dart mark
leaving-requires c = omega arith

pub toward_first-w-requires : goal.toward_first-w-requires
unfolding dart
toward_first-w-requires c = omega (arith, c.leaving.ensures)
