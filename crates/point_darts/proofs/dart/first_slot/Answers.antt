use native.Mathlib.Omega.{arith}
use Rattle.point_darts.specs.Dart.{dart}
use Rattle.point_darts.proofs.dart.first_slot.Goals as goal

pub returns : goal.returns
unfolding dart
returns c = omega arith
