use mathlib.Core.Path.{refl}
use native.Mathlib.Omega.{arith}
use Rattle.point_darts.specs.Dart.{mark, dart}
use Rattle.point_darts.proofs.dart.Dart.leaving.Goals as goal

pub overflow_mul-result : goal.overflow_mul-result
unfolding dart mark
overflow_mul-result c = omega arith

pub overflow_add-result : goal.overflow_add-result
unfolding dart mark
overflow_add-result c = omega arith

pub returns : goal.returns
unfolding dart
returns c = refl
