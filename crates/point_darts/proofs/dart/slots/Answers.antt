use mathlib.Core.Path.{ap}
use Prim.Native.Nat.{◌*◌}
use native.Mathlib.Omega.{arith}
use Rattle.point_darts.specs.Dart.{slots}
use Rattle.point_darts.proofs.Fit.{points_fit}
use Rattle.point_darts.proofs.dart.slots.Goals as goal

pub overflow_mul-result : goal.overflow_mul-result
overflow_mul-result c = omega (arith, c.points.ensures, points_fit _ _ c.args.size.limited)

pub returns : goal.returns
unfolding slots
returns c = ap (λ n. 4 * n) c.points.ensures
