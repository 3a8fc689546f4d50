use mathlib.Core.Path.{refl}
use native.Mathlib.Omega.{arith}
use Rattle.sheet_size.proofs.Limit.{within_limits}
use Rattle.point_darts.specs.Dart.{points}
use Rattle.point_darts.proofs.Fit.{points_fit}
use Rattle.point_darts.proofs.dart.points.Goals as goal

pub overflow_add-result : goal.overflow_add-result
overflow_add-result c = omega (arith, within_limits _ _ c.args.size.limited)

pub overflow_add-result-2 : goal.overflow_add-result-2
overflow_add-result-2 c = omega (arith, within_limits _ _ c.args.size.limited)

pub overflow_mul-result : goal.overflow_mul-result
unfolding points
overflow_mul-result c = omega (arith, points_fit _ _ c.args.size.limited)

pub returns : goal.returns
unfolding points
returns c = refl
