use Rattle.point_darts.specs.Dart.{point}
use mathlib.Core.Path.{refl}
use Rattle.point_darts.proofs.dart.Dart.point.Goals as goal

pub returns : goal.returns
unfolding point
returns c = refl
