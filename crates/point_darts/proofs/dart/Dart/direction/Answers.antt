use Rattle.point_darts.specs.Dart.{direction}
use mathlib.Core.Path.{refl}
use Rattle.point_darts.proofs.dart.Dart.direction.Goals as goal

pub returns : goal.returns
unfolding direction
returns c = refl
