use mathlib.Core.Path.{refl}
use Rattle.point_darts.specs.Dart.{turned}
use Rattle.point_darts.proofs.dart.opposite.Goals as goal

pub returns : goal.returns
unfolding turned
returns c = refl
