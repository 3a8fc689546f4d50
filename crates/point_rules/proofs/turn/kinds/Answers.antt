use mathlib.Core.Path.{refl}
use Rattle.laws.specs.Table.{table}
use Rattle.point_darts.specs.Dart.{turned}
use Rattle.point_darts.specs.Point.{bits, has, half, degree, inline}
use Rattle.point_rules.specs.Turn.{without, impossible, kind, becomes, becomes_of, kinding}
use Rattle.point_rules.proofs.turn.kinds.Goals as goal

pub returns : goal.returns
unfolding table turned bits has half degree inline without impossible kind becomes becomes_of kinding
returns c = refl
