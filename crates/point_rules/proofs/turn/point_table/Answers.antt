use mathlib.Core.Path.{refl}
use Rattle.laws.specs.Table.{table, listed}
use Rattle.point_darts.specs.Dart.{turned}
use Rattle.point_darts.specs.Point.{bits, half, has, degree, inline}
use Rattle.point_rules.specs.Turn.{without, impossible, kind, becomes, becomes_at, point_table}
use Rattle.point_rules.proofs.turn.point_table.Goals as goal

pub returns : goal.returns
unfolding point_table becomes_at becomes without impossible kind turned bits half has degree inline table listed
returns c = refl
