use mathlib.Core.Path.{refl}
use native.Mathlib.Omega.{arith}
use Rattle.point_darts.specs.Dart.{mark}
use Rattle.level_pieces.proofs.Neighbour.{toward_on, toward_off}
use Rattle.level_pieces.proofs.points.toward_first.Goals as goal

pub returns-then-side-dart : goal.returns-then-side-dart
unfolding mark
returns-then-side-dart c = toward_off _ _ _ _ 0 c.requires c.if-side-dart.true

pub returns-then-point-back : goal.returns-then-point-back
unfolding mark
returns-then-point-back c = toward_on _ _ _ _ _ c.requires c.if-side-dart.false (omega arith)

pub returns : goal.returns
unfolding mark
returns c = toward_on _ _ _ _ _ c.requires c.if-side-dart.false refl
