use mathlib.Core.Path.{refl}
use Rattle.point_darts.specs.Dart.{mark}
use Rattle.level_pieces.proofs.Neighbour.{toward_on, toward_off}
use Rattle.level_pieces.proofs.points.toward.Goals as goal

pub returns-then-side-dart : goal.returns-then-side-dart
unfolding mark
returns-then-side-dart c = toward_off _ _ _ _ 0 c.requires.0 c.if-side-dart.true

pub returns-else-side-dart : goal.returns-else-side-dart
unfolding mark
returns-else-side-dart c = toward_on _ _ _ _ _ c.requires.0 c.if-side-dart.false refl
