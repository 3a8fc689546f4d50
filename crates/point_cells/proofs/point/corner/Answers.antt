use mathlib.Core.Path.{refl}
use Rattle.point_darts.specs.Point.{corner}
use Rattle.point_cells.proofs.point.corner.Goals as goal

pub returns : goal.returns
unfolding corner
returns c = refl
