use native.Mathlib.Omega.{arith}
use Rattle.point_darts.specs.Dart.{mark, point, far, reversal}
use Rattle.point_darts.proofs.Darts.{direction_below}
use Rattle.point_darts.proofs.Back.{back_fits}
use Rattle.point_darts.proofs.dart.Dart.back.Goals as goal

pub beside-requires : goal.beside-requires
unfolding mark point
beside-requires c = omega (arith, c.point.ensures)

pub opposite-requires : goal.opposite-requires
opposite-requires c = rw c.direction-direction.ensures (direction_below _)

pub leaving-requires : goal.leaving-requires
unfolding reversal far
leaving-requires c =
    rw (c.opposite.ensures, c.beside.ensures, c.point.ensures, c.direction-direction.ensures)
    (back_fits c.args.width c.args.self.number c.requires)

pub returns : goal.returns
unfolding reversal far
returns c =
    rw (
      c.leaving.ensures,
      c.opposite.ensures,
      c.beside.ensures,
      c.point.ensures,
      c.direction-direction.ensures,
    )
