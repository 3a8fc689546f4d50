use native.Mathlib.Omega.{arith}
use Rattle.point_darts.specs.Dart.{slots}
use Rattle.point_darts.proofs.Fit.{points_fit}
use Rattle.listing.proofs.slots_of.Goals as goal

pub returns : goal.returns
unfolding slots
returns c = (c.slots.ensures, omega (arith, c.slots.ensures, points_fit _ _ c.args.size.limited))
