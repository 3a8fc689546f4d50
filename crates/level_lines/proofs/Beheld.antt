-- The side of a dart, by its point and its direction.
use mathlib.Core.Path.{◌≡◌}
use mathlib.Core.List.{List}
use Prim.Native.Nat.{ℕ, ◌<◌}
use Rattle.point_darts.specs.Dart.{dart}
use Rattle.point_darts.specs.Point.{right}
use Rattle.point_darts.proofs.Darts.{point_dart, direction_dart}
use Rattle.level_masks.specs.Mask.{around}
use Rattle.level_lines.specs.Side.{beheld}

pub beheld_dart : (w p : ℕ) (f : List ℕ) (k : ℕ) → k < 4 → right (around w f p) k ≡ beheld w f (dart p k)
unfolding beheld
beheld_dart w p f k b = rw (point_dart p k b, direction_dart p k b)
