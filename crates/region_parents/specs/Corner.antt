-- The parent of a name from a point.
--   parent_from w s t k n == by the sides s and the tops t, the name round the piece of point k where the line east of it bears
--                           the name n, the mark where it does not
use Rattle.std.specs.Prelude.{cond, ◌&&◌, List, ℕ, eqb, get_or}
use Rattle.point_darts.specs.Dart.{mark, dart, reversal}
use Rattle.paper.specs.Joining.{at, on}

unfoldable pub parent_from : ℕ → List ℕ → List ℕ → ℕ → ℕ → ℕ
parent_from w s t k n =
    cond (on s (dart k 0) && eqb (at s (dart k 0)) n) (at s (reversal w (dart (get_or t k 0) 0))) mark
