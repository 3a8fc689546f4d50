-- The label of a cell, from the sides of level 1.
--   label_at s d v   == the side of dart d by the table s where the dart is present, else v, the label to the left
use Rattle.std.specs.Prelude.{cond, List, ℕ, eqb}
use Rattle.point_darts.specs.Dart.{mark}
use Rattle.paper.specs.Joining.{at}

unfoldable pub label_at : List ℕ → ℕ → ℕ → ℕ
label_at s d v = cond (eqb (at s d) mark) v (at s d)
