-- The sides of the lines that a table m of masks has (the paper, "The four levels").
--   beheld w f d    == the side of dart d, from the names f with the outside round them
--   sides w h f m   == the table of sides; the mark where the masks have no line
use Rattle.std.specs.Prelude.{List, ℕ}
use Rattle.point_darts.specs.Dart.{point, direction}
use Rattle.point_darts.specs.Point.{right}
use Rattle.paper.specs.Level.{marked}
use Rattle.level_masks.specs.Mask.{around}
use Rattle.level_lines.specs.Line.{lined}

unfoldable pub beheld : ℕ → List ℕ → ℕ → ℕ
beheld w f d = right (around w f (point d)) (direction d)

unfoldable pub sides : ℕ → ℕ → List ℕ → List ℕ → List ℕ
sides w h f m = marked w h (lined m) (beheld w f)
