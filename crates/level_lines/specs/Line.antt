-- The tables of a level whose points are all kept, levels 0 and 1, from a table m of masks (the paper, "The four levels").
--   lined m d       == the masks have the line of dart d
--   onward w m d    == the dart that follows dart d: at its far point the first line that the masks have
--   nexts w h m     == the table of next; the mark where the masks have no line
--   others w h m    == the table of other, likewise
--   entry_of m f d   == the entry of dart d in such a table of the values of f
use Rattle.std.specs.Prelude.{Bool, cond, List, ℕ}
use Rattle.point_darts.specs.Dart.{mark, dart, point, direction, far, reversal}
use Rattle.point_darts.specs.Point.{has}
use Rattle.point_rules.specs.Turn.{turn_of}
use Rattle.paper.specs.Level.{marked}
use Rattle.paper.specs.Joining.{at}

unfoldable pub lined : List ℕ → ℕ → Bool
lined m d = has (at m (point d)) (direction d)

unfoldable pub onward : ℕ → List ℕ → ℕ → ℕ
onward w m d = dart (far w d) (turn_of (at m (far w d)) (direction d))

unfoldable pub nexts : ℕ → ℕ → List ℕ → List ℕ
nexts w h m = marked w h (lined m) (onward w m)

unfoldable pub others : ℕ → ℕ → List ℕ → List ℕ
others w h m = marked w h (lined m) (reversal w)

-- the entry of a dart: that of f where the masks have its line, else the mark
unfoldable pub entry_of : List ℕ → (ℕ → ℕ) → ℕ → ℕ
entry_of m f d = cond (lined m d) (f d) mark
