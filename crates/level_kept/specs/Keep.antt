-- The points that levels 2 and 3 keep, as tables of 1 for kept and 0, from a table m of masks (the paper, "The four levels").
--   bends w h m    == level 2: three or four lines, or a corner
--   large m q       == three or four lines at point q
--   stands n m t p  == the table t names point p at a large point below n
--   keeps w h m t  == level 3: the large points, and, with t the least points of the pieces, the anchors: a point with lines
--                      that stands for its piece, where it stands for no large point
use Rattle.std.specs.Prelude.{Bool, not, ◌&&◌, ◌||◌, List, ℕ, eqb}
use Rattle.laws.specs.Table.{table, number, some}
use Rattle.point_darts.specs.Dart.{points}
use Rattle.point_rules.specs.Turn.{becomes_of}
use Rattle.paper.specs.Joining.{at}

-- what the point table says of a point where no line is taken
unfoldable pub kind_at : List ℕ → ℕ → ℕ
kind_at m p = becomes_of (at m p) 0

unfoldable pub large : List ℕ → ℕ → Bool
large m p = eqb (kind_at m p) 3

unfoldable pub bends : ℕ → ℕ → List ℕ → List ℕ
bends w h m = table (points w h) (λ p. number (large m p || eqb (kind_at m p) 2))

unfoldable pub stands : ℕ → List ℕ → List ℕ → ℕ → Bool
stands n m t p = some n (λ q. eqb (at t q) p && large m q)

unfoldable pub anchored : ℕ → List ℕ → List ℕ → ℕ → Bool
anchored n m t p = not (eqb (at m p) 0) && eqb (at t p) p && not (stands n m t p)

unfoldable pub keeps : ℕ → ℕ → List ℕ → List ℕ → List ℕ
keeps w h m t = table (points w h) (λ p. number (large m p || anchored (points w h) m t p))

-- the entry that level 3 puts for the flag of point p in the table k
unfoldable pub settles : List ℕ → List ℕ → List ℕ → ℕ → ℕ
settles m t k p = number (large m p || (not (eqb (at m p) 0) && eqb (at t p) p && not (eqb (at k p) 1)))
