-- Enclosure and the two counts (the paper, "Enclosure and the two counts"; holes as request T-02 has them), over the lines that are
-- on and their sides. A piece is told by its least point.
--   top_side w i     == the dart that runs east along the top side of cell i
--   outer w t i     == the outer piece of the region whose first cell is i: the one that holds the top side of that cell; t has
--                      the tops
--   parent w .. r   == the region round the outer piece of the region named r, the mark where no region has that name
--   parents ..      == the table of parents, by name
--   depth t r       == how many parents up from r the outside is
--   hole w h t p r q == the piece q is the outer piece of some region whose parent is r; p has the parents
--   holes w h on p r == how many different pieces are the outer pieces of the regions whose parent is r
use Rattle.std.specs.Prelude.{Bool, cond, ◌&&◌, List, ℕ, zero, suc, ◌+◌, ◌*◌, ◌/◌, eqb, get_or}
use Rattle.laws.specs.Table.{table, count, some}
use Rattle.point_darts.specs.Dart.{mark, points, dart, point, reversal}
use Rattle.paper.specs.Level.{tops}

unfoldable pub top_side : ℕ → ℕ → ℕ
top_side w i = dart (i + i / w) 0

abbrev pub outer : ℕ → List ℕ → ℕ → ℕ
outer w t i = get_or t (point (top_side w i)) 0

-- a name is in use where the top side of its first cell bears it
unfoldable pub parent : ℕ → (ℕ → Bool) → (ℕ → ℕ) → List ℕ → ℕ → ℕ
parent w on side t zero = mark
parent w on side t (suc i) =
    cond (on (top_side w i) && eqb (side (top_side w i)) (suc i))
    (side (reversal w (dart (outer w t i) 0)))
    mark

unfoldable pub parents : ℕ → ℕ → (ℕ → Bool) → (ℕ → ℕ) → List ℕ
parents w h on side =
    let t = tops w h on in
    table (w * h + 1) (parent w on side t)

unfoldable pub above : List ℕ → ℕ → ℕ → ℕ
above t zero r = 0
above t (suc n) zero = 0
above t (suc n) (suc r) = suc (above t n (get_or t (suc r) mark))

unfoldable pub depth : List ℕ → ℕ → ℕ
depth t r = above t r r

unfoldable pub hole : ℕ → ℕ → List ℕ → List ℕ → ℕ → ℕ → Bool
hole w h t p r q = some (w * h) (λ i. eqb (get_or p (suc i) mark) r && eqb (outer w t i) q)

unfoldable pub holes : ℕ → ℕ → (ℕ → Bool) → List ℕ → ℕ → ℕ
holes w h on p r = let t = tops w h on in count (points w h) (hole w h t p r)
