-- Totals beside each region (request T-01), by the table n of names.
--   cells_of w h n r == how many cells bear the name r
--   borders_of w h n r == how many border lines the region named r has: the darts of level 1 with that side
--   total c f r     == f r, the mark where c counts no cell of the name r; of the outside f 0
--   totals w h c f  == the table of these, by name
--   summed t        == the entries of the table t added up, a mark as 0
use Rattle.std.specs.Prelude.{cond, ◌&&◌, List, [], ◌∷◌, ℕ, zero, suc, ◌+◌, ◌*◌, eqb}
use Rattle.laws.specs.Table.{table, count}
use Rattle.point_darts.specs.Dart.{mark, slots}
use Rattle.paper.specs.Name.{label}
use Rattle.paper.specs.Level.{side, border}

unfoldable pub cells_of : ℕ → ℕ → List ℕ → ℕ → ℕ
cells_of w h n r = count (w * h) (λ i. eqb (label n i) r)

unfoldable pub borders_of : ℕ → ℕ → List ℕ → ℕ → ℕ
borders_of w h n r = count (slots w h) (λ d. border w h n d && eqb (side w h n d) r)

unfoldable pub total : (ℕ → ℕ) → (ℕ → ℕ) → ℕ → ℕ
total c f zero = f 0
total c f (suc i) = cond (eqb (c (suc i)) 0) mark (f (suc i))

unfoldable pub totals : ℕ → ℕ → (ℕ → ℕ) → (ℕ → ℕ) → List ℕ
totals w h c f = table (w * h + 1) (total c f)

unfoldable pub summed : List ℕ → ℕ
summed [] = 0
summed (x ∷ t) = cond (eqb x mark) 0 x + summed t
