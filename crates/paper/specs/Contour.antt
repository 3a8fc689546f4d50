-- Contours: the orbits of next at level 1 (request T-02). Each has one region on its right hand.
--   reached w h n stop d == going on by next from d, the first dart that passes the test stop; if none does, some dart on the way
--   contour w h n r d   == d is the least dart of a contour that has the region r on its right hand
--   outermost w h n r d == the contour of d holds the top side of the first cell of the region r; the outside has no first cell
--   inner_contours w h n r == how many contours have r on their right hand and are not its outermost
use Rattle.std.specs.Prelude.{Bool, false, not, ◌&&◌, List, ℕ, zero, suc, eqb, ltb}
use Rattle.laws.specs.Table.{count}
use Rattle.laws.specs.Run.{run}
use Rattle.point_darts.specs.Dart.{slots}
use Rattle.paper.specs.Level.{side, border, next}
use Rattle.paper.specs.Enclosure.{top_side}

unfoldable pub reached : ℕ → ℕ → List ℕ → (ℕ → Bool) → ℕ → ℕ
reached w h n stop d = run (next w (border w h n)) stop (slots w h) d

unfoldable pub contour : ℕ → ℕ → List ℕ → ℕ → ℕ → Bool
contour w h n r d =
    border w h n d && eqb (side w h n d) r && not (ltb (reached w h n (λ e. ltb e d) d) d)

unfoldable pub outermost : ℕ → ℕ → List ℕ → ℕ → ℕ → Bool
outermost w h n zero d = false
outermost w h n (suc i) d = eqb (reached w h n (λ e. eqb e (top_side w i)) d) (top_side w i)

unfoldable pub inner_contours : ℕ → ℕ → List ℕ → ℕ → ℕ
inner_contours w h n r = count (slots w h) (λ d. contour w h n r d && not (outermost w h n r d))
