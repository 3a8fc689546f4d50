-- The first cells of a sheet, as the other tables take them.
use mathlib.Core.Path.{◌≡◌, refl}
use mathlib.Core.List.{List, map}
use Prim.Native.Nat.{ℕ, suc, ◌*◌}
use Rattle.laws.specs.Least.{least}
use Rattle.laws.proofs.Least.{least_le}
use Rattle.paper.specs.Name.{west, north, names}
use Rattle.region_names.specs.Frame.{Down}
use Rattle.region_names.proofs.Neighbour.{west_back, north_back}

module _ (w h : ℕ) (s : List ℕ) where
  -- no first cell is later than its place
  pub first_down : Down (w * h) (least (w * h) (west w s) (north w s))
  first_down k b =
      least_le (w * h) (west w s) (north w s) (λ i d. west_back w s i (west w s i) refl)
      (λ i d. north_back w s i (north w s i) refl) k

  -- the names are 1 plus the first cells
  pub first_names : (t : List ℕ) → t ≡ least (w * h) (west w s) (north w s) → map suc t ≡ names w h s
  unfolding names
  first_names t e = rw e
