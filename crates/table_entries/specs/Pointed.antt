-- The entries of the darts that leave a point.
--   four_at t p a b c d == t with these entries at the four darts that leave point p: east, south, west, north
--   pointed f p t   == t with the entries of f there
use Rattle.std.specs.Prelude.{List, ℕ, set}
use Rattle.point_darts.specs.Dart.{dart}

unfoldable pub four_at : List ℕ → ℕ → ℕ → ℕ → ℕ → ℕ → List ℕ
four_at t p a b c d = set (set (set (set t (dart p 0) a) (dart p 1) b) (dart p 2) c) (dart p 3) d

unfoldable pub pointed : (ℕ → ℕ) → ℕ → List ℕ → List ℕ
pointed f p t = four_at t p (f (dart p 0)) (f (dart p 1)) (f (dart p 2)) (f (dart p 3))
