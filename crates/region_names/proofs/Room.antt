-- How much of a work table is used, and the first cells at its front.
use mathlib.Core.Path.{◌≡◌, ◌∙◌}
use mathlib.Core.List.{List, map}
use Prim.Native.Nat.{ℕ, suc, ◌+◌, ◌*◌, ◌≤◌}
use native.Mathlib.Nat.{mul-le-mul_left}
use native.Mathlib.Omega.{arith}
use Rattle.laws.specs.Least.{least}
use Rattle.point_darts.specs.Dart.{points, slots}
use Rattle.paper.specs.Name.{west, north, names}
use Rattle.paper_laws.proofs.Marks.{cells_slots}
use Rattle.region_names.specs.Frame.{Down, framed}
use Rattle.region_names.proofs.First.{first_down, first_names}

module _ (w h : ℕ) where
  pub cells_part : w * h ≤ slots w h
  cells_part = omega (arith, cells_slots w h)

  -- n points
  module _ (n : ℕ) (e : n ≡ points w h) where
    pub points_part : n ≤ slots w h
    unfolding slots
    points_part = omega arith

    pub surround_part : n + w + 2 ≤ slots w h
    unfolding slots points
    surround_part =
        let b : 1 ≤ h + 1 = omega arith in
        omega (arith, mul-le-mul_left (w + 1) b)

-- The first cells in a front, and the names that they give.
module _ (w h : ℕ) (s t e : List ℕ) (p : t ≡ e) (q : e ≡ least (w * h) (west w s) (north w s)) where
  pub firsts_down : Down (w * h) t
  firsts_down = rw (p, q) (first_down w h s)

  pub firsts_names : (u v : List ℕ) → u ≡ v → v ≡ framed w h (map suc t) → u ≡ framed w h (names w h s)
  firsts_names u v f g = f ∙ g ∙ rw (first_names w h s t (p ∙ q))
