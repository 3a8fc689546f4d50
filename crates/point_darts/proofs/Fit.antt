-- On a sheet of a size that is one, the numbers of cells, points and darts fit.
use mathlib.Core.Path.{◌≡◌}
use mathlib.Core.Bool.{true}
use Prim.Native.Nat.{ℕ, ◌+◌, ◌*◌, ◌≤◌, ◌<◌}
use native.Mathlib.Nat.{mul-le-mul, mul-le-mul_left}
use native.Mathlib.Omega.{arith}
use Rattle.sheet_size.specs.Size.{widest, tallest, within}
use Rattle.point_darts.specs.Dart.{mark, points, slots, dart}
use Rattle.sheet_size.proofs.Limit.{within_limits}

-- a row of points is no more than all points
pub row_fit : (w h : ℕ) → w + 1 ≤ points w h
unfolding points
row_fit w h = let l : 1 ≤ h + 1 = omega arith in omega (arith, mul-le-mul_left (w + 1) l)

module _ (w h : ℕ) (e : within w h ≡ true) where
  pub cells_fit : w * h ≤ widest * tallest
  cells_fit = let l = within_limits w h e in mul-le-mul l.width_most l.height_most

  pub points_fit : points w h ≤ (widest + 1) * (tallest + 1)
  unfolding points
  points_fit =
      let l = within_limits w h e in
      let a : w + 1 ≤ widest + 1 = omega arith in
      let b : h + 1 ≤ tallest + 1 = omega arith in
      mul-le-mul a b

  pub width_fit : w ≤ widest
  width_fit = (within_limits w h e).width_most

  pub frame_fit : points w h + w + 2 ≤ (widest + 1) * (tallest + 2) + 1
  frame_fit = omega (arith, points_fit, (within_limits w h e).width_most)

  -- of n points, the darts of point p
  module _ (n : ℕ) (q : n ≡ points w h) (p : ℕ) (b : p < n) where
    pub darts_fit : (dart p 3 < mark) × (dart p 3 < slots w h)
    unfolding dart mark slots
    darts_fit = omega (arith, points_fit)

    -- and those a row further on
    pub point_fits : dart p 3 + 4 * (w + 2) < mark
    unfolding dart mark
    point_fits = omega (arith, points_fit, (within_limits w h e).width_most)

  -- of n slots, dart d and those a row further on
  pub dart_fits : (n : ℕ) → n ≡ slots w h → (d : ℕ) → d < n → d + 4 * (w + 2) < mark
  unfolding mark slots
  dart_fits n q d b = omega (arith, points_fit, (within_limits w h e).width_most)
