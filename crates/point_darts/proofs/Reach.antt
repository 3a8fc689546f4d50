-- Where the darts on the sheet start and lead.
--   line w h d      == the dart's line lies on the sheet
--   far w d         == the point that the dart leads to
use mathlib.Core.Path.{◌≡◌}
use mathlib.Core.Bool.{true, and-eq-true_iff}
use Prim.Native.Nat.{ℕ, zero, suc, ◌+◌, ◌/◌, ◌%◌, ◌<◌, ◌≤◌}
use native.Mathlib.Nat.{mod-le, mul-le-mul_right, div-add-mod'}
use native.Mathlib.Omega.{arith}
use lib.Dec.{leb, lit<}
use borrow.Author.Tests.{ltb-true}
use Rattle.point_darts.specs.Dart.{dart, point, direction, beside, far, reversal, stays, line, points, slots}
use Rattle.point_darts.proofs.Darts.{point_dart, direction_dart, dart_own, direction_below, point_reversal}
use Rattle.point_darts.proofs.Darts.{line_reversal, line_below}

module _ (w h : ℕ) where
  -- a slot is a dart's that leaves a point of the sheet
  pub slot_point : (d : ℕ) → d < slots w h → point d < points w h
  unfolding point slots
  slot_point d b = omega arith

  -- a dart on the sheet starts and ends at points of the sheet
  pub line_point : (d : ℕ) → line w h d ≡ true → point d < points w h
  line_point d e = slot_point d (line_below w h d e)

  pub line_far : (d : ℕ) → line w h d ≡ true → far w d < points w h
  line_far d e = rw (point_reversal w d) at (line_point (reversal w d) (line_reversal w h d e))

  -- west of a point there is a line only past the first column, north of it only past the first row
  module _ (p : ℕ) where
    line_stays : (k : ℕ) → k < 4 → line w h (dart p k) ≡ true → stays w h (p % (w + 1)) (p / (w + 1)) k ≡ true
    unfolding line
    line_stays k b e =
        let t = rw (point_dart p k b, direction_dart p k b) at e in
        ((and-eq-true_iff (leb (p / (w + 1)) h) (stays w h (p % (w + 1)) (p / (w + 1)) k)).0 t).1

    pub line_west_in : line w h (dart p 2) ≡ true → 0 < p
    unfolding stays
    line_west_in e = omega (arith, mod-le p (w + 1), ltb-true 0 (p % (w + 1)) (line_stays 2 (lit< tt) e))

    pub line_north_in : line w h (dart p 3) ≡ true → w + 1 ≤ p
    unfolding stays
    line_north_in e =
        let l : 1 ≤ p / (w + 1) = ltb-true 0 (p / (w + 1)) (line_stays 3 (lit< tt) e) in
        omega (arith, mul-le-mul_right (w + 1) l, div-add-mod' p (w + 1))

  -- east and south lead to greater points, west and north to smaller ones
  beside_after : (p k : ℕ) → k < 2 → p < beside w p k
  unfolding beside
  beside_after p zero b = omega arith
  beside_after p (suc zero) b = omega arith
  beside_after p (suc (suc k)) b = absurd (omega arith)

  beside_before : (p k : ℕ) → k < 4 → 2 ≤ k → line w h (dart p k) ≡ true → beside w p k < p
  unfolding beside
  beside_before p zero b c e = absurd (omega arith)
  beside_before p (suc zero) b c e = absurd (omega arith)
  beside_before p (suc (suc zero)) b c e = omega (arith, line_west_in p e)
  beside_before p (suc (suc (suc zero))) b c e = omega (arith, line_north_in p e)
  beside_before p (suc (suc (suc (suc k)))) b c e = absurd (omega arith)

  pub far_after : (d : ℕ) → direction d < 2 → point d < far w d
  unfolding far
  far_after d b = beside_after (point d) (direction d) b

  pub far_before : (d : ℕ) → 2 ≤ direction d → line w h d ≡ true → far w d < point d
  unfolding far
  far_before d b e = beside_before (point d) (direction d) (direction_below d) b (rw (dart_own d) e)
