-- The way back along a line.
use mathlib.Core.Path.{◌≡◌}
use mathlib.Core.Bool.{true, ◌&&◌}
use Prim.Native.Nat.{ℕ, zero, suc, ◌+◌, ◌*◌, ◌/◌, ◌%◌, ◌≤◌, ◌<◌}
use native.Mathlib.Nat.{mod-lt, div-add-mod', mul-le-mul}
use native.Mathlib.Omega.{arith}
use lib.Dec.{leb}
use borrow.Author.Tests.{leb-true}
use Rattle.sheet_size.specs.Size.{widest, tallest, within}
use Rattle.point_darts.specs.Dart.{mark, dart, point, direction, beside, far, turned, reversal, stays, line, reversed}
use Rattle.laws.proofs.Test.{and_left, and_right}
use Rattle.sheet_size.proofs.Limit.{Within, within_limits}

-- the points of a sheet are few
low : (w h p : ℕ) → Within w h → p / (w + 1) ≤ h → p < (widest + 1) * (tallest + 1)
low w h p s e =
    omega (
      arith,
      div-add-mod' p (w + 1),
      mod-lt p {m = w + 1} (omega arith),
      mul-le-mul {n₁ = p / (w + 1)} {m₁ = w + 1} {n₂ = tallest} {m₂ = widest + 1} (omega arith) (omega arith),
    )

-- the point beside a point is at most a row further on
pub beside_le : (w p k : ℕ) → beside w p k ≤ p + (w + 1)
unfolding beside
beside_le w p zero = omega arith
beside_le w p (suc zero) = omega arith
beside_le w p (suc (suc zero)) = omega arith
beside_le w p (suc (suc (suc k))) = omega arith

line_row : (w h d : ℕ) → line w h d ≡ true → point d / (w + 1) ≤ h
unfolding line
line_row w h d e =
    leb-true (point d / (w + 1)) h
    (and_left (leb (point d / (w + 1)) h) (stays w h (point d % (w + 1)) (point d / (w + 1)) (direction d)) e)

-- a size that is one, and a line on the sheet
pub record OnSheet (w h d : ℕ) : Type 0 where
  pub size : Within w h
  pub near : point d < (widest + 1) * (tallest + 1)

pub on_sheet : (w h d : ℕ) → within w h && line w h d ≡ true → OnSheet w h d
on_sheet w h d e =
    let s = within_limits w h (and_left (within w h) (line w h d) e) in
    record { size = s; near = low w h (point d) s (line_row w h d (and_right (within w h) (line w h d) e)) }

pub back : (w h d : ℕ) → within w h && line w h d ≡ true → reversal w d ≡ reversed w h d
unfolding reversed
back w h d e = simp e

-- the reversal of a dart whose number is far from the mark fits
pub back_fits : (w d : ℕ) → d + 4 * (w + 2) < mark → reversal w d ≤ mark
unfolding reversal far dart point turned
back_fits w d b = omega (arith, beside_le w (point d) (direction d))
