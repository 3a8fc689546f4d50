-- What is seen at a point.
--   becoming m l    == what a point becomes that had the lines m and has the lines l left
use mathlib.Core.Path.{◌≡◌}
use mathlib.Core.Bool.{true, ◌||◌}
use Prim.Native.Nat.{ℕ, ◌<◌}
use lib.Dec.{eqb}
use borrow.Author.Tests.{eq-eqb, ne_eqb}
use Rattle.point_darts.specs.Point.{degree}
use Rattle.point_rules.specs.Turn.{becoming}
use Rattle.point_rules.proofs.Becoming.{becoming_two}

-- whether two lines are left
module _ (m l k : ℕ) (a : m < 16) (b : l < 16) (e : k ≡ becoming m l) where
  said : (eqb k 1 || eqb k 2) ≡ eqb (degree l) 2
  said = rw e (becoming_two m l a b)

  pub two_in_line : k ≡ 1 → true ≡ eqb (degree l) 2
  two_in_line f = rw (eq-eqb k 1 f) at said

  pub two_corner : (k ≡ 1 → ⊥) → eqb k 2 ≡ eqb (degree l) 2
  two_corner n = rw (ne_eqb k 1 n) at said
