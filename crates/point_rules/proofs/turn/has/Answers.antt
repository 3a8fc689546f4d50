use mathlib.Core.Path.{◌≡◌, ap}
use Prim.Native.Nat.{ℕ, ◌/◌, ◌%◌, ◌^◌, ◌<◌}
use native.Mathlib.Omega.{arith}
use lib.Dec.{eqb}
use Rattle.point_darts.specs.Point.{half, has}
use Rattle.point_darts.proofs.Darts.{four}
use Rattle.point_rules.proofs.turn.has.Goals as goal

-- a mask shifted by a direction
shifted : (m k : ℕ) → k < 4 → m / 2 ^ k ≡ half m k
unfolding half
shifted m = four (λ k. m / 2 ^ k ≡ half m k) (omega arith) (omega arith) (omega arith) (omega arith)

pub returns : goal.returns
unfolding has
returns c = ap (λ x. eqb (x % 2) 1) (shifted _ _ c.requires)
