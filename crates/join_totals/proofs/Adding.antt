-- The sum of what two regions have, under the smaller name.
--   added a b k t   == what a and b have in the table t, added up less k, is the smaller's; the larger has none
use mathlib.Core.Path.{◌≡◌}
use mathlib.Core.List.{List}
use Prim.Native.Nat.{ℕ, ◌+◌, ◌-◌, ◌≤◌, ◌<◌, min, max}
use native.Mathlib.Omega.{arith}
use lib.ListN.{set}
use Rattle.point_darts.specs.Dart.{mark}
use Rattle.paper.specs.Joining.{at, added}

module _ (a b k : ℕ) (t : List ℕ) where
  pub added_less : a < b → set (set t a (at t a + at t b - k)) b mark ≡ added a b k t
  unfolding added
  added_less l = let p : min a b ≡ a = omega arith in let q : max a b ≡ b = omega arith in rw (p, q)

  pub added_more : b ≤ a → set (set t b (at t a + at t b - k)) a mark ≡ added a b k t
  unfolding added
  added_more l = let p : min a b ≡ b = omega arith in let q : max a b ≡ a = omega arith in rw (p, q)
