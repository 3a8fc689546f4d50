-- The group of a region, found in the forest of first cells.
--   group_of l v     == the name of the group that the region named v is of, by the first cells l
--   Planted i t     == t is a forest of some labels, and i is one of its nodes
--   Found m l i t r == t is a forest of the labels l, and r is the root of node i
use mathlib.Core.Path.{◌≡◌, refl}
use mathlib.Core.List.{List}
use mathlib.Core.Logic.{◌≢◌}
use Prim.Native.Nat.{ℕ, zero, suc, ◌+◌, ◌-◌, ◌≤◌, ◌<◌}
use native.Mathlib.Omega.{arith}
use lib.ListN.{length, get_or}
use Rattle.table_forest.specs.Forest.{Forest, Planted, Found}
use Rattle.join_groups.specs.Group.{group_of}

pub group_outside : (l : List ℕ) (v : ℕ) → v ≡ 0 → 0 ≡ group_of l v
unfolding group_of
group_outside l v e = rw e

abbrev pub cell_planted : (v : ℕ) (t : List ℕ) → v ≢ 0 → v ≤ length t → (l : List ℕ) → Forest (length t) l t → Planted (v - 1) t
cell_planted v t n b l f = record { nodes = length t; labels = l; below = omega arith; forest = f }

module _ (v m : ℕ) (l u : List ℕ) (r : ℕ) (n : v ≢ 0) (f : Found m l (v - 1) u r) where
  pub found_below : r < v
  found_below = omega (arith, f.label, f.forest.labels.low (v - 1))

  pub group_found : r + 1 ≡ group_of l v
  unfolding group_of
  group_found = by v n f.label
    where
      by : (v : ℕ) → v ≢ 0 → r ≡ get_or l (v - 1) 0 → r + 1 ≡ group_of l v
      by zero n e = absurd (n refl)
      by (suc i) n e = let k : suc i - 1 ≡ i = omega arith in rw (e, k) (omega arith)
