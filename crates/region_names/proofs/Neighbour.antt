-- The back neighbours of a cell, as the code finds them.
use mathlib.Core.Path.{◌≡◌}
use mathlib.Core.Bool.{Bool, true, false, cond, ◌&&◌}
use mathlib.Core.List.{List}
use Prim.Native.Nat.{ℕ, ◌-◌, ◌%◌, ◌≤◌}
use native.Mathlib.Omega.{arith}
use lib.Dec.{eqb, ltb, leb}
use Rattle.paper.specs.Name.{label, west, north}

-- A rule leads m cells back, or stays at i.
back_le : (b : Bool) (m i r : ℕ) → r ≡ cond b (i - m) i → r ≤ i
back_le true m i r e = omega arith
back_le false m i r e = omega arith

module _ (w : ℕ) (s : List ℕ) (i r : ℕ) where
  -- the column decides whether a cell has a west neighbour
  pub west_column : (x : ℕ) → x ≡ i % w → r ≡ cond (ltb 0 x && eqb (label s i) (label s (i - 1))) (i - 1) i
      → r ≡ west w s i
  unfolding west
  west_column x p q = rw p at q

  pub west_back : r ≡ west w s i → r ≤ i
  unfolding west
  west_back = back_le (ltb 0 (i % w) && eqb (label s i) (label s (i - 1))) 1 i r

  pub north_back : r ≡ north w s i → r ≤ i
  unfolding north
  north_back = back_le (leb w i && eqb (label s i) (label s (i - w))) w i r
