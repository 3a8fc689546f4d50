-- The darts of each region, in lists. A table s has the sides of darts, and g groups them: regions that were joined have one group.
--   along t k d     == k steps from dart d on in the table t, where each dart leads to the next
--   Reached t m d e == the table t leads from d to e in fewer than m steps
--   Of s g x d      == dart d has a side, and it is of the group x
--   size s g x      == how many darts are of the group x
--   Lists s g t f l == the darts of each group are in a list: the table t leads from each to the next, the last to the mark; the table f
--                      has the first of each group, and the table l the last
use Rattle.std.specs.Prelude.{◌≡◌, true, ◌&&◌, List, ◌≢◌, ℕ, zero, suc, ◌<◌, eqb, length}
use Rattle.laws.specs.Table.{count}
use Rattle.point_darts.specs.Dart.{mark}
use Rattle.paper.specs.Joining.{at, on}

unfoldable pub along : List ℕ → ℕ → ℕ → ℕ
along t zero d = d
along t (suc k) d = along t k (at t d)

pub record Reached (t : List ℕ) (m d e : ℕ) : Type 0 where
  pub steps : ℕ
  pub few : steps < m
  pub there : along t steps d ≡ e

pub record Of (s : List ℕ) (g : ℕ → ℕ) (x d : ℕ) : Type 0 where
  pub sided : on s d ≡ true
  pub group : g (at s d) ≡ x

unfoldable pub size : List ℕ → (ℕ → ℕ) → ℕ → ℕ
size s g x = count (length s) (λ d. on s d && eqb (g (at s d)) x)

pub record Lists (s : List ℕ) (g : ℕ → ℕ) (t f l : List ℕ) : Type 0 where
  pub all : (x d : ℕ) → Of s g x d → Reached t (size s g x) (at f x) d
  pub first : (x d : ℕ) → Of s g x d → Of s g x (at f x)
  pub next : (x d : ℕ) → Of s g x d → at t d ≢ mark → Of s g x (at t d)
  pub last : (x d : ℕ) → Of s g x d → Of s g x (at l x)
  pub end : (x d : ℕ) → Of s g x d → at t (at l x) ≡ mark
