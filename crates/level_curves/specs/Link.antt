-- The links of a level that keeps some points, levels 2 and 3, from the table x of level 1 next and the table k of the
-- points that are kept, 1 for kept (the paper, "The four levels").
--   kept_at k p      == point p is kept
--   starts x k d    == dart d is of level 1 and leaves a kept point
--   last_of n x k d  == the last dart of the run from d along x, which leads to a kept point, looked for n steps far
--   ahead x d       == the point that dart d leads to: its next along x leaves it
--   back x d        == the reversal of dart d
--   along_next ..   == the table of next; the mark where no dart starts
--   along_other ..  == the table of other, likewise
--   next_along, other_along == their entries
--   TwoWay w n x k  == a run is the same run back from its other end
--   Linking .. d y o == the tables y and o are being filled with next and other: every dart before d has its links, each from
--                      d on has them or the mark
use Rattle.std.specs.Prelude.{◌≡◌, Bool, true, cond, ◌&&◌, List, ◌⊎◌, ℕ, ◌+◌, ◌*◌, ◌≤◌, ◌<◌, eqb, length}
use Rattle.laws.specs.Run.{run}
use Rattle.point_darts.specs.Dart.{mark, slots, dart, point, direction, turned, reversal}
use Rattle.paper.specs.Level.{marked}
use Rattle.paper.specs.Joining.{at, on}

unfoldable pub ahead : List ℕ → ℕ → ℕ
ahead x d = point (at x d)

unfoldable pub kept_at : List ℕ → ℕ → Bool
kept_at k p = eqb (at k p) 1

unfoldable pub starts : List ℕ → List ℕ → ℕ → Bool
starts x k d = on x d && kept_at k (point d)

unfoldable pub last_of : ℕ → List ℕ → List ℕ → ℕ → ℕ
last_of n x k d = run (at x) (λ e. kept_at k (ahead x e)) n d

-- the reversal of dart d, where it leads to the point that its next leaves
unfoldable pub back : List ℕ → ℕ → ℕ
back x d = dart (ahead x d) (turned (direction d) 2)

unfoldable pub along_next : ℕ → ℕ → List ℕ → List ℕ → List ℕ
along_next w h x k = marked w h (starts x k) (λ d. at x (last_of (slots w h) x k d))

unfoldable pub along_other : ℕ → ℕ → List ℕ → List ℕ → List ℕ
along_other w h x k = marked w h (starts x k) (λ d. back x (last_of (slots w h) x k d))

unfoldable pub next_along : ℕ → List ℕ → List ℕ → ℕ → ℕ
next_along n x k d = cond (starts x k d) (at x (last_of n x k d)) mark

unfoldable pub other_along : ℕ → List ℕ → List ℕ → ℕ → ℕ
other_along n x k d = cond (starts x k d) (back x (last_of n x k d)) mark

pub record TwoWay (w n : ℕ) (x k : List ℕ) : Type 0 where
  pub stays : (d : ℕ) → on x d ≡ true → on x (at x d) ≡ true
  pub other_back : (d : ℕ) → starts x k d ≡ true → other_along n x k (other_along n x k d) ≡ d
  pub next_back : (d : ℕ) → starts x k d ≡ true → next_along n x k (other_along n x k d) ≡ at x (reversal w d)

pub record Linking (w n : ℕ) (x k : List ℕ) (d : ℕ) (y o : List ℕ) : Type 0 where
  pub runs : TwoWay w n x k
  pub fits : n + 4 * (w + 2) ≤ mark
  pub lines : length x ≡ n
  pub points : 4 * length k ≡ n
  pub nexts : length y ≡ n
  pub others : length o ≡ n
  pub entry : (s : ℕ) → s < n
      → ((at y s ≡ next_along n x k s) × (at o s ≡ other_along n x k s)) ⊎ ((d ≤ s) × (at y s ≡ mark) × (at o s ≡ mark))
