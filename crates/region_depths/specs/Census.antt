-- The counts of all names.
--   counted_at f t r == f t r where r is the outside or a name in use, else the mark
--   counts f t      == the table of these, by name
use Rattle.std.specs.Prelude.{◌≡◌, cond, List, ℕ, ◌≤◌, ◌<◌, length, get_or}
use Rattle.laws.specs.Table.{table}
use Rattle.point_darts.specs.Dart.{mark}
use Rattle.paper.specs.Enclosure.{depth}
use Rattle.region_depths.specs.Tree.{known, Falls}

unfoldable pub counted_at : (List ℕ → ℕ → ℕ) → List ℕ → ℕ → ℕ
counted_at f t r = cond (known t r) (f t r) mark

unfoldable pub counts : (List ℕ → ℕ → ℕ) → List ℕ → List ℕ
counts f t = table (length t) (counted_at f t)

-- On the way to the depths of all names.
--   Deepened t r l  == l has the depths of the names below r
pub record Deepened (t : List ℕ) (r : ℕ) (l : List ℕ) : Type 0 where
  pub falls : Falls t
  pub fits : length t ≤ mark
  pub below : r < length t
  pub long : length l ≡ length t
  pub entry : (k : ℕ) → k < r → get_or l k 0 ≡ counted_at depth t k
