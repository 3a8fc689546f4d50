-- What two regions have, added up.
--   Sums w h s c b i j == the sums of what the regions i and j have in the tables c and b of cells and border lines fit; the darts
--                      with the sides i and j, by the table s, are twice the lines that the two share, and these are not more
--                      than their border lines
use Rattle.std.specs.Prelude.{◌≡◌, List, ℕ, ◌+◌, ◌*◌, ◌≤◌}
use Rattle.laws.specs.Table.{count}
use Rattle.point_darts.specs.Dart.{mark, slots, reversal}
use Rattle.paper.specs.Joining.{at, shared, shared_lines}

pub record Sums (w h : ℕ) (s c b : List ℕ) (i j : ℕ) : Type 0 where
  pub cells : at c i + at c j ≤ mark
  pub borders : at b i + at b j ≤ mark
  pub twice : count (slots w h) (shared s (reversal w) i j) ≡ 2 * shared_lines w h s i j
  pub less : 2 * shared_lines w h s i j ≤ at b i + at b j
