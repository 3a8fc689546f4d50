-- The names of the cells with the outside round them.
--   Down m t        == each of the first m entries of t is at most its place
--   surround w h    == the number of the names with the outside round them
--   framed w h n    == in rows of w + 1, for each point the name of the cell north-west of it, by the table n of names;
--                      one row and one entry more, so that the four cells round every point are there
use Rattle.std.specs.Prelude.{List, ℕ, ◌+◌, ◌/◌, ◌%◌, ◌≤◌, ◌<◌, get_or}
use Rattle.laws.specs.Table.{table}
use Rattle.point_darts.specs.Dart.{points}
use Rattle.paper.specs.Name.{named}

abbrev pub Down : ℕ → List ℕ → Type 0
Down m t = (k : ℕ) → k < m → get_or t k 0 ≤ k

abbrev pub surround : ℕ → ℕ → ℕ
surround w h = points w h + w + 2

unfoldable pub framed : ℕ → ℕ → List ℕ → List ℕ
framed w h n = table (surround w h) (λ i. named w h n (i % (w + 1)) (i / (w + 1)))
