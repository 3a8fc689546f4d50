-- A table that follows a table of links.
--   trimmed x t == the table t, with the mark where the table x of links has it
use Rattle.std.specs.Prelude.{cond, List, ℕ, length}
use Rattle.laws.specs.Table.{table}
use Rattle.point_darts.specs.Dart.{mark}
use Rattle.paper.specs.Joining.{at, on}

unfoldable pub trimmed : List ℕ → List ℕ → List ℕ
trimmed x t = table (length t) (λ d. cond (on x d) (at t d) mark)
