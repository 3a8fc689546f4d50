use mathlib.Core.Bool.{cond}
use Rattle.laws.specs.Least.{lower}
use Rattle.point_darts.specs.Dart.{mark}
use Rattle.paper.specs.Joining.{at, on}
use Rattle.table_entries.proofs.Half.{Half}
use Rattle.join_lower.proofs.side.lower_sides.Given as goal

abbrev pub invariant-loop-i : goal.invariant-loop-i
invariant-loop-i l = Half (λ d. cond (on l.lines d) (lower l.a l.b (at l.initial.side d)) mark) l.i l.initial.side l.side
