use mathlib.Core.Bool.{cond}
use lib.ListN.{length}
use Rattle.paper.specs.Joining.{at, on}
use Rattle.point_darts.specs.Dart.{mark}
use Rattle.table_entries.proofs.Filled.{Filled}
use Rattle.table_entries.proofs.entry.trim.Given as goal

abbrev pub invariant-loop-i : goal.invariant-loop-i
invariant-loop-i l = Filled (length l.initial.table) (λ d. cond (on l.links d) (at l.initial.table d) mark) l.i l.initial.table l.table
