use lib.ListN.{length}
use Rattle.paper.specs.Enclosure.{depth}
use Rattle.region_depths.specs.Census.{counted_at}
use Rattle.table_entries.proofs.Filled.{Filled}
use Rattle.region_depths.proofs.census.all_depths.Given as goal

abbrev pub invariant-loop-i : goal.invariant-loop-i
invariant-loop-i l = Filled (length l.parent) (counted_at depth l.parent) l.i l.initial.depths l.depths
