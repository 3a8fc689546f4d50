use Rattle.region_depths.specs.Census.{counts}
use Rattle.table_entries.proofs.Filled.{filled_all}
use Rattle.region_depths.proofs.census.all_depths.Goals as goal

pub returns : goal.returns
unfolding counts
returns c = filled_all _ _ _ _ _ c.loop-i.invariant c.loop-i-test.false
