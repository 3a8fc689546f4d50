use native.Mathlib.Omega.{arith}
use Rattle.table_entries.proofs.Rowed.{rowing_none, rowing_more}
use Rattle.region_names.proofs.frame.frame_row.Goals as goal

pub loop-x-init : goal.loop-x-init
loop-x-init c = rowing_none _ _ _

pub loop-x-preserved : goal.loop-x-preserved
loop-x-preserved c =
    rowing_more _ _ _ _ _ c.loop-x.invariant _ (omega arith)
