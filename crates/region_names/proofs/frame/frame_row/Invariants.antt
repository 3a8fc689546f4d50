use Prim.Native.Nat.{suc, ◌+◌}
use lib.ListN.{get_or}
use Rattle.table_entries.proofs.Rowed.{Rowing}
use Rattle.region_names.proofs.frame.frame_row.Given as goal

abbrev pub invariant-loop-x : goal.invariant-loop-x
invariant-loop-x l = Rowing (λ i. suc (get_or l.first (l.from + i) 0)) l.to l.x l.initial.names l.names
