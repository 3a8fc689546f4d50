use Prim.Native.Nat.{◌+◌}
use Rattle.table_entries.proofs.Rowed.{Rowing}
use Rattle.region_parents.specs.Corner.{parent_from}
use Rattle.region_parents.proofs.parent.parents_row.Given as goal

abbrev pub invariant-loop-x : goal.invariant-loop-x
invariant-loop-x l =
    Rowing (λ i. parent_from l.width l.side l.tops (l.corner + i) (l.name + i)) l.name l.x l.initial.parents l.parents
