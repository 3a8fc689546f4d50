use Prim.Native.Nat.{◌-◌}
use lib.ListN.{get_or}
use Rattle.table_entries.proofs.Half.{Half}
use Rattle.join_groups.proofs.group.take_one.Given as goal

abbrev pub invariant-loop-name : goal.invariant-loop-name
invariant-loop-name l = Half (λ k. get_or l.initial.names k 0 - 1) l.name-index l.initial.names l.names
