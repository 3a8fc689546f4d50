use Rattle.table_forest.proofs.Label.{Flattened}
use Rattle.table_forest.proofs.nodes.flatten.Given as goal

abbrev pub invariant-loop-i : goal.invariant-loop-i
invariant-loop-i l = Flattened l.initial.nodes l.nodes l.i
