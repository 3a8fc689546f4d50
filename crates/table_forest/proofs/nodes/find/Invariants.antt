use Rattle.table_forest.proofs.Label.{Halved}
use Rattle.table_forest.proofs.nodes.find.Given as goal

abbrev pub invariant-loop-node : goal.invariant-loop-node
invariant-loop-node l = Halved l.i l.initial.nodes l.nodes l.node

abbrev pub decreases-loop-node : goal.decreases-loop-node
decreases-loop-node l = l.node
