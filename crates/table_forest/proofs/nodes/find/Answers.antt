use Rattle.table_forest.proofs.Label.{halved_again}
use Rattle.table_forest.proofs.nodes.find.Goals as goal

pub loop-node-preserved : goal.loop-node-preserved
loop-node-preserved c =
    halved_again _ _ _ _ c.loop-node.invariant c.requires
