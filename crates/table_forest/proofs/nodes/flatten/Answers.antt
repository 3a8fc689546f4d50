use Rattle.table_forest.proofs.Label.{flattened_all, flattened_again}
use Rattle.table_forest.proofs.nodes.flatten.Goals as goal

pub loop-i-preserved : goal.loop-i-preserved
loop-i-preserved c = flattened_again _ _ _ c.loop-i.invariant c.loop-i-test.true

pub returns : goal.returns
returns c g = flattened_all _ _ _ c.loop-i.invariant g c.loop-i-test.false
