use native.Mathlib.Omega.{arith}
use Rattle.table_forest.proofs.Label.{linked}
use Rattle.table_forest.proofs.nodes.link.Goals as goal

pub returns-then-a-b-clause-linked : goal.returns-then-a-b-clause-linked
returns-then-a-b-clause-linked c =
    λ m l f p q u v. linked l _ _ _ _ (omega arith) (omega arith) m _ f q _ (omega arith) v u

pub returns-else-a-b-clause-linked : goal.returns-else-a-b-clause-linked
returns-else-a-b-clause-linked c =
    λ m l f p q u v. linked l _ _ _ _ (omega arith) (omega arith) m _ f p _ (omega arith) u v
