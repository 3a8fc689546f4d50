use Rattle.paper.specs.Joining.{between, shared}
use Rattle.join_shared.proofs.chase.is_shared.Goals as goal

pub returns : goal.returns
unfolding shared between
returns c = rw (c.get-right.ensures, c.get-left.ensures, c.get.ensures)
