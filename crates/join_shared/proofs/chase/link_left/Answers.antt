use Rattle.point_darts.specs.Dart.{mark}
use Rattle.join_shared.proofs.chase.link_left.Goals as goal

pub returns-then-gone : goal.returns-then-gone
unfolding mark
returns-then-gone c = rw c.if-gone.true
