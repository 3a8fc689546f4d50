use Prim.Native.Nat.{◌≤◌}
use lib.ListN.{length}
use Rattle.point_darts.specs.Dart.{reversal}
use Rattle.paper.specs.Joining.{shared}
use Rattle.join_darts.specs.Listed.{Gap}
use Rattle.join_answer.proofs.adjoin.adjoin.Given as goal

abbrev pub invariant-loop-high : goal.invariant-loop-high
invariant-loop-high l = (l.high ≤ length l.side) × Gap (shared l.side (reversal l.fn.size.width) l.a l.b) l.high (length l.side)

abbrev pub decreases-loop-high : goal.decreases-loop-high
decreases-loop-high l = l.high
