use Rattle.point_darts.specs.Dart.{reversal}
use Rattle.paper.specs.Joining.{shared}
use Rattle.join_darts.specs.Listed.{Gap}
use Rattle.join_answer.proofs.adjoin.adjoin_part.Given as goal

abbrev pub invariant-loop-i : goal.invariant-loop-i
invariant-loop-i l = Gap (shared l.side (reversal l.width) l.a l.b) l.low l.i
