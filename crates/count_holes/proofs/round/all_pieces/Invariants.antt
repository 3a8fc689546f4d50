use Rattle.count_holes.proofs.Rounding.{Tallied}
use Rattle.count_holes.proofs.round.all_pieces.Given as goal

abbrev pub invariant-loop-p : goal.invariant-loop-p
invariant-loop-p l = Tallied l.side l.tops l.p l.n l.tally
