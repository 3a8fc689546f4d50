use lib.ListN.{length}
use Rattle.join_darts.specs.Listed.{bounds, Listing}
use Rattle.join_darts.proofs.list.list_darts.Given as goal

abbrev pub invariant-loop-high : goal.invariant-loop-high
invariant-loop-high l = Listing (bounds l.side l.a l.b) (length l.initial.list) l.high l.first l.list

abbrev pub decreases-loop-high : goal.decreases-loop-high
decreases-loop-high l = l.high
